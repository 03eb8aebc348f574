-- One more place is applied, and after the last one nothing is left.
use Rattle.std.proofs.Common.{arith}
use Rattle.server_parts.proofs.PlacesApplied.{next_place, acts_are, packets_are, state_is}
use Rattle.server_parts.proofs.places.apply_all.Goals as goal

pub places-preserved : goal.places-preserved
places-preserved c =
    next_place c.args.raft.now c.args.connections.now c.args.state.now c.args.packets.now c.places.state c.apply_entry.new.state c.places.packets c.apply_entry.new.packets c.places.acts
    c.apply_entry.new.acts c.places.before c.entry-entry.result.now c.places.invariant (omega arith) c.entry-entry.ensures c.in_ok-apply_entry.ensures.acts
    c.in_ok-apply_entry.ensures.packets c.in_ok-apply_entry.ensures.after

pub returns-clause-acts : goal.returns-clause-acts
returns-clause-acts c =
    acts_are c.args.raft.now c.args.connections.now c.args.state.now c.args.packets.now c.places.state c.places.packets c.places.acts c.places.before c.places.invariant (omega arith)

pub returns-clause-packets : goal.returns-clause-packets
returns-clause-packets c =
    packets_are c.args.raft.now c.args.connections.now c.args.state.now c.args.packets.now c.places.state c.places.packets c.places.acts c.places.before c.places.invariant (omega arith)

pub returns-clause-after : goal.returns-clause-after
returns-clause-after c =
    state_is c.args.raft.now c.args.connections.now c.args.state.now c.args.packets.now c.places.state c.places.packets c.places.acts c.places.before c.places.invariant (omega arith)
