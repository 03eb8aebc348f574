use Rattle.std.proofs.Common.{◌≤◌, length, arith, ap, sym, ◌∙◌}
use Rattle.spec_raft.specs.Progress.{test_peer, falls_at, refusing}
use Rattle.raft_commit.proofs.Peers.{gone, found, changed, peer_none, change_none}
use Rattle.raft_commit.proofs.progress.Progress.refused.Goals as goal

pub returns-then-place-self-clause-falls : goal.returns-then-place-self-clause-falls
returns-then-place-self-clause-falls c = sym (ap (λ p. test_peer (falls_at c.args.hint) p) (peer_none c.args.self.now c.args.node (gone c.self.inside.peers c.args.self.now c.self.inside.peer_count c.args.node c.peer_index-place.result c.self.view_is c.peer_index-place.ensures c.if-place-self.true)))

pub returns-then-place-self-clause-after : goal.returns-then-place-self-clause-after
returns-then-place-self-clause-after c = sym (change_none (refusing c.args.hint c.args.round) c.args.self.now c.args.node (gone c.self.inside.peers c.args.self.now c.self.inside.peer_count c.args.node c.peer_index-place.result c.self.view_is c.peer_index-place.ensures c.if-place-self.true))

pub returns-clause-falls : goal.returns-clause-falls
returns-clause-falls c =
    let within : c.self.inside.peer_count ≤ length c.self.inside.peers = omega (arith, c.self.invariant.0, c.self.invariant.1) in
    c.refuse-falls.ensures.falls
    ∙ sym (ap (λ p. test_peer (falls_at c.args.hint) p) (found c.self.inside.peers c.args.self.now c.self.inside.peer_count c.args.node c.peer_index-place.result c.index-self-place.result c.self.view_is c.peer_index-place.ensures c.if-place-self.false within))

pub returns-clause-after : goal.returns-clause-after
returns-clause-after c =
    let within : c.self.inside.peer_count ≤ length c.self.inside.peers = omega (arith, c.self.invariant.0, c.self.invariant.1) in
    changed (refusing c.args.hint c.args.round) c.self.inside.peers c.args.self.now c.self.inside.peer_count c.args.node c.peer_index-place.result c.index-self-place.result c.refuse-falls.new.self c.self.view_is c.peer_index-place.ensures c.if-place-self.false within c.refuse-falls.ensures.after
