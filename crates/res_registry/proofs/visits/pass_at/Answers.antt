use Rattle.std.proofs.Common.{sym}
use Rattle.res_registry.specs.Walk as walks
use Rattle.res_registry.proofs.Written.{written}
use Rattle.res_registry.proofs.Turns.{ends-written}
use Rattle.res_registry.proofs.visits.pass_at.Goals as goal

pub returns-in_ok-change-in-Some-clause-after : goal.returns-in_ok-change-in-Some-clause-after
returns-in_ok-change-in-Some-clause-after c =
    let w = c.pass.new.self in
    written (walks.pass_visit c.args.time) c.args.slots.now.entries (c.get_mut.follows.lender w).entries c.args.name.now c.in-Some.slot.now w
    c.get_mut.ensures.ordered (sym c.in-Some.ensures.value) c.in_ok-told-in-Some.ensures.after (c.get_mut.follows.holds w).0

pub returns-in_ok-change-in-Some-clause-ends : goal.returns-in_ok-change-in-Some-clause-ends
returns-in_ok-change-in-Some-clause-ends c =
    let w = c.pass.new.self in
    ends-written c.args.slots.now.entries (c.get_mut.follows.lender w).entries c.args.ends.now c.change.new.self c.args.name.now c.in-Some.slot.now w
    c.next_end-before.result c.next_end-after.result c.get_mut.ensures.ordered (sym c.in-Some.ensures.value) (c.get_mut.follows.holds w).0
    c.next_end-before.ensures c.next_end-after.ensures c.in_ok-change-in-Some.ensures.ok
