use Rattle.std.proofs.Common.{sym}
use Rattle.res_registry.specs.Walk as walks
use Rattle.res_registry.proofs.Written.{written}
use Rattle.res_registry.proofs.visits.leave_at.Goals as goal

pub returns-in_ok-leave-in-Some-clause-after : goal.returns-in_ok-leave-in-Some-clause-after
returns-in_ok-leave-in-Some-clause-after c =
    let w = c.leave.new.self in
    written (walks.leave_visit c.args.place c.args.session) c.args.slots.now.entries (c.get_mut.follows.lender w).entries c.args.name.now c.in-Some.slot.now w
    c.get_mut.ensures.ordered (sym c.in-Some.ensures.value) c.in_ok-leave-in-Some.ensures.after (c.get_mut.follows.holds w).0
