use Rattle.std.proofs.Common.{sym}
use Rattle.res_registry.specs.Walk as walks
use Rattle.res_registry.proofs.Written.{written}
use Rattle.res_registry.proofs.visits.unlisten_at.Goals as goal

pub returns-in-Some : goal.returns-in-Some
returns-in-Some c =
    let w = c.unlisten.new.self in
    written (walks.unlisten_visit c.args.session) c.args.slots.now.entries (c.get_mut.follows.lender w).entries c.args.name.now c.in-Some.slot.now w
    c.get_mut.ensures.ordered (sym c.in-Some.ensures.value) c.unlisten.ensures (c.get_mut.follows.holds w).0
