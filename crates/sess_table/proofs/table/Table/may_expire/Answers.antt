use Rattle.std.proofs.Common.{◌≡◌, ℕ, ◌+◌, ◌-◌, ◌∙◌, sym, ap, subst, arith, nat_le}
use Rattle.spec_sessions.specs.Tables as tables
use Rattle.sess_table.proofs.Order.{find-live, due_by_limit}
use Rattle.sess_table.proofs.table.Table.may_expire.Goals as goal

pub returns-in-Some-Some : goal.returns-in-Some-Some
returns-in-Some-Some c =
    let sign = c.in-Some-Some.sign in
    let limit = c.in-Some-Some.limit in
    let timeout = c.self.inside.timeout in
    let whole : c.args.time ≡ limit + timeout = omega (arith, c.in-Some-Some.ensures') in
    let found = find-live c.args.session c.self.inside.sessions.entries c.self.inside.signs c.in-Some.index sign c.self.invariant.unique c.in-Some.ensures.0 c.in-Some-Some.ensures in
    let Gives : tables.Table → Type 0 = λ t. nat_le sign limit ≡ tables.may_expire t c.args.session c.args.time in
    subst Gives c.self.view_is (rw found.1 (sym (ap (λ n. nat_le timeout (c.args.time - n)) found.2 ∙ due_by_limit timeout c.args.time limit sign c.self.invariant.timed whole)))
