use Rattle.std.proofs.Common.{◌≡◌, ℕ, ◌+◌, ◌<◌, ◌∙◌, sym, ap, subst, arith, take, List, IfOk}
use Rattle.spec_sessions.specs.Tables as tables
use Rattle.sess_table.proofs.Order.{due-by_limit, due-early}
use Rattle.sess_table.proofs.Changes.{IfOk-other}
use Rattle.sess_table.proofs.table.Table.due.Goals as goal

pub returns-in-Some : goal.returns-in-Some
returns-in-Some c =
    let due = due-by_limit c.self.inside.timeout c.args.time c.in-Some.limit c.self.inside.sessions.entries c.self.inside.signs c.self.invariant.timed (omega (arith, c.in-Some.ensures)) in
    let Gives : tables.Table → Type 0 = λ t. IfOk c.first_due.result (λ sessions. sessions ≡ tables.due t c.args.time) in
    subst Gives c.self.view_is (IfOk-other c.first_due.result _ _ (ap (λ (xs : List ℕ). take 16 xs) (sym due)) c.first_due.ensures)

pub returns-in-None : goal.returns-in-None
returns-in-None c =
    let due = due-early c.self.inside.timeout c.args.time c.self.inside.sessions.entries c.self.inside.signs (omega (arith, c.in-None.ensures)) in
    let Gives : tables.Table → Type 0 = λ t. c.new.result ≡ tables.due t c.args.time in
    subst Gives c.self.view_is (c.new.ensures ∙ ap (λ (xs : List ℕ). take 16 xs) (sym due))
