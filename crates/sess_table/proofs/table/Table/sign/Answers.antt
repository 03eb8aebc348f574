use Rattle.std.proofs.Common.{◌≡◌, ◌∙◌, refl, sym, ap, subst, Some, None}
use Rattle.std.proofs.lemmas.Option.{MatchOption-at_none}
use Rattle.ax_types.specs.declared.sessions.SessionState.TheVariants as state
use Rattle.spec_sessions.specs.Tables as tables
use Rattle.sess_table.proofs.Order.{signed-at}
use Rattle.sess_table.proofs.Changes.{kept-signed, not_live}
use Rattle.sess_table.proofs.table.Table.sign.Goals as goal

pub invariant_of-self : goal.invariant_of-self
invariant_of-self c =
    rw c.set.ensures
    (kept-signed c.self.inside.timeout c.self.inside.sessions.entries c.self.inside.signs c.self.inside.past.entries c.in-Some.index c.args.session c.args.time
    c.self.invariant c.in-Some.ensures.0 c.in-Some.ensures.1)

pub returns-in-Some : goal.returns-in-Some
returns-in-Some c =
    let signed = signed-at c.args.session c.args.time c.self.inside.sessions.entries c.self.inside.signs c.in-Some.index c.self.invariant.unique c.in-Some.ensures.0 c.in-Some.ensures.1 in
    rw (← c.self.view_is, c.set.ensures, ← signed) refl

pub returns-in_default : goal.returns-in_default
returns-in_default c =
    let Live : tables.Table → Type 0 = λ t. tables.state_of t c.args.session ≡ state.Live in
    let live = subst Live (sym c.self.view_is) c.requires in
    let none = MatchOption-at_none _ _ c.in_default.is c.live_index.ensures in
    absurd (not_live _ (rw none at live))
