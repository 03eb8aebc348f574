use Rattle.std.proofs.Common.{◌≡◌, ℕ, ◌∙◌, sym, ap, subst, refl, nat_eq, Option, Some, None, map}
use Rattle.std.specs.Prelude.{find}
use Rattle.std.specs.Option.{option_map}
use Rattle.std.proofs.lemmas.Option.{MatchOption-at_none, MatchOption-at_some}
use Rattle.ax_types.specs.declared.sessions.SessionState.TheVariants as state
use Rattle.spec_sessions.specs.Tables as tables
use Rattle.sess_table.specs.declared.table.Past.{Past as Ending}
use Rattle.sess_table.specs.Endings as endings
use Rattle.sess_table.proofs.Order.{find-live, none_from}
use Rattle.sess_table.proofs.Ends.{find-past}
use Rattle.sess_table.proofs.Changes.{some_from, live_sign}
use Rattle.sess_table.proofs.table.Table.state_of.Goals as goal

pub returns-then-is_some : goal.returns-then-is_some
returns-then-is_some c =
    let index = some_from c.live_index.result (sym c.if-is_some.ensures) in
    let at = MatchOption-at_some _ _ index.0 index.1 c.live_index.ensures in
    let sign = live_sign _ at.1 in
    let found = find-live c.args.session c.self.inside.sessions.entries c.self.inside.signs index.0 sign.0 c.self.invariant.unique at.0 sign.1 in
    let Gives : tables.Table → Type 0 = λ t. state.Live ≡ tables.state_of t c.args.session in
    subst Gives c.self.view_is (rw found.1 refl)

pub returns-in-Some : goal.returns-in-Some
returns-in-Some c =
    let none = MatchOption-at_none _ _ (none_from c.live_index.result (sym c.if-is_some.ensures)) c.live_index.ensures in
    let past : Ending = c.in-Some.past.now in
    let found : find (λ p. nat_eq p.session c.args.session) (map endings.past_of c.self.inside.past.entries) ≡ Some (endings.past_of (c.args.session, past)) =
    find-past c.args.session c.self.inside.past.entries ∙ ap (λ (r : Option Ending). option_map (λ v. endings.past_of (c.args.session, v)) r) (sym c.in-Some.ensures.value) in
    let Gives : tables.Table → Type 0 = λ t. state.Ended past.place past.how ≡ tables.state_of t c.args.session in
    subst Gives c.self.view_is (rw (none, found) refl)

pub returns-in-None : goal.returns-in-None
returns-in-None c =
    let none = MatchOption-at_none _ _ (none_from c.live_index.result (sym c.if-is_some.ensures)) c.live_index.ensures in
    let found : find (λ p. nat_eq p.session c.args.session) (map endings.past_of c.self.inside.past.entries) ≡ None =
    find-past c.args.session c.self.inside.past.entries ∙ ap (λ (r : Option Ending). option_map (λ v. endings.past_of (c.args.session, v)) r) (sym c.in-None.ensures.value) in
    let Gives : tables.Table → Type 0 = λ t. state.Unknown ≡ tables.state_of t c.args.session in
    subst Gives c.self.view_is (rw (none, found) refl)
