use Rattle.std.proofs.Common.{◌≡◌, ℕ, ◌∙◌, ◌++◌, ◌∷◌, [], refl, sym, ap, subst, nat_eq, map, List, Some, None}
use Rattle.std.proofs.lemmas.List.{map-append}
use Rattle.std.proofs.lemmas.Option.{MatchOption-at_none}
use Rattle.indexmap.proofs.CallerLemmas.{insert_entry-new}
use Rattle.ax_types.specs.declared.sessions.SessionState.TheVariants as state
use Rattle.spec_sessions.specs.Tables as tables
use Rattle.sess_table.specs.declared.table.Past.{Past as Ending}
use Rattle.sess_table.specs.Endings as endings
use Rattle.sess_table.proofs.Order.{finished-at, none_from}
use Rattle.sess_table.proofs.Changes.{kept-finished, not_live, not_past}
use Rattle.sess_table.proofs.table.Table.finish.Goals as goal

pub invariant_of-self-in-Some : goal.invariant_of-self-in-Some
invariant_of-self-in-Some c =
    let es = c.self.inside.sessions.entries in
    let past : List (ℕ × Ending) = c.self.inside.past.entries in
    let e : Ending = record { place = c.args.place; how = c.args.how } in
    let absent = none_from _ (not_past c.self.inside.timeout es c.self.inside.signs past c.in-Some.index c.args.session c.self.invariant c.in-Some.ensures.0 c.in-Some.ensures.1) in
    let added : c.insert.new.self.entries ≡ past ++ (c.args.session, e) ∷ [] = c.in_ok-insert.ensures.entries ∙ insert_entry-new nat_eq c.self.inside.past c.args.session e absent in
    rw (c.set.ensures, added)
    (kept-finished c.self.inside.timeout es c.self.inside.signs past c.in-Some.index c.args.session e c.self.invariant c.in-Some.ensures.0 c.in-Some.ensures.1)

pub returns-in-Some-clause-ok : goal.returns-in-Some-clause-ok
returns-in-Some-clause-ok c =
    let es = c.self.inside.sessions.entries in
    let past : List (ℕ × Ending) = c.self.inside.past.entries in
    let e : Ending = record { place = c.args.place; how = c.args.how } in
    let absent = none_from _ (not_past c.self.inside.timeout es c.self.inside.signs past c.in-Some.index c.args.session c.self.invariant c.in-Some.ensures.0 c.in-Some.ensures.1) in
    let added : c.insert.new.self.entries ≡ past ++ (c.args.session, e) ∷ [] = c.in_ok-insert.ensures.entries ∙ insert_entry-new nat_eq c.self.inside.past c.args.session e absent in
    let finished = finished-at c.args.session es c.self.inside.signs c.in-Some.index c.self.invariant.unique c.in-Some.ensures.0 c.in-Some.ensures.1 in
    rw (← c.self.view_is, c.set.ensures, added, ← finished, map-append endings.past_of past ((c.args.session, e) ∷ [])) refl

pub returns-in_default-clause-ok : goal.returns-in_default-clause-ok
returns-in_default-clause-ok c =
    let Live : tables.Table → Type 0 = λ t. tables.state_of t c.args.session ≡ state.Live in
    let live = subst Live (sym c.self.view_is) c.requires in
    let none = MatchOption-at_none _ _ c.in_default.is c.live_index.ensures in
    absurd (not_live _ (rw none at live))
