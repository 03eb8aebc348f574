-- The new session is none of those before, so it comes last.
use Rattle.std.proofs.Common.{◌≡◌, ℕ, ◌+◌, ◌<◌, ◌∙◌, ◌++◌, ◌∷◌, [], refl, sym, ap, subst, arith, nat_eq, is_some, cond, length, List, Option, Some, None}
use Rattle.std.specs.Map.{lookup}
use Rattle.std.specs.Option.{IsSome}
use Rattle.indexmap.proofs.CallerLemmas.{insert_entry-new}
use Rattle.spec_sessions.specs.Tables as tables
use Rattle.sess_table.specs.declared.live.Origin.{Origin}
use Rattle.sess_table.specs.TableParts as table_parts
use Rattle.sess_table.proofs.Order.{live-push}
use Rattle.sess_table.proofs.Changes.{fresh, past_below, kept-registered, last_popped}
use Rattle.sess_table.proofs.table.Table.register.Goals as goal

pub invariant_of-self-in-Err : goal.invariant_of-self-in-Err
invariant_of-self-in-Err c =
    let es : List (ℕ × Origin) = c.self.inside.sessions.entries in
    let o : Origin = record { client = c.args.client; opening = c.args.opening } in
    let New : tables.Table → Type 0 = λ t. table_parts.IsNew t c.args.place in
    let new = subst New (sym c.self.view_is) c.requires in
    let absent : lookup (nat_eq c.args.place) es ≡ None = fresh c.self.inside.timeout es c.self.inside.signs c.self.inside.past.entries c.args.place c.self.invariant new.0 new.1 in
    let added : c.insert.new.self.entries ≡ es ++ (c.args.place, o) ∷ [] = c.in_ok-insert.ensures.entries ∙ insert_entry-new nat_eq c.self.inside.sessions c.args.place o absent in
    let some : 0 < length (es ++ (c.args.place, o) ∷ []) → IsSome c.pop.result = rw (← added) c.pop.ensures.found.1 in
    let back : c.pop.new.self.entries ≡ es = last_popped c.pop.result es c.pop.new.self.entries (c.args.place, o) (sym added ∙ c.pop.ensures.entries) (rw (← added) c.pop.ensures.len) some in
    rw (back, c.in-Err.ensures.err) c.self.invariant

pub returns-in-Err-clause-err : goal.returns-in-Err-clause-err
returns-in-Err-clause-err c =
    let es : List (ℕ × Origin) = c.self.inside.sessions.entries in
    let o : Origin = record { client = c.args.client; opening = c.args.opening } in
    let New : tables.Table → Type 0 = λ t. table_parts.IsNew t c.args.place in
    let new = subst New (sym c.self.view_is) c.requires in
    let absent : lookup (nat_eq c.args.place) es ≡ None = fresh c.self.inside.timeout es c.self.inside.signs c.self.inside.past.entries c.args.place c.self.invariant new.0 new.1 in
    let added : c.insert.new.self.entries ≡ es ++ (c.args.place, o) ∷ [] = c.in_ok-insert.ensures.entries ∙ insert_entry-new nat_eq c.self.inside.sessions c.args.place o absent in
    let some : 0 < length (es ++ (c.args.place, o) ∷ []) → IsSome c.pop.result = rw (← added) c.pop.ensures.found.1 in
    let back : c.pop.new.self.entries ≡ es = last_popped c.pop.result es c.pop.new.self.entries (c.args.place, o) (sym added ∙ c.pop.ensures.entries) (rw (← added) c.pop.ensures.len) some in
    rw (back, c.in-Err.ensures.err) c.self.view_is

pub invariant_of-self-in-Ok : goal.invariant_of-self-in-Ok
invariant_of-self-in-Ok c =
    let es : List (ℕ × Origin) = c.self.inside.sessions.entries in
    let ss = c.self.inside.signs in
    let past = c.self.inside.past.entries in
    let o : Origin = record { client = c.args.client; opening = c.args.opening } in
    let New : tables.Table → Type 0 = λ t. table_parts.IsNew t c.args.place in
    let new = subst New (sym c.self.view_is) c.requires in
    let absent : lookup (nat_eq c.args.place) es ≡ None = fresh c.self.inside.timeout es ss past c.args.place c.self.invariant new.0 new.1 in
    let added : c.insert.new.self.entries ≡ es ++ (c.args.place, o) ∷ [] = c.in_ok-insert.ensures.entries ∙ insert_entry-new nat_eq c.self.inside.sessions c.args.place o absent in
    rw (c.in-Ok.ensures.ok, added)
    (kept-registered c.self.inside.timeout es ss past c.args.place c.args.time o c.self.invariant (past_below c.args.place past new.1) (rw (← added) c.insert.ensures.unique))

pub returns-in-Ok-clause-ok : goal.returns-in-Ok-clause-ok
returns-in-Ok-clause-ok c =
    let es : List (ℕ × Origin) = c.self.inside.sessions.entries in
    let ss = c.self.inside.signs in
    let o : Origin = record { client = c.args.client; opening = c.args.opening } in
    let New : tables.Table → Type 0 = λ t. table_parts.IsNew t c.args.place in
    let new = subst New (sym c.self.view_is) c.requires in
    let absent : lookup (nat_eq c.args.place) es ≡ None = fresh c.self.inside.timeout es ss c.self.inside.past.entries c.args.place c.self.invariant new.0 new.1 in
    let added : c.insert.new.self.entries ≡ es ++ (c.args.place, o) ∷ [] = c.in_ok-insert.ensures.entries ∙ insert_entry-new nat_eq c.self.inside.sessions c.args.place o absent in
    rw (← c.self.view_is, c.in-Ok.ensures.ok, added, live-push es ss (c.args.place, o) c.args.time c.self.invariant.long) refl
