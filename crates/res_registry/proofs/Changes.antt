-- The indexes after one change.
use Rattle.std.proofs.Common.{◌≡◌, ℕ, ◌∙◌, refl, sym, ap, subst, Bool, true, false, cond, List, Option, Some, None, nat_eq}
use Rattle.std.specs.Prelude.{if◌then◌else◌}
use Rattle.std.specs.Ordering.{nat_cmp}
use Rattle.std.specs.Cmp.{nat_cmp_total}
use Rattle.std.proofs.lemmas.Cmp.{eq_by_cmp_equiv}
use Rattle.std.specs.Option.{option_eq}
use Rattle.std.specs.BTreeMap.{is_at}
use Rattle.std.specs.Map.{lookup}
use Rattle.std.proofs.lemmas.Map.Lookups.{exact_unsigned}
use Rattle.std.proofs.lemmas.Map.Views.{tells_apart, exact_unsigned_eq}
use Rattle.spec_book.specs.Dict as dicts
use Rattle.res_deadlines.specs.Deadlines as deadlines
use Rattle.res_deadlines.proofs.Index.{ChangesDeadline-at_key}
use Rattle.std.proofs.lemmas.Bool.{eq-eqb}
use Rattle.res_registry.specs.Indexes as registry_indexes
use Rattle.res_registry.proofs.Found.{key_at_itself, same_key}

-- an end that is at the time
end_at : (end : Option ℕ) (time : ℕ) → deadlines.is_end end time ≡ true → end ≡ Some time
end_at None time h = cc
end_at (Some end) time h = ap Some (tells_apart exact_unsigned end time h)

-- two ends that are equal by their test are equal
option_same : (a b : Option ℕ) → option_eq nat_eq a b ≡ true → a ≡ b
option_same None None h = refl
option_same None (Some b) h = cc
option_same (Some a) None h = cc
option_same (Some a) (Some b) h = ap Some (exact_unsigned_eq a b h)

-- an end is at its time
end_here : (end : Option ℕ) (time : ℕ) → end ≡ Some time → deadlines.is_end end time ≡ true
end_here None time e = cc
end_here (Some end) time e =
    let same : end ≡ time = cc in
    subst (λ (n : ℕ). is_at (nat_cmp end) n ≡ true) same ((eq_by_cmp_equiv nat_cmp_total).refl end)

-- the index has the end that came after, where it had the one before
pub end_after : (old new : List (ℕ × List ℕ)) (name : List ℕ) (before after : Option ℕ) → deadlines.ChangesDeadline dicts.bytes_cmp old new name before after
    → (time : ℕ) → after ≡ Some time → (before ≡ Some time → deadlines.has_deadline dicts.bytes_cmp old time name ≡ true) → deadlines.has_deadline dicts.bytes_cmp new time name ≡ true
end_after old new name before after changes time is had =
    ChangesDeadline-at_key dicts.bytes_cmp old new name before after changes time name (key_at_itself name) ∙ by_same (option_eq nat_eq before after) refl
  where
    was : Bool
    was = deadlines.has_deadline dicts.bytes_cmp old time name

    gone : (b : Bool) → deadlines.is_end before time ≡ b → option_eq nat_eq before after ≡ false → b ≡ false
    gone false h apart = refl
    gone true h apart =
        let at : before ≡ Some time = end_at before time h in
        let same : option_eq nat_eq before after ≡ true = rw (at, is) (eq-eqb time time refl) in
        cc

    by_same : (same : Bool) → option_eq nat_eq before after ≡ same
        → (if same then was else cond (deadlines.is_end before time) false (cond (deadlines.is_end after time) true was)) ≡ true
    by_same true e = had (option_same before after e ∙ is)
    by_same false e =
        ap (λ (b : Bool). cond b false (cond (deadlines.is_end after time) true was)) (gone (deadlines.is_end before time) refl e)
        ∙ ap (λ (b : Bool). cond b true was) (end_here after time is)

-- a name that is added to names that have it
pub has-again : (names : List (List ℕ)) (name : List ℕ) → dicts.has_text names name ≡ true
    → (q : List ℕ) → dicts.has_text names q ≡ cond (is_at (dicts.bytes_cmp name) q) true (dicts.has_text names q)
has-again names name has q = by_test (is_at (dicts.bytes_cmp name) q) refl
  where
    by_test : (b : Bool) → is_at (dicts.bytes_cmp name) q ≡ b → dicts.has_text names q ≡ cond b true (dicts.has_text names q)
    by_test true e = ap (λ (n : List ℕ). dicts.has_text names n) (sym (same_key name q e)) ∙ has
    by_test false e = refl

-- the names of a session that was just given one more
pub has-added : (index : List (ℕ × List (List ℕ))) (session : ℕ) (names old : List (List ℕ)) (name : List ℕ)
    → lookup (is_at (nat_cmp session)) index ≡ Some names
    → ((q : List ℕ) → dicts.has_text names q ≡ cond (is_at (dicts.bytes_cmp name) q) true (dicts.has_text old q))
    → dicts.has_text (registry_indexes.session_names index session) name ≡ true
has-added index session names old name at adds =
    ap (λ (o : Option (List (List ℕ))). dicts.has_text (registry_indexes.names_of o) name) at
    ∙ (adds name ∙ ap (λ (b : Bool). cond b true (dicts.has_text old name)) (key_at_itself name))
