-- What a change of the end of one key makes of the index, at that key and at each other.
use Rattle.std.proofs.Common.{◌≡◌, ℕ, ◌∙◌, refl, sym, ap, Bool, true, false, cond, nat_eq, ◌&&◌, List, Option, Some, None}
use Rattle.std.specs.Prelude.{if◌then◌else◌}
use Rattle.std.specs.declared.cmp.Ordering.{Ordering}
use Rattle.std.specs.declared.cmp.Ordering.TheVariants.{Less, Equal, Greater}
use Rattle.std.specs.Ordering.{nat_cmp, is_eq, ordering_then}
use Rattle.std.specs.Option.{option_eq}
use Rattle.std.specs.BTreeMap.{is_at}
use Rattle.std.proofs.lemmas.Map.Lookups.{exact_unsigned}
use Rattle.std.proofs.lemmas.Map.Views.{tells_apart, exact_unsigned_eq}
use Rattle.std.proofs.lemmas.Bool.{eq-eqb}
use Rattle.res_deadlines.specs.Deadlines as deadlines

pub is_eq-ordering_then : (a b : Ordering) → is_eq (ordering_then a b) ≡ (is_eq a && is_eq b)
is_eq-ordering_then Less b = refl
is_eq-ordering_then Equal b = refl
is_eq-ordering_then Greater b = refl

cond_and_false : (a x y : Bool) → cond (a && false) x y ≡ y
cond_and_false true x y = refl
cond_and_false false x y = refl

cond_and_true : (a x y : Bool) → cond (a && true) x y ≡ cond a x y
cond_and_true true x y = refl
cond_and_true false x y = refl

same_twice : (b x : Bool) → (if b then x else x) ≡ x
same_twice true x = refl
same_twice false x = refl

-- two ends at one time are one end
same_end : (a b time : ℕ) → is_at (nat_cmp a) time ≡ true → is_at (nat_cmp b) time ≡ true → a ≡ b
same_end a b time e f = tells_apart exact_unsigned a time e ∙ sym (tells_apart exact_unsigned b time f)

-- the end that was is out, and the end that is is in, where the index had the end that was
pub changed_end : (before after : Option ℕ) (time : ℕ)
    → (if option_eq nat_eq before after then deadlines.is_end before time else cond (deadlines.is_end before time) false (cond (deadlines.is_end after time) true (deadlines.is_end before time)))
    ≡ deadlines.is_end after time
changed_end None None time = refl
changed_end None (Some b) time = by_truth (is_at (nat_cmp b) time)
  where
    by_truth : (y : Bool) → cond y true false ≡ y
    by_truth true = refl
    by_truth false = refl
changed_end (Some a) None time = by_truth (is_at (nat_cmp a) time)
  where
    by_truth : (x : Bool) → cond x false x ≡ false
    by_truth true = refl
    by_truth false = refl
changed_end (Some a) (Some b) time = by_same (nat_eq a b) refl
  where
    apart : (x y : Bool) → is_at (nat_cmp a) time ≡ x → is_at (nat_cmp b) time ≡ y → nat_eq a b ≡ false → cond x false (cond y true x) ≡ y
    apart true true p q e = let t : nat_eq a b ≡ true = eq-eqb a b (same_end a b time p q) in cc
    apart true false p q e = refl
    apart false true p q e = refl
    apart false false p q e = refl

    by_same : (same : Bool) → nat_eq a b ≡ same
        → (if same then is_at (nat_cmp a) time else cond (is_at (nat_cmp a) time) false (cond (is_at (nat_cmp b) time) true (is_at (nat_cmp a) time)))
        ≡ is_at (nat_cmp b) time
    by_same true e = ap (λ (n : ℕ). is_at (nat_cmp n) time) (exact_unsigned_eq a b e)
    by_same false e = apart (is_at (nat_cmp a) time) (is_at (nat_cmp b) time) refl refl e

module _ {K : Type 0} (order : K → K → Ordering) where
  is_deadline-by_parts : (end : Option ℕ) (at : K) (time : ℕ) (key : K) → deadlines.is_deadline order end at time key ≡ (deadlines.is_end end time && is_at (order at) key)
  is_deadline-by_parts None at time key = refl
  is_deadline-by_parts (Some end) at time key = is_eq-ordering_then (nat_cmp end time) (order at key)

  elsewhere : (end : Option ℕ) (at : K) (time : ℕ) (key : K) (has had : Bool) → is_at (order at) key ≡ false → cond (deadlines.is_deadline order end at time key) has had ≡ had
  elsewhere end at time key has had e = rw (is_deadline-by_parts end at time key, e) (cond_and_false (deadlines.is_end end time) has had)

  here : (end : Option ℕ) (at : K) (time : ℕ) (key : K) (has had : Bool) → is_at (order at) key ≡ true → cond (deadlines.is_deadline order end at time key) has had ≡ cond (deadlines.is_end end time) has had
  here end at time key has had e = rw (is_deadline-by_parts end at time key, e) (cond_and_true (deadlines.is_end end time) has had)

  -- the index after one end was added or taken out, at a key that is another and at that key
  pub SetsDeadline-elsewhere : (has : Bool) (old new : List (ℕ × K)) (end : Option ℕ) (at : K) → deadlines.SetsDeadline order has old new end at
      → (time : ℕ) (key : K) → is_at (order at) key ≡ false → deadlines.has_deadline order new time key ≡ deadlines.has_deadline order old time key
  SetsDeadline-elsewhere has old new end at sets time key e = sets time key ∙ elsewhere end at time key has (deadlines.has_deadline order old time key) e

  pub SetsDeadline-at_key : (has : Bool) (old new : List (ℕ × K)) (end : Option ℕ) (at : K) → deadlines.SetsDeadline order has old new end at
      → (time : ℕ) (key : K) → is_at (order at) key ≡ true → deadlines.has_deadline order new time key ≡ cond (deadlines.is_end end time) has (deadlines.has_deadline order old time key)
  SetsDeadline-at_key has old new end at sets time key e = sets time key ∙ here end at time key has (deadlines.has_deadline order old time key) e

  -- the index after the end of a key changed, at a key that is another and at that key
  pub ChangesDeadline-elsewhere : (old new : List (ℕ × K)) (at : K) (before after : Option ℕ) → deadlines.ChangesDeadline order old new at before after
      → (time : ℕ) (key : K) → is_at (order at) key ≡ false → deadlines.has_deadline order new time key ≡ deadlines.has_deadline order old time key
  ChangesDeadline-elsewhere old new at before after changes time key e =
      let had : Bool = deadlines.has_deadline order old time key in
      changes time key
      ∙ (ap (λ (b : Bool). if option_eq nat_eq before after then had else b)
      (elsewhere before at time key false (cond (deadlines.is_deadline order after at time key) true had) e ∙ elsewhere after at time key true had e)
      ∙ same_twice (option_eq nat_eq before after) had)

  pub ChangesDeadline-at_key : (old new : List (ℕ × K)) (at : K) (before after : Option ℕ) → deadlines.ChangesDeadline order old new at before after
      → (time : ℕ) (key : K) → is_at (order at) key ≡ true
      → deadlines.has_deadline order new time key
      ≡ (if option_eq nat_eq before after then deadlines.has_deadline order old time key
      else cond (deadlines.is_end before time) false (cond (deadlines.is_end after time) true (deadlines.has_deadline order old time key)))
  ChangesDeadline-at_key old new at before after changes time key e =
      let had : Bool = deadlines.has_deadline order old time key in
      changes time key
      ∙ ap (λ (b : Bool). if option_eq nat_eq before after then had else b)
      (here before at time key false (cond (deadlines.is_deadline order after at time key) true had) e
      ∙ ap (λ (b : Bool). cond (deadlines.is_end before time) false b) (here after at time key true had e))

  -- an end that was added is one that came where there was none
  pub ChangesDeadline-added : (old new : List (ℕ × K)) (at : K) (after : Option ℕ) → deadlines.SetsDeadline order true old new after at
      → deadlines.ChangesDeadline order old new at None after
  ChangesDeadline-added old new at None sets = λ time key. sets time key
  ChangesDeadline-added old new at (Some after) sets = λ time key. sets time key

  -- the end that came after is added, and then the one before is taken out
  pub ChangesDeadline-other : (old added new : List (ℕ × K)) (at : K) (before after : Option ℕ) → option_eq nat_eq before after ≡ false
      → deadlines.SetsDeadline order true old added after at → deadlines.SetsDeadline order false added new before at → deadlines.ChangesDeadline order old new at before after
  ChangesDeadline-other old added new at before after apart adds drops = λ time key.
      rw apart (drops time key ∙ ap (λ (b : Bool). cond (deadlines.is_deadline order before at time key) false b) (adds time key))
