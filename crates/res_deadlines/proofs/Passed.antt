-- The keys whose times have passed, at the front of the index.
use Rattle.std.proofs.Common.{◌≡◌, ℕ, ◌≤◌, ◌<◌, ◌∙◌, refl, sym, ap, arith, Bool, true, false, cond, nat_le, ◌&&◌, ◌||◌, List, [], ◌∷◌, ◌++◌, Some}
use Rattle.std.specs.declared.cmp.Ordering.{Ordering}
use Rattle.std.specs.declared.cmp.Ordering.TheVariants.{Less, Equal, Greater}
use Rattle.std.specs.Ordering.{nat_cmp, is_gt, ordering_then}
use Rattle.std.specs.Cmp.{IsTotalOrder}
use Rattle.std.specs.List.{list_any, All, AllByRecursion}
use Rattle.std.specs.List.Sorted.{IsStrictlySortedBy}
use Rattle.std.specs.BTreeMap.{is_at}
use Rattle.std.proofs.lemmas.Cmp.{eq_by_cmp_equiv}
use Rattle.std.proofs.lemmas.Grind.{common_steps}
use Rattle.std.proofs.lemmas.List.Elements.{recursion_from_All}
use Rattle.std.proofs.lemmas.List.Folds.{list_any-append}
use Rattle.std.proofs.lemmas.Map.Keys.{sorted_head, sorted_tail, le_from_not_gt}
use Rattle.res_deadlines.specs.Deadlines as deadlines

or_false : (b : Bool) → (b || false) ≡ b
or_false true = refl
or_false false = refl

cond_or : (a b : Bool) → cond a true b ≡ (b || (a || false))
cond_or true true = refl
cond_or true false = refl
cond_or false true = refl
cond_or false false = refl

-- the parts of a list in order are in order
sorted_right : {K : Type 0} (c : K → K → Ordering) (xs ys : List K) → IsStrictlySortedBy c (xs ++ ys) → IsStrictlySortedBy c ys
sorted_right c [] ys s = s
sorted_right c (x ∷ xs) ys s = sorted_right c xs ys (sorted_tail c x (xs ++ ys) s)

-- the first part of a comparison is not greater, where the whole is less
not_gt_from_less : (a b : Ordering) → ordering_then a b ≡ Less → is_gt a ≡ false
not_gt_from_less Less b e = refl
not_gt_from_less Equal b e = refl
not_gt_from_less Greater b e = cc

above_time : (time end other : ℕ) (b : Ordering) → time < end → ordering_then (nat_cmp end other) b ≡ Less → nat_le other time ≡ false
above_time time end other b above e =
    let le : end ≤ other = le_from_not_gt end other (not_gt_from_less (nat_cmp end other) b e) in
    let gt : time < other = omega arith in
    grind (arith, common_steps)

module _ {K : Type 0} (order : K → K → Ordering) where
  -- none of the later times has passed, where the first has not
  none_passed : (time : ℕ) (d : ℕ × K) (rest : List (ℕ × K)) (key : K) → time < d.0
      → AllByRecursion (λ y. deadlines.deadline_cmp order d y ≡ Less) rest → deadlines.has_passed order time rest key ≡ false
  none_passed time d [] key above less = refl
  none_passed time d (y ∷ rest) key above less =
      let n : nat_le y.0 time ≡ false = above_time time d.0 y.0 (order d.1 y.1) above less.0 in
      rw (n, none_passed time d rest key above less.1) refl

  -- what has passed of a list in order stands before the first that has not passed
  pub has_passed-front : (time : ℕ) (ds : List (ℕ × K)) (d : ℕ × K) (rest : List (ℕ × K)) (key : K) → time < d.0
      → IsStrictlySortedBy (deadlines.deadline_cmp order) (ds ++ d ∷ rest) → deadlines.has_passed order time (ds ++ d ∷ rest) key ≡ deadlines.has_passed order time ds key
  has_passed-front time ds d rest key above sorted =
      let s : IsStrictlySortedBy (deadlines.deadline_cmp order) (d ∷ rest) = sorted_right (deadlines.deadline_cmp order) ds (d ∷ rest) sorted in
      let n : deadlines.has_passed order time rest key ≡ false = none_passed time d rest key above (sorted_head (deadlines.deadline_cmp order) d rest s) in
      let m : nat_le d.0 time ≡ false = grind (arith, common_steps) in
      rw (list_any-append, m, n) (or_false (deadlines.has_passed order time ds key))

  -- one more key that has passed
  pub has_passed-push : IsTotalOrder order → (time : ℕ) (ds : List (ℕ × K)) (d : ℕ × K) (old new : List K) → d.0 ≤ time
      → ((key : K) → list_any (is_at (order key)) old ≡ deadlines.has_passed order time ds key)
      → ((key : K) → list_any (is_at (order key)) new ≡ cond (is_at (order d.1) key) true (list_any (is_at (order key)) old))
      → (key : K) → list_any (is_at (order key)) new ≡ deadlines.has_passed order time (ds ++ d ∷ []) key
  has_passed-push total time ds d old new below so_far adds key =
      let m : nat_le d.0 time ≡ true = grind (arith, common_steps) in
      let swapped : is_at (order key) d.1 ≡ is_at (order d.1) key = (eq_by_cmp_equiv total).symm key d.1 in
      rw (list_any-append, m) (adds key ∙ rw (so_far key, swapped) (cond_or (is_at (order d.1) key) (deadlines.has_passed order time ds key)))

  -- where no time has passed, no key has
  pub has_passed-none : (time : ℕ) (ds : List (ℕ × K)) (key : K) → deadlines.any_passed time ds ≡ false → deadlines.has_passed order time ds key ≡ false
  has_passed-none time [] key none = refl
  has_passed-none time (d ∷ ds) key none = by_test (nat_le d.0 time) refl (has_passed-none time ds key)
    where
      by_test : (b : Bool) → nat_le d.0 time ≡ b → (deadlines.any_passed time ds ≡ false → deadlines.has_passed order time ds key ≡ false) → deadlines.has_passed order time (d ∷ ds) key ≡ false
      by_test true e more = let t : deadlines.any_passed time (d ∷ ds) ≡ true = ap (λ (b : Bool). b || deadlines.any_passed time ds) e in cc
      by_test false e more =
          let rest : deadlines.any_passed time ds ≡ false = sym (ap (λ (b : Bool). b || deadlines.any_passed time ds) e) ∙ none in
          ap (λ (b : Bool). (b && is_at (order key) d.1) || deadlines.has_passed order time ds key) e ∙ more rest

-- no time has passed where the first of the others has not
none_from : {K : Type 0} (time end : ℕ) (ds : List (ℕ × K)) → time < end → AllByRecursion (λ (d : ℕ × K). end ≤ d.0) ds → deadlines.any_passed time ds ≡ false
none_from time end [] above from = refl
none_from time end (d ∷ ds) above from =
    let le : end ≤ d.0 = from.0 in
    let m : nat_le d.0 time ≡ false = grind (arith, common_steps) in
    rw m (none_from time end ds above from.1)

-- whether a time has passed, by the first
pub any_passed-first : {K : Type 0} (time end : ℕ) (ds : List (ℕ × K)) → Some end ≡ deadlines.first_time ds → All (λ (d : ℕ × K). end ≤ d.0) ds
    → nat_le end time ≡ deadlines.any_passed time ds
any_passed-first time end [] is from = cc
any_passed-first {K} time end (d ∷ ds) is from = by_test (nat_le end time) refl
  where
    same : end ≡ d.0
    same = cc

    by_test : (b : Bool) → nat_le end time ≡ b → b ≡ deadlines.any_passed time (d ∷ ds)
    by_test true e = sym (ap (λ (n : ℕ). nat_le n time || deadlines.any_passed time ds) (sym same) ∙ ap (λ (b : Bool). b || deadlines.any_passed time ds) e)
    by_test false e =
        let above : time < end = grind (arith, common_steps) in
        sym (none_from time end (d ∷ ds) above (recursion_from_All (λ (x : ℕ × K). end ≤ x.0) (d ∷ ds) from))
