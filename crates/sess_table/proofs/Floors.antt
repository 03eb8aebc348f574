-- A block whose floor is above a limit has no sign up to it.
use Rattle.std.proofs.Common.{◌≡◌, ◌≢◌, ℕ, zero, suc, ◌+◌, ◌*◌, ◌/◌, ◌<◌, ◌≤◌, refl, ap, subst, sym, arith, Bool, true, false, List, [], ◌∷◌, ◌++◌, length, take, drop, min, nat_eq, nat_lt, Option, Some, None, ◌-◌, ◌∙◌, get_or-set_other, get_or-set_same}
use Rattle.std.specs.Prelude.{slice_get, slice_set, slice_index, slice_range}
use Rattle.std.proofs.lemmas.List.{length-set}
use Rattle.std.proofs.lemmas.Option.{slice_get_within}
use Rattle.std.proofs.lemmas.Grind.{common_steps}
use Rattle.sess_table.specs.Signs as sess_table_signs

module _ (signs : List (Option ℕ)) (floors : List ℕ) (kept : sess_table_signs.IsFloored signs floors) where
  above_at : (limit k : ℕ) (x : Option (Option ℕ)) → slice_get signs k ≡ x → limit < slice_index floors (k / 64) → sess_table_signs.is_up_to limit x ≡ false
  above_at limit k None e above = refl
  above_at limit k (Some None) e above = refl
  above_at limit k (Some (Some t)) e above = let le : slice_index floors (k / 64) ≤ t = kept.1 k t e in grind (arith, common_steps)

  pub passed-block : (limit first index : ℕ) → sess_table_signs.NoneUpTo limit signs first index → limit < slice_index floors (index / 64) → sess_table_signs.NoneUpTo limit signs first ((index / 64 + 1) * 64)
  passed-block limit first index none above k lo hi = by_place (nat_lt k index) refl
    where
      by_place : (b : Bool) → nat_lt k index ≡ b → sess_table_signs.is_up_to limit (slice_get signs k) ≡ false
      by_place true e = let lt : k < index = grind (arith, common_steps) in none k lo lt
      by_place false e =
          let le : index ≤ k = grind (arith, common_steps) in
          let block : k / 64 ≡ index / 64 = omega arith in
          let P : ℕ → Type 0 = λ n. limit < slice_index floors n in
          above_at limit k (slice_get signs k) refl (subst P (sym block) above)

-- one more sign that is above the limit
pub passed-one : (limit first index : ℕ) (signs : List (Option ℕ)) → sess_table_signs.NoneUpTo limit signs first index → sess_table_signs.is_up_to limit (slice_get signs index) ≡ false → sess_table_signs.NoneUpTo limit signs first (index + 1)
passed-one limit first index signs none here k lo hi = by_place (nat_lt k index) refl
  where
    by_place : (b : Bool) → nat_lt k index ≡ b → sess_table_signs.is_up_to limit (slice_get signs k) ≡ false
    by_place true e = let lt : k < index = grind (arith, common_steps) in none k lo lt
    by_place false e =
        let same : index ≡ k = grind (arith, common_steps) in
        let P : ℕ → Type 0 = λ n. sess_table_signs.is_up_to limit (slice_get signs n) ≡ false in
        subst P same here

get-drop : {X : Type 0} (n : ℕ) (xs : List X) (k i : ℕ) → i ≡ n + k → slice_get (drop n xs) k ≡ slice_get xs i
get-drop zero xs k i e = ap (λ j. slice_get xs j) (let h : k ≡ i = omega arith in h)
get-drop (suc n) [] k i e = refl
get-drop (suc n) (x ∷ xs) k zero e = absurd (omega arith)
get-drop (suc n) (x ∷ xs) k (suc i) e = get-drop n xs k i (omega arith)

get-take : {X : Type 0} (n : ℕ) (xs : List X) (k : ℕ) → k < n → slice_get (take n xs) k ≡ slice_get xs k
get-take zero xs k lt = absurd (omega arith)
get-take (suc n) [] k lt = refl
get-take (suc n) (x ∷ xs) zero lt = refl
get-take (suc n) (x ∷ xs) (suc k) lt = get-take n xs k (omega arith)

-- an element of a part, and of a longer list
get-range : {X : Type 0} (xs : List X) (first end k : ℕ) → first ≤ k → k < end → slice_get (slice_range xs first end) (k - first) ≡ slice_get xs k
get-range xs first end k le lt = get-take (end - first) (drop first xs) (k - first) (omega arith) ∙ get-drop first xs (k - first) k (omega arith)

pub get-append : {X : Type 0} (xs ys : List X) (k : ℕ) → k < length xs → slice_get (xs ++ ys) k ≡ slice_get xs k
get-append [] ys k lt = absurd (omega arith)
get-append (x ∷ xs) ys zero lt = refl
get-append (x ∷ xs) ys (suc k) lt = get-append xs ys k (omega arith)

pub get-last : {X : Type 0} (xs : List X) (y : X) (k : ℕ) → k ≡ length xs → slice_get (xs ++ y ∷ []) k ≡ Some y
get-last [] y zero e = refl
get-last [] y (suc k) e = absurd (omega arith)
get-last (x ∷ xs) y zero e = absurd (omega arith)
get-last (x ∷ xs) y (suc k) e = get-last xs y k (omega arith)

pub get-set_other : {X : Type 0} (xs : List X) (i k : ℕ) (y : X) → nat_eq k i ≡ false → slice_get (slice_set xs i y) k ≡ slice_get xs k
get-set_other [] i k y ne = refl
get-set_other (x ∷ xs) zero zero y ne = cc
get-set_other (x ∷ xs) zero (suc k) y ne = refl
get-set_other (x ∷ xs) (suc i) zero y ne = refl
get-set_other (x ∷ xs) (suc i) (suc k) y ne = let inner : nat_eq k i ≡ false = grind (arith, common_steps) in get-set_other xs i k y inner

pub get-set_same : {X : Type 0} (xs : List X) (i : ℕ) (x y : X) → slice_get xs i ≡ Some x → slice_get (slice_set xs i y) i ≡ Some y
get-set_same [] i x y at = cc
get-set_same (z ∷ xs) zero x y at = refl
get-set_same (z ∷ xs) (suc i) x y at = get-set_same xs i x y at

-- another sign, or none, where the floor of the block is at most each of its signs then
pub floored-set : (signs : List (Option ℕ)) (floors : List ℕ) (index floor first end : ℕ) (sign : Option ℕ) → sess_table_signs.IsFloored signs floors → index < length signs
    → first ≡ index / 64 * 64 → end ≡ min (length signs) (first + 64)
    → ((k t : ℕ) → slice_get (slice_range (slice_set signs index sign) first end) k ≡ Some (Some t) → floor ≤ t)
    → sess_table_signs.IsFloored (slice_set signs index sign) (slice_set floors (index / 64) floor)
floored-set signs floors index floor first end sign kept lt at_first at_end least = (
  (let a : length (slice_set signs index sign) ≡ length signs = length-set signs index sign in
      let b : length (slice_set floors (index / 64) floor) ≡ length floors = length-set floors (index / 64) floor in
      let c : length signs ≤ 64 * length floors = kept.0 in omega arith),
  λ k t at. by_block k t at (nat_eq (k / 64) (index / 64)) refl (nat_eq k index) refl,
)
  where
    long : length (slice_set signs index sign) ≡ length signs
    long = length-set signs index sign

    floored : index / 64 < length floors
    floored = let c : length signs ≤ 64 * length floors = kept.0 in omega arith

    by_block : (k t : ℕ) → slice_get (slice_set signs index sign) k ≡ Some (Some t) → (b : Bool) → nat_eq (k / 64) (index / 64) ≡ b → (d : Bool) → nat_eq k index ≡ d
        → slice_index (slice_set floors (index / 64) floor) (k / 64) ≤ t
    by_block k t at true same d here =
        let block : index / 64 ≡ k / 64 = grind (arith, common_steps) in
        let within : k < length (slice_set signs index sign) = slice_get_within (slice_set signs index sign) k (Some t) at in
        let le : floor ≤ t = least (k - first) t (get-range (slice_set signs index sign) first end k (omega arith) (omega (arith, long)) ∙ at) in
        let P : ℕ → Type 0 = λ n. slice_index (slice_set floors (index / 64) floor) n ≤ t in
        let new : slice_index (slice_set floors (index / 64) floor) (index / 64) ≡ floor = get_or-set_same floors (index / 64) floor 0 floored in
        subst P block (omega arith)
    by_block k t at false other d here =
        let ne : (k / 64) ≢ (index / 64) = λ e. absurd (grind (arith, common_steps, e)) in
        let apart : nat_eq k index ≡ false = by_index d here in
        let old : slice_index floors (k / 64) ≤ t = kept.1 k t (sym (get-set_other signs index k sign apart) ∙ at) in
        let kept_floor : slice_index (slice_set floors (index / 64) floor) (k / 64) ≡ slice_index floors (k / 64) = get_or-set_other floors (index / 64) (k / 64) floor 0 ne in
        omega arith
      where
        by_index : (d : Bool) → nat_eq k index ≡ d → nat_eq k index ≡ false
        by_index false e = e
        by_index true e =
            let same : k ≡ index = grind (arith, common_steps) in
            let block : nat_eq (k / 64) (index / 64) ≡ true = rw same (grind (arith, common_steps)) in
            cc
