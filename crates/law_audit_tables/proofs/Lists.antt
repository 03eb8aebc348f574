-- Places of lists.
use Rattle.std.proofs.Common.{◌≡◌, ℕ, zero, suc, ◌<◌, Bool, false, nat_eq, List, [], ◌∷◌, ◌++◌, Some, None, length, set, slice_get, refl, arith}
use Rattle.std.proofs.lemmas.Bool.Decides.{nat_tests}
use Rattle.std.proofs.lemmas.List.{length-append}
use Rattle.ax_types.specs.Places as lists

pub at_past : {X : Type 0} (xs : List X) (p : ℕ) → length xs < p → lists.at_place xs p ≡ None
at_past xs zero l = absurd (omega arith)
at_past [] (suc k) l = refl
at_past (x ∷ xs) (suc zero) l = absurd (omega arith)
at_past (x ∷ xs) (suc (suc k)) l = at_past xs (suc k) (omega arith)

pub get_set : {X : Type 0} (xs : List X) (k : ℕ) (v : X) → k < length xs → slice_get (set xs k v) k ≡ Some v
get_set [] k v l = absurd (omega arith)
get_set (x ∷ xs) zero v l = refl
get_set (x ∷ xs) (suc k) v l = get_set xs k v (omega arith)

pub suc_differs : (j k : ℕ) → nat_eq (suc j) (suc k) ≡ false → nat_eq j k ≡ false
suc_differs j k e = grind (arith, nat_tests)

pub get_other : {X : Type 0} (xs : List X) (k j : ℕ) (v : X) → nat_eq j k ≡ false → slice_get (set xs k v) j ≡ slice_get xs j
get_other [] k j v e = refl
get_other (x ∷ xs) zero zero v e = absurd (cc)
get_other (x ∷ xs) zero (suc j) v e = refl
get_other (x ∷ xs) (suc k) zero v e = refl
get_other (x ∷ xs) (suc k) (suc j) v e = get_other xs k j v (suc_differs j k e)

pub longer : {X : Type 0} (xs : List X) (x : X) → length (xs ++ x ∷ []) ≡ suc (length xs)
longer xs x = let e = length-append xs (x ∷ []) in omega arith
