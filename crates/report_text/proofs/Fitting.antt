-- Values that fit their types, one after another.
use Rattle.std.proofs.Common.{◌≡◌, ℕ, ◌+◌, ◌<◌, List, ◌∷◌, length, drop, slice_index_or, sym, subst}
use Rattle.std.proofs.lemmas.List.{drop_more}
use Rattle.std.specs.List.{AllByRecursion}

-- one more value fits: then all do, where those that are left do
pub fits_more : {T : Type 0} (P : T → Type 0) (xs : List T) (i : ℕ) (x : T) → i < length xs → x ≡ slice_index_or xs i x → P x
    → (AllByRecursion P (drop i xs) → AllByRecursion P xs) → AllByRecursion P (drop (i + 1) xs) → AllByRecursion P xs
fits_more P xs i x within is here all rest =
    all (subst (λ ys. AllByRecursion P ys) (sym (drop_more xs i x within)) (subst P is here, rest))

-- the same, of a number
pub number_fits_more : (P : ℕ → Type 0) (xs : List ℕ) (i : ℕ) → i < length xs → P (slice_index_or xs i 0)
    → (AllByRecursion P (drop i xs) → AllByRecursion P xs) → AllByRecursion P (drop (i + 1) xs) → AllByRecursion P xs
number_fits_more P xs i within here all rest = all (subst (λ ys. AllByRecursion P ys) (sym (drop_more xs i 0 within)) (here, rest))
