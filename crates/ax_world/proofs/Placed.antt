-- Which places of a list there are.
use Rattle.std.proofs.Common.{◌≡◌, ℕ, suc, zero, ◌≤◌, ◌<◌, true, false, [], ◌∷◌, List, refl, arith, length}
use Rattle.std.specs.Prelude.{is_some, slice_get}
use Rattle.ax_types.specs.Places as lists

pub got : {T : Type 0} → (xs : List T) (i : ℕ) → i < length xs → is_some (slice_get xs i) ≡ true
got [] i below = absurd (grind arith)
got (x ∷ xs) zero below = refl
got (x ∷ xs) (suc i) below = got xs i (grind arith)

pub not_got : {T : Type 0} → (xs : List T) (i : ℕ) → length xs ≤ i → is_some (slice_get xs i) ≡ false
not_got [] i above = refl
not_got (x ∷ xs) zero above = absurd (grind arith)
not_got (x ∷ xs) (suc i) above = not_got xs i (grind arith)

pub there_some : {T : Type 0} → (xs : List T) (k : ℕ) → 1 ≤ k → k ≤ length xs → is_some (lists.at_place xs k) ≡ true
there_some xs zero least most = absurd (grind arith)
there_some xs (suc i) least most = got xs i (grind arith)

pub there_none : {T : Type 0} → (xs : List T) (k : ℕ) → length xs < k → is_some (lists.at_place xs k) ≡ false
there_none xs zero above = absurd (grind arith)
there_none xs (suc i) above = not_got xs i (grind arith)
