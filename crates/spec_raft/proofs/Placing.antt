-- What stands at a place after the list was changed at one.
use Rattle.std.proofs.Common.{◌≡◌, ℕ, zero, suc, List, [], ◌∷◌, length, refl, ap}
use Rattle.std.specs.Prelude.{◌≢◌, option_map}
use Rattle.ax_types.specs.Places as lists
use Rattle.spec_raft.specs.Positions as positions

pub length-change_place : {X : Type 0} (f : X → X) (xs : List X) (p : ℕ) → length (positions.change_place f xs p) ≡ length xs
length-change_place f xs zero = refl
length-change_place f [] (suc p) = refl
length-change_place f (x ∷ xs) (suc zero) = refl
length-change_place f (x ∷ xs) (suc (suc p)) = ap suc (length-change_place f xs (suc p))

-- the changed place
pub at_place-changed : {X : Type 0} (f : X → X) (xs : List X) (p : ℕ) → lists.at_place (positions.change_place f xs p) p ≡ option_map f (lists.at_place xs p)
at_place-changed f xs zero = refl
at_place-changed f [] (suc p) = refl
at_place-changed f (x ∷ xs) (suc zero) = refl
at_place-changed f (x ∷ xs) (suc (suc p)) = at_place-changed f xs (suc p)

-- every other place
pub at_place-others : {X : Type 0} (f : X → X) (xs : List X) (p q : ℕ) → p ≢ q → lists.at_place (positions.change_place f xs p) q ≡ lists.at_place xs q
at_place-others f xs zero q ne = refl
at_place-others f [] (suc p) q ne = refl
at_place-others f (x ∷ xs) (suc p) zero ne = refl
at_place-others f (x ∷ xs) (suc zero) (suc zero) ne = absurd (ne refl)
at_place-others f (x ∷ xs) (suc zero) (suc (suc q)) ne = refl
at_place-others f (x ∷ xs) (suc (suc p)) (suc zero) ne = refl
at_place-others f (x ∷ xs) (suc (suc p)) (suc (suc q)) ne = at_place-others f xs (suc p) (suc q) (λ e. ne (ap suc e))
