-- Lists of things by place: place p stands at position p - 1.
use Rattle.std.specs.Prelude.{ℕ, zero, suc, List, [], ◌∷◌}

-- the list with what stands at a place changed, if there is such a place
abbrev pub change_place : {X : Type 0} → (X → X) → List X → ℕ → List X
change_place f xs zero = xs
change_place f [] (suc p) = []
change_place f (x ∷ xs) (suc zero) = f x ∷ xs
change_place f (x ∷ xs) (suc (suc p)) = x ∷ change_place f xs (suc p)
