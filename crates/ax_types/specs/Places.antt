-- Places of a list count from 1: the thing at place p stands at position p - 1.
use Rattle.std.specs.Prelude.{ℕ, zero, suc, ◌+◌, Bool, Option, None, List, [], ◌∷◌, slice_get, if◌then◌else◌}

-- what stands at place p, if there is such a place; nothing stands at place 0
abbrev pub at_place : {T : Type 0} → List T → ℕ → Option T
at_place xs zero = None
at_place xs (suc k) = slice_get xs k

-- the n numbers from a on
abbrev pub numbers_from : ℕ → ℕ → List ℕ
numbers_from a zero = []
numbers_from a (suc n) = a ∷ numbers_from (suc a) n

-- each thing with its number, the first of them with this one
abbrev pub numbered : {T : Type 0} → ℕ → List T → List (ℕ × T)
numbered number [] = []
numbered number (x ∷ xs) = (number, x) ∷ numbered (number + 1) xs

-- the numbers of those that pass the test, where the first has this number
abbrev pub numbers_passing : {T : Type 0} → (T → Bool) → ℕ → List T → List ℕ
numbers_passing test k [] = []
numbers_passing test k (x ∷ xs) = if test x then k ∷ numbers_passing test (suc k) xs else numbers_passing test (suc k) xs
