-- Nodes by number, and majorities of them (Ongaro 2014, 3.4): more than half, with one node that node.
use Rattle.std.specs.Prelude.{ℕ, zero, suc, ◌+◌, Bool, not, nat_eq, nat_lt, List, [], ◌∷◌, filter, if◌then◌else◌}
use Rattle.std.specs.List.{list_any}
use Rattle.ax_types.specs.Places as lists

-- the nodes of a cluster, 1 to n
abbrev pub cluster_of : ℕ → List ℕ
cluster_of n = lists.numbers_from 1 n

-- the nodes of a cluster but one, ascending
abbrev pub others : ℕ → ℕ → List ℕ
others n me = filter (λ k. not (nat_eq k me)) (cluster_of n)

-- how many of these pass the test
abbrev pub count : {X : Type 0} → (X → Bool) → List X → ℕ
count p [] = 0
count p (x ∷ xs) = (if p x then 1 else 0) + count p xs

-- more than half of n
abbrev pub is_most : ℕ → ℕ → Bool
is_most held n = nat_lt n (held + held)

-- whether a number is among these
abbrev pub is_in : List ℕ → ℕ → Bool
is_in xs k = list_any (λ x. nat_eq x k) xs
