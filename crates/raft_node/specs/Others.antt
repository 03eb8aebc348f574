-- The other nodes of a cluster, from a node on.
use Rattle.std.specs.Prelude.{ℕ, suc, ◌+◌, ◌-◌, not, nat_eq, List, filter, if◌then◌else◌}
use Rattle.ax_types.specs.Places as lists

abbrev pub others_from : ℕ → ℕ → ℕ → List ℕ
others_from me nodes k = filter (λ j. not (nat_eq j me)) (lists.numbers_from k (suc nodes - k))

-- the first number from one on that is not this node's
abbrev pub next_from : ℕ → ℕ → ℕ
next_from me k = if nat_eq k me then k + 1 else k
