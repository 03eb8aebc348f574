-- The readings without the queries of reads that are given.
use Rattle.std.proofs.Common.{◌≡◌, ap, refl, arith, ℕ, true, List, [], ◌∷◌, length}
use Rattle.std.specs.Bool.{◌==◌}
use Rattle.std.proofs.lemmas.Bool.Decides.{nat_tests}
use Rattle.spec_server.specs.Gates as gates

none_of_none : (ws : List gates.WaitingQuery) → ws ≡ gates.without_ready ws []
none_of_none [] = refl
none_of_none (w ∷ ws) = ap (λ (rest : List gates.WaitingQuery). w ∷ rest) (none_of_none ws)

is_none : (k : ℕ) → true ≡ (k == 0) → k ≡ 0
is_none k none = grind (arith, nat_tests)

pub none_given : (ws : List gates.WaitingQuery) (reads : List (ℕ × ℕ)) → true ≡ (length reads == 0) → ws ≡ gates.without_ready ws reads
none_given ws [] none = none_of_none ws
none_given ws (r ∷ reads) none = absurd (let empty : length (r ∷ reads) ≡ 0 = is_none (length (r ∷ reads)) none in omega arith)
