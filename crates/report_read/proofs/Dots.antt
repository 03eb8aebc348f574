-- Where the first dot of a word stands.
use Rattle.std.proofs.Common.{ℕ, Bool, ◌==◌}

abbrev pub is_dot : ℕ → Bool
is_dot b = b == 46
