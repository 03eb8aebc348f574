-- What a reader is known to hold.
use Rattle.std.proofs.Common.{ℕ, List, Option, None, Some, sym, ◌∙◌}
use Rattle.std.specs.Io.KnownBytes.{Keeps, Consumes}

-- bytes that are taken after nothing was
pub Consumes-kept : (before mid now : Option (List ℕ)) (bytes : List ℕ) → Keeps before mid → Consumes mid now bytes → Consumes before now bytes
Consumes-kept None mid now bytes keeps takes = tt
Consumes-kept (Some xs) None now bytes keeps takes = absurd keeps
Consumes-kept (Some xs) (Some ys) None bytes keeps takes = takes
Consumes-kept (Some xs) (Some ys) (Some zs) bytes keeps takes = sym keeps ∙ takes
