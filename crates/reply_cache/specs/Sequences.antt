-- The order of the replies that a cache keeps.
use Rattle.std.specs.Prelude.{◌≡◌, ℕ, suc, List, [], ◌∷◌}
use Rattle.ax_types.specs.declared.sessions.KeptReply.{KeptReply}

-- the replies of the commands that follow one with this sequence, each the next
abbrev pub Follow : ℕ → List KeptReply → Type 0
Follow before [] = Unit {0}
Follow before (k ∷ replies) = (k.seq ≡ suc before) × Follow (suc before) replies
