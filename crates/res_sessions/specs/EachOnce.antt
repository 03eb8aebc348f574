-- Lists of sessions in which no session stands twice.
use Rattle.std.specs.Prelude.{◌≡◌, ℕ, false, List, [], ◌∷◌}
use Rattle.spec_book.specs.Dict as dicts

-- no session stands twice
abbrev pub EachOnce : List ℕ → Type 0
EachOnce [] = Unit {0}
EachOnce (s ∷ sessions) = (dicts.has_session sessions s ≡ false) × EachOnce sessions

-- what a queue keeps: each session once, and beside it the same sessions in ascending order
pub record IsIndexed (index queue : List ℕ) : Type 0 where
  pub same : (s : ℕ) → dicts.has_session index s ≡ dicts.has_session queue s
  pub each_once : EachOnce queue
