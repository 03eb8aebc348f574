-- The live sessions among those that were registered: those that have a sign.
use Rattle.std.specs.Prelude.{ℕ, Bool, true, false, nat_le, cond, List, [], ◌∷◌, Option, Some, None}
use Rattle.spec_sessions.specs.Tables as tables
use Rattle.sess_table.specs.declared.live.Origin.{Origin}

abbrev pub live_as : ℕ × Origin → ℕ → tables.Live
live_as e sign = record { session = e.0; client = e.1.client; opening = e.1.opening; sign = sign }

abbrev pub live_in : List (ℕ × Origin) → List (Option ℕ) → List tables.Live
live_in [] signs = []
live_in (e ∷ sessions) [] = []
live_in (e ∷ sessions) (None ∷ signs) = live_in sessions signs
live_in (e ∷ sessions) (Some sign ∷ signs) = live_as e sign ∷ live_in sessions signs

-- whether a session stands there, and has a sign
abbrev pub is_signed : Option (Option ℕ) → Bool
is_signed (Some (Some sign)) = true
is_signed (Some None) = false
is_signed None = false

-- whether a session stands there, and has none
abbrev pub is_gone : Option (Option ℕ) → Bool
is_gone (Some (Some sign)) = false
is_gone (Some None) = true
is_gone None = false

-- the sessions whose signs are at most the limit
abbrev pub due_in : ℕ → List (ℕ × Origin) → List (Option ℕ) → List ℕ
due_in limit [] signs = []
due_in limit (e ∷ sessions) [] = []
due_in limit (e ∷ sessions) (None ∷ signs) = due_in limit sessions signs
due_in limit (e ∷ sessions) (Some sign ∷ signs) = cond (nat_le sign limit) (e.0 ∷ due_in limit sessions signs) (due_in limit sessions signs)
