-- Whether a history is lawful, by one walk with a table of the last signs of life of its live sessions.
use Rattle.std.specs.Prelude.{ℕ, zero, suc, ◌-◌, nat_le, Bool, true, false, ◌&&◌, List, [], ◌∷◌, ◌++◌, Option, Some, None, is_some, slice_set}
use Rattle.ax_types.specs.Places as lists
use Rattle.ax_types.specs.declared.entries.Act.{Act}
use Rattle.ax_types.specs.declared.entries.Act.TheVariants as act
use Rattle.spec_book.specs.History as histories

-- by the place of its opening, the time of the last sign of a session that is live; nothing at other places
abbrev pub Signs : Type 0
Signs = List (Option ℕ)

abbrev pub flat_sign : Option (Option ℕ) → Option ℕ
flat_sign None = None
flat_sign (Some sign) = sign

abbrev pub sign_of : Signs → ℕ → Option ℕ
sign_of signs s = flat_sign (lists.at_place signs s)

abbrev pub sign_is_old : ℕ → ℕ → Option ℕ → Bool
sign_is_old timeout time None = false
sign_is_old timeout time (Some sign) = nat_le timeout (time - sign)

-- whether an act may come next: it is of a live session, and a session expires only where its last sign is old enough
abbrev pub is_allowed : ℕ → Signs → ℕ → Act → Bool
is_allowed timeout signs time act.Nothing = true
is_allowed timeout signs time (act.Open c opening) = true
is_allowed timeout signs time (act.Keep s) = is_some (sign_of signs s)
is_allowed timeout signs time (act.Do s name o) = is_some (sign_of signs s)
is_allowed timeout signs time (act.Close s) = is_some (sign_of signs s)
is_allowed timeout signs time (act.Expire s) = sign_is_old timeout time (sign_of signs s)

abbrev pub with_sign_at : Signs → ℕ → Option ℕ → Signs
with_sign_at signs zero sign = signs
with_sign_at signs (suc k) sign = slice_set signs k sign

-- the table after one more act
abbrev pub signs_after : Signs → ℕ → Act → Signs
signs_after signs time act.Nothing = signs ++ None ∷ []
signs_after signs time (act.Open c opening) = signs ++ Some time ∷ []
signs_after signs time (act.Keep s) = with_sign_at signs s (Some time) ++ None ∷ []
signs_after signs time (act.Do s name o) = signs ++ None ∷ []
signs_after signs time (act.Close s) = with_sign_at signs s None ++ None ∷ []
signs_after signs time (act.Expire s) = with_sign_at signs s None ++ None ∷ []

-- the acts behind those that made the table, of which the last had this time
abbrev pub are_allowed : ℕ → Signs → ℕ → histories.History → Bool
are_allowed timeout signs last [] = true
are_allowed timeout signs last (a ∷ acts) = nat_le last a.0 && is_allowed timeout signs a.0 a.1 && are_allowed timeout (signs_after signs a.0 a.1) a.0 acts
