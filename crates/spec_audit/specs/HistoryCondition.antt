-- Whether a history is lawful, as a test that computes.
use Rattle.std.specs.Prelude.{ℕ, ◌+◌, ◌-◌, nat_le, Bool, true, ◌&&◌, [], ◌∷◌, Option, Some, None}
use Rattle.ax_types.specs.declared.entries.Act.{Act}
use Rattle.ax_types.specs.declared.entries.Act.TheVariants as act
use Rattle.spec_book.specs.History as histories

-- the session that an act is of is live before it
abbrev pub is_of_live : histories.History → ℕ → Option ℕ → Bool
is_of_live h p None = true
is_of_live h p (Some s) = histories.is_live h (p - 1) s

-- a session expires only where its last sign is at least the timeout ago
abbrev pub is_due_expiry : histories.History → ℕ → ℕ → ℕ → Act → Bool
is_due_expiry h timeout p time (act.Expire s) = nat_le timeout (time - histories.sign h p s)
is_due_expiry h timeout p time a = true

-- the acts from a place on, of which the one before had this time
abbrev pub are_lawful : histories.History → ℕ → ℕ → ℕ → histories.History → Bool
are_lawful h timeout p last [] = true
are_lawful h timeout p last (a ∷ acts) =
    nat_le last a.0 && is_of_live h p (histories.session_of a.1) && is_due_expiry h timeout p a.0 a.1 && are_lawful h timeout (p + 1) a.0 acts

abbrev pub is_lawful : ℕ → histories.History → Bool
is_lawful timeout h = are_lawful h timeout 1 0 h
