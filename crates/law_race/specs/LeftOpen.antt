-- Where the pump of a race stopped, each call of the session without an outcome is told as unanswered, behind all that the run
-- shows. That stays faithful to the same history.
use Rattle.std.specs.Prelude.{ℕ, ◌≡◌, ◌⊎◌, Bool, true, false, List, [], ◌∷◌, ◌++◌}
use Rattle.std.specs.List.{list_any}
use Rattle.ax_types.specs.declared.replies.How.TheVariants as how
use Rattle.ax_types.specs.declared.items.Item.{Item}
use Rattle.ax_types.specs.declared.items.Item.TheVariants as item
use Rattle.ax_types.specs.declared.steps.KeptStep.{KeptStep}
use Rattle.spec_book.specs.History as histories
use Rattle.spec_claims.specs.Transcript as transcripts
use Rattle.spec_claims.specs.Faithful as faithful
use Rattle.spec_run.specs.Run as runs
use Rattle.spec_race.specs.Race as races

-- the calls that session s still waits for
abbrev pub left_open : ℕ → List transcripts.Shown → List Item
left_open s shown = races.unanswered_items s (transcripts.transcript shown)

-- the items come from no step: they are a group of their own, with any step beside it
abbrev pub in_own_group : KeptStep → List Item → List transcripts.Shown → List transcripts.Shown
in_own_group k items shown = shown ++ (record { step = k; items = items }) ∷ []

-- or they stand behind the items of the last step, if there is one
abbrev pub behind_last : List Item → List transcripts.Shown → List transcripts.Shown
behind_last items [] = []
behind_last items (m ∷ []) = (record { step = m.step; items = m.items ++ items }) ∷ []
behind_last items (m ∷ n ∷ shown) = m ∷ behind_last items (n ∷ shown)

-- the last step tells of a session that expired
abbrev pub is_expiry : Item → Bool
is_expiry (item.Ended s p how.Expired) = true
is_expiry x = false

abbrev pub ends_in_expiry : List transcripts.Shown → Bool
ends_in_expiry [] = false
ends_in_expiry (m ∷ []) = list_any is_expiry m.items
ends_in_expiry (m ∷ n ∷ shown) = ends_in_expiry (n ∷ shown)

-- An expiry in a step is followed there by what becomes of the expired session's calls and by nothing else. So items of another
-- session may stand behind the last step's own only where that step tells no expiry, or where there are none.
pub record StaysFaithful (timeout s : ℕ) (shown : List transcripts.Shown) (h : histories.History) : Type 0 where
  pub in_own : (k : KeptStep) → faithful.IsFaithful timeout (in_own_group k (left_open s shown) shown) h
  pub behind : (ends_in_expiry shown ≡ false) ⊎ (left_open s shown ≡ []) → faithful.IsFaithful timeout (behind_last (left_open s shown) shown) h

abbrev pub RacesAreFaithful : Type 0
RacesAreFaithful = (nodes clients timeout s : ℕ) (steps : List KeptStep) → StaysFaithful timeout s (runs.run nodes clients timeout steps).shown (runs.run nodes clients timeout steps).world.history
