-- What the acts of a history tell: whom, and in which order.
use Rattle.std.specs.Prelude.{◌≡◌, ◌⊎◌, ◌≤◌, ◌<◌, ℕ, IsTrue, List, [], ◌∷◌}
use Rattle.std.specs.List.{AllByRecursion}
use Rattle.spec_book.specs.History as histories

-- in a lawful history only a session that is live after an act is told anything by it
abbrev pub OnlyLiveAreTold : Type 0
OnlyLiveAreTold = (timeout : ℕ) (h : histories.History) → histories.IsLawful timeout h → (p s : ℕ) → (histories.told_at h p s ≡ []) ⊎ IsTrue (histories.is_live h p s)

-- each names the place of the one before, the first of them this place, and places rise
abbrev pub IsChain : ℕ → List histories.Heard → Type 0
IsChain prev [] = Unit {0}
IsChain prev (e ∷ es) = (e.prev ≡ prev) × (prev < e.place) × IsChain e.place es

-- the events of a session are a chain from 0 on, and of those up to a place the last is at the place that is last told there
pub record AreChained (h : histories.History) (s : ℕ) : Type 0 where
  pub chain : IsChain 0 (histories.events h s)
  pub last : (p : ℕ) → AllByRecursion (λ e. e.place ≤ p → e.place ≤ histories.last_told h s p) (histories.events h s)

abbrev pub EventsChain : Type 0
EventsChain = (h : histories.History) (s : ℕ) → AreChained h s
