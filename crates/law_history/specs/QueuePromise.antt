-- The laws of every history.
use Rattle.std.specs.Prelude.{ℕ, ◌≡◌, ◌<◌, List, Some}
use Rattle.ax_types.specs.Places as lists
use Rattle.spec_book.specs.History as histories
use Rattle.spec_claims.specs.Handed as handed

-- the k-th text taken from the queue of a name is the k-th that was offered to it, at a smaller place
abbrev pub QueuesHandInOrder : Type 0
QueuesHandInOrder = (h : histories.History) (name : List ℕ) (k p : ℕ) (v : List ℕ) → lists.at_place (handed.takes name h) k ≡ Some (p, v)
    → (q : ℕ) × (lists.at_place (handed.offers name h) k ≡ Some (q, v)) × (q < p)

-- where a poll found nothing, as many texts had been taken as offered
abbrev pub PollsFindNone : Type 0
PollsFindNone = (h : histories.History) (name : List ℕ) (k p : ℕ) → lists.at_place (handed.empty_polls name h) k ≡ Some p
    → handed.before p (handed.takes name h) ≡ handed.before p (handed.offers name h)
