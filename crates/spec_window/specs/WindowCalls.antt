-- What each call of the window does to the lists of the seat or the pump that makes it, and what its steps found.
use Rattle.std.specs.Prelude.{◌≡◌, ◌≢◌, ℕ, ◌+◌, ◌<◌, ◌≤◌, ◌⊎◌, zero, suc, None, List, [], ◌∷◌, ◌++◌, length}
use Rattle.ax_types.specs.declared.ops.WindowCall.{WindowCall}
use Rattle.ax_types.specs.declared.replies.Outcome.{Outcome}
use Rattle.spec_window.specs.WindowWords as window_words
use Rattle.spec_window.specs.Views as views

-- a step that found this value in the word
abbrev pub look : window_words.WindowWord → ℕ → window_words.Look
look word value = record { word = word; value = value }

-- A call is submitted: it gets number n, which is next at its load and at its draw.
pub record IsSubmitted (places : ℕ) (old new : views.SeatView) (call : WindowCall) (n : ℕ) : Type 0 where
  pub base : ℕ
  pub room : n < base + places
  pub not_spent : n < window_words.last_number
  pub after : old.seen ≤ n
  pub seat : new ≡ record old {
    mine = old.mine ++ record { number = n; call = call; outcome = None } ∷ [];
    seen = n + 1;
    looks = old.looks ++ look window_words.Next n ∷ look window_words.Base base ∷ look window_words.Next n ∷ [];
  }

-- The window is full: next is as many above base as there are places.
pub record IsFull (places : ℕ) (old new : views.SeatView) (next base : ℕ) : Type 0 where
  pub full : next ≡ base + places
  pub not_spent : next < window_words.last_number
  pub after : old.seen ≤ next
  pub seat : new ≡ record old { seen = next; looks = old.looks ++ look window_words.Next next ∷ look window_words.Base base ∷ [] }

-- Another caller drew the number: the draw found another next number than the load.
pub record IsLost (places : ℕ) (old new : views.SeatView) (seen found : ℕ) : Type 0 where
  pub base : ℕ
  pub room : seen ≢ base + places
  pub not_spent : seen < window_words.last_number
  pub other : found ≢ seen
  pub after : old.seen ≤ seen
  pub later : seen ≤ found
  pub seat : new ≡ record old { seen = found; looks = old.looks ++ look window_words.Next seen ∷ look window_words.Base base ∷ look window_words.Next found ∷ [] }

-- The window is spent: the load found the last number.
pub record IsSpent (old new : views.SeatView) (next : ℕ) : Type 0 where
  pub last : next ≡ window_words.last_number
  pub after : old.seen ≤ next
  pub seat : new ≡ record old { seen = next; looks = old.looks ++ look window_words.Next next ∷ [] }

-- The outcome of a number that this seat drew is taken out.
pub record IsPolled (places : ℕ) (old new : views.SeatView) (number : ℕ) (outcome : Outcome) : Type 0 where
  pub seat : new ≡ record old {
    mine = views.with_outcome old.mine number outcome;
    looks = old.looks ++ look (window_words.state_word places number) (window_words.answered number) ∷ [];
  }

-- There is no outcome yet.
pub record IsPending (places : ℕ) (old new : views.SeatView) (number found : ℕ) : Type 0 where
  pub other : found ≢ window_words.answered number
  pub seat : new ≡ record old { looks = old.looks ++ look (window_words.state_word places number) found ∷ [] }

-- Before the pump looks for a call it raises the base by k: past each place that is free for its next number, up to as
-- many as there are places.
abbrev pub raising_looks : ℕ → ℕ → ℕ → List window_words.Look
raising_looks places base zero = []
raising_looks places base (suc k) = look (window_words.state_word places base) (window_words.free_for (base + places)) ∷ raising_looks places (base + 1) k

-- the place behind the last one that was passed was found in use, where not all were passed
pub record IsInUse (places number found : ℕ) : Type 0 where
  pub other : found ≢ window_words.free_for (number + places)

pub record IsRaised (places : ℕ) (old new : views.PumpView) (k : ℕ) (end : List window_words.Look) : Type 0 where
  pub few : k ≤ places
  pub stop : ((k ≡ places) × (end ≡ [])) ⊎ ((found : ℕ) × (end ≡ look (window_words.state_word places (old.base + k)) found ∷ []) × IsInUse places (old.base + k) found)
  pub pump : new ≡ record old { base = old.base + k; looks = old.looks ++ (raising_looks places old.base k ++ end) }

-- The pump takes the next call.
pub record IsTaken (places : ℕ) (old new : views.PumpView) (number : ℕ) (call : WindowCall) : Type 0 where
  pub k : ℕ
  pub end : List window_words.Look
  pub between : views.PumpView
  pub raised : IsRaised places old between k end
  pub next : number ≡ length old.taken
  pub pump : new ≡ record between {
    taken = between.taken ++ call ∷ [];
    looks = between.looks ++ look (window_words.state_word places number) (window_words.published number) ∷ [];
  }

-- No call is published at the pump's next number.
pub record IsEmpty (places : ℕ) (old new : views.PumpView) (found : ℕ) : Type 0 where
  pub k : ℕ
  pub end : List window_words.Look
  pub between : views.PumpView
  pub raised : IsRaised places old between k end
  pub other : found ≢ window_words.published (length old.taken)
  pub pump : new ≡ record between { looks = between.looks ++ look (window_words.state_word places (length old.taken)) found ∷ [] }

-- The pump gives a number its outcome.
abbrev pub IsAnswered : views.PumpView → views.PumpView → ℕ → Outcome → Type 0
IsAnswered old new number outcome = new ≡ record old { given = old.given ++ record { number = number; outcome = outcome } ∷ [] }
