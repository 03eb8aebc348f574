-- The batches of sessions that are told events at a place.
use Rattle.std.specs.Prelude.{ℕ, ◌<◌, ◌≤◌, Bool, false, nat_eq, List, [], ◌∷◌, Option, Some, None, if◌then◌else◌}
use Rattle.std.specs.List.{AllByRecursion}
use Rattle.ax_types.specs.declared.entries.Batch.{Batch}
use Rattle.ax_types.specs.declared.replies.Event.{Event}
use Rattle.spec_sessions.specs.Outboxes as outboxes

-- an outbox with the batch of a place
abbrev pub batched : ℕ → List Event → outboxes.Outbox → outboxes.Outbox
batched place events o = record o { batches = outboxes.with_batch o.batches place events }

-- the batch, where the session has an outbox
abbrev pub batch_for : ℕ → List Event → Option outboxes.Outbox → Option Batch
batch_for place events None = None
batch_for place events (Some o) = Some (outboxes.batch_of o.batches place events)

abbrev pub own_batch : ℕ → Option Batch → List (ℕ × Batch)
own_batch session None = []
own_batch session (Some b) = (session, b) ∷ []

-- the session that is told first
abbrev pub first_session : List (ℕ × Event) → Option ℕ
first_session [] = None
first_session (t ∷ told) = Some t.0

-- whether the first event is for a session
abbrev pub is_first : ℕ → List (ℕ × Event) → Bool
is_first session [] = false
is_first session (t ∷ told) = nat_eq t.0 session

-- the events at the front that are for a session, and what is told after them
abbrev pub foremost : ℕ → List (ℕ × Event) → List Event
foremost session [] = []
foremost session (t ∷ told) = if nat_eq t.0 session then t.1 ∷ foremost session told else []

abbrev pub beyond : ℕ → List (ℕ × Event) → List (ℕ × Event)
beyond session [] = []
beyond session (t ∷ told) = if nat_eq t.0 session then beyond session told else t ∷ told

-- each session that is told has had no batch of this place or a later one
abbrev pub AreOpen : ℕ → List (ℕ × Event) → List outboxes.Outbox → Type 0
AreOpen place told boxes = AllByRecursion (λ t. outboxes.last_batch boxes t.0 < place) told

-- no session is told before one with a lower number
abbrev pub RiseBySession : List (ℕ × Event) → Type 0
RiseBySession [] = Unit {0}
RiseBySession (t ∷ told) = AllByRecursion (λ u. t.0 ≤ u.0) told × RiseBySession told
