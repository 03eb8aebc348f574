-- What is kept for a live session's client: replies of commands that may come again, and batches of events.
use Rattle.std.specs.Prelude.{ℕ, not, nat_eq, nat_lt, Option, Some, None, List, [], ◌∷◌, ◌++◌, take, map, filter, find, if◌then◌else◌}
use Rattle.ax_types.specs.declared.limits.TheConstants.{MAX_BATCHES}
use Rattle.ax_types.specs.declared.entries.Batch.{Batch}
use Rattle.ax_types.specs.declared.replies.Event.{Event}
use Rattle.ax_types.specs.declared.sessions.KeptReply.{KeptReply}

-- the most batches that one answer to a client brings
abbrev pub most_batches : ℕ
most_batches = MAX_BATCHES

-- the sequence of the last command carried out, and the replies that are kept, in order (Ongaro 2014, 6.3)
pub record Cache : Type 0 where
  pub last : ℕ
  pub replies : List KeptReply

abbrev pub new_cache : Cache
new_cache = record { last = 0; replies = [] }

abbrev pub cached : Cache → KeptReply → Cache
cached c kept = record { last = kept.seq; replies = c.replies ++ kept ∷ [] }

-- the reply of a command, unless it was never put or is trimmed
abbrev pub reply_of : Cache → ℕ → Option KeptReply
reply_of c seq = find (λ k. nat_eq k.seq seq) c.replies

-- replies of commands up to this sequence are let go: the client has them
abbrev pub without_replies : Cache → ℕ → Cache
without_replies c answered = record c { replies = filter (λ k. nat_lt answered k.seq) c.replies }

-- the place of the last batch, 0 before the first, and the batches that are kept, in order
pub record Batches : Type 0 where
  pub last : ℕ
  pub kept : List Batch

abbrev pub new_batches : Batches
new_batches = record { last = 0; kept = [] }

-- the batch of a place names the place of the one before
abbrev pub batch_of : Batches → ℕ → List Event → Batch
batch_of b place events = record { place = place; prev = b.last; events = events }

abbrev pub with_batch : Batches → ℕ → List Event → Batches
with_batch b place events = record { last = place; kept = b.kept ++ batch_of b place events ∷ [] }

-- the first batches above a place
abbrev pub after_heard : Batches → ℕ → List Batch
after_heard b heard = take most_batches (filter (λ x. nat_lt heard x.place) b.kept)

-- batches up to this place are let go: the client has heard them
abbrev pub without_batches : Batches → ℕ → Batches
without_batches b heard = record b { kept = filter (λ x. nat_lt heard x.place) b.kept }

-- what is kept for one live session
pub record Outbox : Type 0 where
  pub session : ℕ
  pub cache : Cache
  pub batches : Batches

abbrev pub new_outbox : ℕ → Outbox
new_outbox session = record { session = session; cache = new_cache; batches = new_batches }

abbrev pub outbox_of : List Outbox → ℕ → Option Outbox
outbox_of boxes session = find (λ o. nat_eq o.session session) boxes

abbrev pub change_outbox : (Outbox → Outbox) → ℕ → List Outbox → List Outbox
change_outbox f session boxes = map (λ o. if nat_eq o.session session then f o else o) boxes

abbrev pub without_outbox : List Outbox → ℕ → List Outbox
without_outbox boxes session = filter (λ o. not (nat_eq o.session session)) boxes

-- a keep-alive lets go what the client says that it has
abbrev pub trimmed : ℕ → ℕ → Outbox → Outbox
trimmed answered heard o = record o { cache = without_replies o.cache answered; batches = without_batches o.batches heard }

abbrev pub with_reply : KeptReply → Outbox → Outbox
with_reply kept o = record o { cache = cached o.cache kept }

-- the sequence of a session's last command, and the place of its last batch
abbrev pub last_seq_in : Option Outbox → ℕ
last_seq_in None = 0
last_seq_in (Some o) = o.cache.last

abbrev pub last_batch_in : Option Outbox → ℕ
last_batch_in None = 0
last_batch_in (Some o) = o.batches.last

abbrev pub last_seq : List Outbox → ℕ → ℕ
last_seq boxes session = last_seq_in (outbox_of boxes session)

abbrev pub last_batch : List Outbox → ℕ → ℕ
last_batch boxes session = last_batch_in (outbox_of boxes session)

abbrev pub kept_reply_in : Option Outbox → ℕ → Option KeptReply
kept_reply_in None seq = None
kept_reply_in (Some o) seq = reply_of o.cache seq

abbrev pub kept_reply : List Outbox → ℕ → ℕ → Option KeptReply
kept_reply boxes session seq = kept_reply_in (outbox_of boxes session) seq

-- the events for one session among those told at a place
abbrev pub told_to : ℕ → List (ℕ × Event) → List Event
told_to session told = map (λ t. t.1) (filter (λ t. nat_eq t.0 session) told)

-- the outbox with the batch of a place, where its session is told events there
abbrev pub box_with : ℕ → List Event → Outbox → Outbox
box_with place [] o = o
box_with place (e ∷ events) o = record o { batches = with_batch o.batches place (e ∷ events) }

abbrev pub batch_due : ℕ → List Event → Outbox → List (ℕ × Batch)
batch_due place [] o = []
batch_due place (e ∷ events) o = (o.session, batch_of o.batches place (e ∷ events)) ∷ []

-- each live session that is told events at a place gets a batch: the outboxes then, and the batches by session
abbrev pub all_told : ℕ → List (ℕ × Event) → List Outbox → List Outbox
all_told place told boxes = map (λ o. box_with place (told_to o.session told) o) boxes

abbrev pub batches_due : ℕ → List (ℕ × Event) → List Outbox → List (ℕ × Batch)
batches_due place told [] = []
batches_due place told (o ∷ boxes) = batch_due place (told_to o.session told) o ++ batches_due place told boxes
