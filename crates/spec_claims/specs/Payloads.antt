-- When what a packet tells a client is true of a transcript and a history, as they are then.
use Rattle.std.specs.Prelude.{ℕ, ◌≡◌, ◌≤◌, ◌⊎◌, IsTrue, List, [], ◌∷◌, ◌++◌, length, Option, Some, None, option_map}
use Rattle.ax_types.specs.Places as lists
use Rattle.ax_types.specs.declared.entries.Act.{Act}
use Rattle.ax_types.specs.declared.entries.Act.TheVariants as act
use Rattle.ax_types.specs.declared.ops.Query.{Query}
use Rattle.ax_types.specs.declared.ops.Level.{Level}
use Rattle.ax_types.specs.declared.ops.Level.TheVariants as level
use Rattle.ax_types.specs.declared.ops.WindowCall.TheVariants as call
use Rattle.ax_types.specs.declared.replies.Reply.{Reply}
use Rattle.ax_types.specs.declared.packets.Payload.{Payload}
use Rattle.ax_types.specs.declared.packets.Payload.TheVariants as payload
use Rattle.ax_types.specs.declared.items.Item.{Item}
use Rattle.ax_types.specs.declared.items.Item.TheVariants as item
use Rattle.spec_book.specs.Book as books
use Rattle.spec_book.specs.History as histories
use Rattle.spec_claims.specs.Transcript as transcripts
use Rattle.spec_claims.specs.Once as once
use Rattle.spec_claims.specs.OutcomeOrder as outcome_order

-- the history opens a session for the client's opening at the place
abbrev pub IsOpeningOf : ℕ → ℕ → Option (ℕ × Act) → Type 0
IsOpeningOf c opening None = ⊥
IsOpeningOf c opening (Some a) = of_client a.1
  where
    of_client : Act → Type 0
    of_client (act.Open d o) = (c ≡ d) × (opening ≡ o)
    of_client _ = ⊥

-- the request of a linearizable query reached a leader, and the place is at least each commit above that
pub record IsReached (items : List Item) (s n p term arrival : ℕ) : Type 0 where
  pub node : ℕ
  pub later : List Item
  pub earlier : List Item
  pub there : items ≡ later ++ item.Reach node term arrival s n ∷ earlier
  pub covers : transcripts.greatest_commit earlier ≤ p

abbrev pub IsReachedAt : Level → List Item → ℕ → ℕ → ℕ → ℕ → ℕ → Type 0
IsReachedAt level.Lin items s n p term arrival = IsReached items s n p term arrival
IsReachedAt level.Seq items s n p term arrival = Unit {0}

-- the query was called; every command called above it took effect at or before the place, where the session is live; and
-- the reply is the plain book's there. `items` has the last first
pub record IsTrueAnswer (items : List Item) (h : histories.History) (s n : ℕ) (l : Level) (p named term arrival : ℕ) (r : Reply) : Type 0 where
  pub name : List ℕ
  pub query : Query
  pub called : transcripts.StandsIn (item.Called s n (call.Query l name query)) items
  pub within : p ≤ length h
  pub live : IsTrue (histories.is_live h p s)
  pub behind : transcripts.commands_below s n items ≤ once.dos_upto h s p
  pub last_event : named ≡ histories.last_told h s p
  pub answer : r ≡ books.ask (histories.book_at h p) name query
  pub reached : IsReachedAt l items s n p term arrival

-- one of the batches that the session is told
abbrev pub IsHeardIn : histories.Heard → List histories.Heard → Type 0
IsHeardIn x [] = ⊥
IsHeardIn x (y ∷ ys) = (y ≡ x) ⊎ IsHeardIn x ys

-- what a payload tells client c; `items` has the last first. A payload that tells no client anything is true
abbrev pub IsTruePayload : List Item → histories.History → ℕ → Payload → Type 0
IsTruePayload items h c (payload.Opened opening s) = IsOpeningOf c opening (lists.at_place h s)
IsTruePayload items h c (payload.Reply s seq p named r) =
    (option_map (λ d. d.0) (lists.at_place (histories.dos h s) seq) ≡ Some p) × (histories.history_reply h p ≡ Some r) × (named ≡ histories.last_told h s p)
IsTruePayload items h c (payload.Answer s n l p named term arrival r) = IsTrueAnswer items h s n l p named term arrival r
IsTruePayload items h c (payload.Gap s last) = (last ≡ 0) ⊎ (last ≤ length (histories.dos h s))
IsTruePayload items h c (payload.Batch s p prev es) = IsHeardIn (record { place = p; prev = prev; events = es }) (histories.events h s)
IsTruePayload items h c (payload.Ended s p how) = outcome_order.IsEndOf s how (lists.at_place h p)
IsTruePayload items h c _ = Unit {0}
