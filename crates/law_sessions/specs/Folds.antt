-- What a session state tells, by the acts of the entries that it has applied.
use Rattle.std.specs.Prelude.{◌≡◌, ℕ, suc, IsTrue, Some, List, [], ◌∷◌, ◌++◌, length}
use Rattle.std.specs.List.{AllByRecursion}
use Rattle.ax_types.specs.declared.entries.Batch.{Batch}
use Rattle.ax_types.specs.declared.entries.Entry.{Entry}
use Rattle.ax_types.specs.declared.packets.Payload.{Payload}
use Rattle.ax_types.specs.declared.packets.Payload.TheVariants as payload
use Rattle.ax_types.specs.declared.items.Item.{Item}
use Rattle.ax_types.specs.declared.replies.How.{How}
use Rattle.ax_types.specs.declared.replies.Reply.{Reply}
use Rattle.ax_types.specs.declared.sessions.Applied.{Applied}
use Rattle.ax_types.specs.declared.sessions.KeptReply.{KeptReply}
use Rattle.ax_types.specs.declared.sessions.SessionState.TheVariants as state
use Rattle.spec_book.specs.History as histories
use Rattle.spec_claims.specs.Payloads as payloads
use Rattle.spec_sessions.specs.Outboxes as outboxes
use Rattle.spec_sessions.specs.Sessions as sessions
use Rattle.spec_run.specs.KeptStores as kept_stores

-- the session state after some more entries, and after all of a log
abbrev pub applied_all : sessions.Sessions → List Entry → sessions.Sessions
applied_all s [] = s
applied_all s (e ∷ es) = applied_all (sessions.applying s (suc s.applied) e) es

abbrev pub sessions_after : ℕ → List Entry → sessions.Sessions
sessions_after timeout es = applied_all (sessions.new_sessions timeout) es

-- what is true whatever has been called
abbrev pub IsTrueOf : histories.History → ℕ → Payload → Type 0
IsTrueOf h c p = (items : List Item) → payloads.IsTruePayload items h c p

-- of a live session: it is live in the history, as many commands took effect, and its last batch is at the place of its last events
pub record IsLiveBy (h : histories.History) (s : sessions.Sessions) (t : ℕ) : Type 0 where
  pub live : IsTrue (histories.is_live h (length h) t)
  pub seq : outboxes.last_seq s.boxes t ≡ length (histories.dos h t)
  pub batch : outboxes.last_batch s.boxes t ≡ histories.last_told h t (length h)

-- a session state tells what the plain book of a history tells
pub record TellsFold (h : histories.History) (s : sessions.Sessions) : Type 0 where
  pub applied : s.applied ≡ length h
  pub book : s.book ≡ histories.book_at h (length h)
  pub live : (t : ℕ) → sessions.session_state s t ≡ state.Live → IsLiveBy h s t
  pub all_live : (t : ℕ) → IsTrue (histories.is_live h (length h) t) → sessions.session_state s t ≡ state.Live
  pub ended : (c t p : ℕ) (how : How) → sessions.session_state s t ≡ state.Ended p how → IsTrueOf h c (payload.Ended t p how)
  pub reply : (c t seq : ℕ) (k : KeptReply) → outboxes.kept_reply s.boxes t seq ≡ Some k → IsTrueOf h c (sessions.reply_payload t k)
  pub batches : (c t heard : ℕ) → AllByRecursion (λ (b : Batch). IsTrueOf h c (payload.Batch t b.place b.prev b.events)) (sessions.after s t heard)

abbrev pub StateTellsFold : Type 0
StateTellsFold = (timeout : ℕ) (es : List Entry) → TellsFold (kept_stores.acts_of timeout es) (sessions_after timeout es)

-- what an entry gives is the reply that the history has there, a true answer to its client, and true batches
pub record GivesFold (h : histories.History) (a : Applied) : Type 0 where
  pub reply : (r : Reply) → a.reply ≡ Some r → histories.history_reply h (length h) ≡ Some r
  pub answer : (c : ℕ) (p : Payload) → a.answer ≡ Some (c, p) → IsTrueOf h c p
  pub batches : (c : ℕ) → AllByRecursion (λ (b : ℕ × Batch). IsTrueOf h c (payload.Batch b.0 b.1.place b.1.prev b.1.events)) a.batches

abbrev pub EntryGivesFold : Type 0
EntryGivesFold = (timeout : ℕ) (es : List Entry) (e : Entry)
    → GivesFold (kept_stores.acts_of timeout (es ++ e ∷ [])) (sessions.applied_of (sessions_after timeout es) (suc (sessions_after timeout es).applied) e)
