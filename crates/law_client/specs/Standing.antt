-- How a client stands to the items above it and to a history: what each of its steps keeps.
use Rattle.std.specs.Prelude.{ℕ, suc, ◌≡◌, ◌≤◌, ◌<◌, ◌+◌, IsTrue, if◌then◌else◌, Option, Some, None, option_map, List, [], ◌∷◌, ◌++◌, length, map, reverse, count_by}
use Rattle.std.specs.List.{AllByRecursion}
use Rattle.ax_types.specs.Places as lists
use Rattle.ax_types.specs.declared.items.Item.{Item}
use Rattle.ax_types.specs.declared.items.Item.TheVariants as item
use Rattle.ax_types.specs.declared.ops.Level.{Level}
use Rattle.ax_types.specs.declared.ops.Level.TheVariants as level
use Rattle.ax_types.specs.declared.ops.Query.{Query}
use Rattle.ax_types.specs.declared.ops.WindowCall.{WindowCall}
use Rattle.ax_types.specs.declared.ops.WindowCall.TheVariants as call
use Rattle.ax_types.specs.declared.sessions.ClientState.{ClientState}
use Rattle.ax_types.specs.declared.sessions.ClientState.TheVariants as state
use Rattle.ax_types.specs.declared.sessions.Got.{Got}
use Rattle.spec_book.specs.Book as books
use Rattle.spec_book.specs.History as histories
use Rattle.spec_claims.specs.Transcript as transcripts
use Rattle.spec_claims.specs.Once as claims_once
use Rattle.spec_claims.specs.Right as claims_right
use Rattle.spec_claims.specs.FreshReads as fresh_reads
use Rattle.spec_claims.specs.Heard as claims_heard
use Rattle.spec_claims.specs.OutcomeOrder as outcome_order
use Rattle.spec_claims.specs.Payloads as payloads
use Rattle.spec_sequencer.specs.Sequencers as sequencers
use Rattle.spec_client.specs.Clients as clients
use Rattle.law_client.specs.Inputs as inputs

-- a read's mark is that of an arrival at a leader, below which no commit above the read's place stands
abbrev pub IsReachedBy : Level → List Item → ℕ → ℕ → ℕ → Option (ℕ × ℕ) → Type 0
IsReachedBy level.Lin above s n p (Some (t, a)) = payloads.IsReached above s n p t a
IsReachedBy level.Lin above s n p None = ⊥
IsReachedBy level.Seq above s n p (Some ta) = ⊥
IsReachedBy level.Seq above s n p None = Unit {0}

-- the answer that a command has got is the history's at the session's act of its sequence
pub record IsTrueReply (h : histories.History) (s seq : ℕ) (g : Got) : Type 0 where
  pub place : option_map (λ d. d.0) (lists.at_place (histories.dos h s) seq) ≡ Some g.place
  pub reply : histories.history_reply h g.place ≡ Some g.reply
  pub last_event : g.events ≡ histories.last_told h s g.place

-- and that of a query is the book's, behind the commands called before it, where the session is live
pub record IsTrueRead (h : histories.History) (above : List Item) (s n : ℕ) (l : Level) (name : List ℕ) (q : Query) (g : Got) : Type 0 where
  pub behind : transcripts.commands_below s n above ≤ claims_once.dos_upto h s g.place
  pub within : g.place ≤ length h
  pub live : IsTrue (histories.is_live h g.place s)
  pub last_event : g.events ≡ histories.last_told h s g.place
  pub answer : g.reply ≡ books.ask (histories.book_at h g.place) name q
  pub reached : IsReachedBy l above s n g.place g.reach

abbrev pub IsTrueGot : histories.History → List Item → ℕ → clients.Request → WindowCall → Option Got → Type 0
IsTrueGot h above s r w None = Unit {0}
IsTrueGot h above s r (call.Command name o) (Some g) = IsTrueReply h s r.seq g
IsTrueGot h above s r (call.Query l name q) (Some g) = IsTrueRead h above s r.number l name q g

-- a command has its rank among the commands as its sequence; a query has its level, and counts the commands before it
abbrev pub IsAskedSo : List Item → ℕ → sequencers.Unanswered → clients.Request → WindowCall → Type 0
IsAskedSo above s u r (call.Command name o) = (u.seq ≡ Some r.seq) × (u.level ≡ None) × (r.seq ≡ transcripts.commands_upto s r.number above)
IsAskedSo above s u r (call.Query l name q) = (u.seq ≡ None) × (u.level ≡ Some l) × (r.seq ≡ transcripts.commands_below s r.number above)

-- a call without an outcome was called, under its number
pub record IsOpenCall (h : histories.History) (above : List Item) (s : ℕ) (u : sequencers.Unanswered) (r : clients.Request) : Type 0 where
  pub number : u.number ≡ r.number
  pub called : transcripts.StandsIn (item.Called s r.number r.call) above
  pub asked_so : IsAskedSo above s u r r.call
  pub got : IsTrueGot h above s r r.call u.got

-- the calls without an outcome are numbered on from the outcomes
abbrev pub AreOpenCalls : histories.History → List Item → ℕ → ℕ → List sequencers.Unanswered → List clients.Request → Type 0
AreOpenCalls h above s done [] [] = Unit {0}
AreOpenCalls h above s done (u ∷ us) (r ∷ rs) = (r.number ≡ suc done) × IsOpenCall h above s u r × AreOpenCalls h above s (suc done) us rs
AreOpenCalls h above s done us rs = ⊥

-- the number and the call of a request
abbrev pub asked_call : clients.Request → ℕ × WindowCall
asked_call r = (r.number, r.call)

-- calls are numbered 1, 2, 3 from the last on
abbrev pub AreNumberedDown : List (ℕ × WindowCall) → Type 0
AreNumberedDown [] = Unit {0}
AreNumberedDown (c ∷ cs) = (c.0 ≡ suc (length cs)) × AreNumberedDown cs

-- the client's session, from its opening on
pub record IsOwn (h : histories.History) (c : clients.Client) (above : List Item) (s : ℕ) : Type 0 where
  pub opening : payloads.IsOpeningOf c.me c.switch.opening (lists.at_place h s)
  pub opened : count_by (claims_right.is_opened s) above ≡ 1
  pub there : transcripts.StandsIn (item.Opened s c.me) above
  pub unanswered : count_by (outcome_order.is_unanswered s) above ≡ 0
  pub called : length (transcripts.calls s above) + count_by (outcome_order.is_unsent s) above ≡ c.calls
  pub commands : count_by (λ w. transcripts.is_command w.1) (transcripts.calls s above) ≡ c.commands
  pub numbers : AreNumberedDown (transcripts.calls s above)
  -- how many outcomes there are
  pub done : ℕ
  pub outcomes : transcripts.outcome_count s above ≡ done
  pub still : done + length c.sequencer.calls ≡ c.calls
  pub below : AllByRecursion (outcome_order.IsBelowNumber s (suc done)) above
  pub asked : AreOpenCalls h above s done c.sequencer.calls c.requests
  pub waiting : transcripts.unanswered s (reverse above) ≡ map asked_call c.requests
  -- what was heard, and what of all that is told is still to come
  pub told : List histories.Heard
  pub rest : List histories.Heard
  pub is_told : claims_heard.heard s (reverse above) ≡ told
  pub whole : histories.events h s ≡ told ++ rest
  pub last : histories.last_place told ≡ c.sequencer.heard
  pub reads : AllByRecursion (fresh_reads.IsUpto s c.sequencer.read) above

-- so many ends of the session stand above, and this is the number of calls without an outcome
abbrev pub EndsAbove : ℕ → List Item → ℕ → Type 0
EndsAbove s above n = count_by (outcome_order.is_ended s) above ≡ n

abbrev pub UnsentAbove : ℕ → List Item → ℕ → Type 0
UnsentAbove s above n = count_by (outcome_order.is_unsent s) above ≡ n

-- the client's own session, by its state
abbrev pub OwnStands : histories.History → clients.Client → List Item → ClientState → Type 0
OwnStands h c above (state.Live s) = IsOwn h c above s × EndsAbove s above 0 × UnsentAbove s above 0
OwnStands h c above (state.Closing s) = IsOwn h c above s × EndsAbove s above 0 × UnsentAbove s above 0 × (c.requests ≡ [])
OwnStands h c above (state.Ended s) = IsOwn h c above s × EndsAbove s above 1 × (c.requests ≡ [])
OwnStands h c above _ = Unit {0}

-- the openings below this number may have given sessions
abbrev pub next_opening : clients.Client → ℕ
next_opening c = if clients.is_opening c.state then c.switch.opening else suc c.switch.opening

-- the session was opened, and if by this client, then by an opening below the number
pub record IsOpenedBelow (me next : ℕ) (h : histories.History) (s : ℕ) : Type 0 where
  pub client : ℕ
  pub opening : ℕ
  pub opened : payloads.IsOpeningOf client opening (lists.at_place h s)
  pub below : me ≡ client → opening < next

abbrev pub IsOld : ℕ → ℕ → histories.History → Option ℕ → Type 0
IsOld me next h None = Unit {0}
IsOld me next h (Some s) = IsOpenedBelow me next h s

-- the history opens the session for the client, and its opening stands among the items
pub record IsOpenedFor (me : ℕ) (h : histories.History) (items : List Item) (s : ℕ) : Type 0 where
  pub opening : ℕ
  pub opened : payloads.IsOpeningOf me opening (lists.at_place h s)
  pub there : transcripts.StandsIn (item.Opened s me) items

abbrev pub IsOfOwn : ℕ → histories.History → List Item → Option ℕ → Type 0
IsOfOwn me h items None = ⊥
IsOfOwn me h items (Some s) = IsOpenedFor me h items s

abbrev pub HasHeard : histories.History → List Item → ℕ → Type 0
HasHeard h above s = claims_once.Begins (claims_heard.heard s (reverse above)) (histories.events h s)

-- what each step of a client keeps
pub record Stands (h : histories.History) (seat : inputs.Seat) : Type 0 where
  pub old : AllByRecursion (λ x. IsOld seat.client.me (next_opening seat.client) h (inputs.session_in x)) seat.above
  pub own : OwnStands h seat.client seat.above seat.client.state
  pub heard : (s opening : ℕ) → payloads.IsOpeningOf seat.client.me opening (lists.at_place h s) → HasHeard h seat.above s
  pub numbered : (s opening : ℕ) → payloads.IsOpeningOf seat.client.me opening (lists.at_place h s) → AreNumberedDown (transcripts.calls s seat.above)
