-- A session state, beside the entries that it applied and their acts.
use Rattle.std.proofs.Common.{◌≡◌, ℕ, Bool, true, nat_eq, List, [], Option, Some, None, length, map, refl, sym, ap, ◌∙◌, subst}
use Rattle.std.specs.List.{AllByRecursion, list_any}
use Rattle.ax_types.specs.Places as lists
use Rattle.ax_types.specs.declared.entries.Act.{Act}
use Rattle.ax_types.specs.declared.entries.Batch.{Batch}
use Rattle.ax_types.specs.declared.entries.Entry.{Entry}
use Rattle.ax_types.specs.declared.ops.Op.{Op}
use Rattle.ax_types.specs.declared.packets.Payload.TheVariants as payload
use Rattle.ax_types.specs.declared.replies.How.{How}
use Rattle.ax_types.specs.declared.sessions.KeptReply.{KeptReply}
use Rattle.ax_types.specs.declared.sessions.SessionState.TheVariants as state
use Rattle.spec_book.specs.History as histories
use Rattle.spec_claims.specs.Payloads as payloads
use Rattle.spec_sessions.specs.Tables as table
use Rattle.spec_sessions.specs.Outboxes as outboxes
use Rattle.spec_sessions.specs.Sessions as sessions
use Rattle.law_told.proofs.Named.{IsLiveNow, OfLive}
use Rattle.law_sessions.specs.Acts as laws
use Rattle.law_sessions.proofs.Finding.{equal, found_passes, any_found, found_any, any_alike}
use Rattle.law_sessions.proofs.Signs.{sign_now}

-- a live session of the table
pub record IsLiveIn (h : histories.History) (l : table.Live) : Type 0 where
  pub opened : payloads.IsOpeningOf l.client l.opening (lists.at_place h l.session)
  pub live : IsLiveNow h l.session
  pub sign : l.sign ≡ sign_now h l.session

-- a session that ended
abbrev pub IsPastIn : histories.History → table.PastSession → Type 0
IsPastIn h p = payloads.IsTruePayload [] h 0 (payload.Ended p.session p.place p.how)

abbrev pub IsReplyIn : histories.History → ℕ → KeptReply → Type 0
IsReplyIn h t k = payloads.IsTruePayload [] h 0 (sessions.reply_payload t k)

abbrev pub IsBatchIn : histories.History → ℕ → Batch → Type 0
IsBatchIn h t b = payloads.IsTruePayload [] h 0 (payload.Batch t b.place b.prev b.events)

-- what is kept for a live session
pub record IsBoxIn (h : histories.History) (o : outboxes.Outbox) : Type 0 where
  pub seq : o.cache.last ≡ length (histories.dos h o.session)
  pub batch : o.batches.last ≡ histories.last_place (histories.events h o.session)
  pub replies : AllByRecursion (IsReplyIn h o.session) o.cache.replies
  pub batches : AllByRecursion (IsBatchIn h o.session) o.batches.kept

abbrev pub is_session : ℕ → table.Live → Bool
is_session t l = nat_eq l.session t

abbrev pub is_box : ℕ → outboxes.Outbox → Bool
is_box t o = nat_eq o.session t

pub record IsTableIn (timeout : ℕ) (h : histories.History) (t : table.Table) : Type 0 where
  pub limit : t.timeout ≡ timeout
  pub live : AllByRecursion (IsLiveIn h) t.live
  pub all : (s : ℕ) → IsLiveNow h s → list_any (is_session s) t.live ≡ true
  pub past : AllByRecursion (IsPastIn h) t.past

abbrev pub HaveSame : table.Table → List outboxes.Outbox → Type 0
HaveSame t boxes = map (λ l. l.session) t.live ≡ map (λ o. o.session) boxes

-- the acts of some entries
pub record AreActs (timeout : ℕ) (es : List Entry) (h : histories.History) : Type 0 where
  pub long : length h ≡ length es
  pub each : (p : ℕ) (a : ℕ × Act) → lists.at_place h p ≡ Some a → laws.IsActOf (lists.at_place es p) a
  pub commands : (s k : ℕ) (d : ℕ × (List ℕ × Op)) → lists.at_place (histories.dos h s) k ≡ Some d → laws.IsCommandAt s k d.1 (lists.at_place es d.0)
  pub of_live : OfLive h
  pub due : (p : ℕ) (a : ℕ × Act) → lists.at_place h p ≡ Some a → histories.IsDue h timeout p a

pub record IsStateOf (timeout : ℕ) (es : List Entry) (h : histories.History) (s : sessions.Sessions) : Type 0 where
  pub acts : AreActs timeout es h
  pub applied : s.applied ≡ length h
  pub book : s.book ≡ histories.book_after 0 [] h
  pub table : IsTableIn timeout h s.table
  pub same : HaveSame s.table s.boxes
  pub boxes : AllByRecursion (IsBoxIn h) s.boxes

-- a session that the table has as live, and its outbox
pub record Found (h : histories.History) (s : sessions.Sessions) (t : ℕ) : Type 0 where
  pub row : table.Live
  pub is_row : table.live_session s.table t ≡ Some row
  pub row_is : row.session ≡ t
  pub good : IsLiveIn h row
  pub box : outboxes.Outbox
  pub is_box : outboxes.outbox_of s.boxes t ≡ Some box
  pub box_is : box.session ≡ t
  pub kept : IsBoxIn h box

pub found_row : (timeout : ℕ) (es : List Entry) (h : histories.History) (s : sessions.Sessions) (t : ℕ) (l : table.Live) → IsStateOf timeout es h s → table.live_session s.table t ≡ Some l → Found h s t
found_row timeout es h s t l r e =
    let a = found_passes (IsLiveIn h) (is_session t) s.table.live l r.table.live e in
    let b = found_any (is_session t) s.table.live l e in
    let c = any_found (is_box t) s.boxes (sym (any_alike (λ x. x.session) (λ o. o.session) t s.table.live s.boxes r.same) ∙ b) in
    let d = found_passes (IsBoxIn h) (is_box t) s.boxes c.0 r.boxes c.1 in
    record { row = l; is_row = e; row_is = equal l.session t a.1; good = a.0; box = c.0; is_box = c.1; box_is = equal c.0.session t d.1; kept = d.0 }

state_live : (timeout : ℕ) (es : List Entry) (h : histories.History) (s : sessions.Sessions) (t : ℕ) (l : Option table.Live) (p : Option table.PastSession) → IsStateOf timeout es h s → table.live_session s.table t ≡ l → table.state_with l p ≡ state.Live → Found h s t
state_live timeout es h s t (Some l) p r e f = found_row timeout es h s t l r e
state_live timeout es h s t None (Some p) r e f = absurd (cc)
state_live timeout es h s t None None r e f = absurd (cc)

pub live_found : (timeout : ℕ) (es : List Entry) (h : histories.History) (s : sessions.Sessions) (t : ℕ) → IsStateOf timeout es h s → sessions.session_state s t ≡ state.Live → Found h s t
live_found timeout es h s t r e = state_live timeout es h s t (table.live_session s.table t) (table.past_session s.table t) r refl e

state_ended : (timeout : ℕ) (es : List Entry) (h : histories.History) (s : sessions.Sessions) (t place : ℕ) (how : How) (l : Option table.Live) (p : Option table.PastSession) → IsStateOf timeout es h s → table.past_session s.table t ≡ p → table.state_with l p ≡ state.Ended place how → payloads.IsTruePayload [] h 0 (payload.Ended t place how)
state_ended timeout es h s t place how (Some l) p r e f = absurd (cc)
state_ended timeout es h s t place how None (Some p) r e f =
    let a = found_passes (IsPastIn h) (λ x. nat_eq x.session t) s.table.past p r.table.past e in
    let b = equal p.session t a.1 in
    let c : p.place ≡ place = cc in
    let d : p.how ≡ how = cc in
    subst (λ x. payloads.IsTruePayload [] h 0 (payload.Ended t place x)) d (subst (λ x. payloads.IsTruePayload [] h 0 (payload.Ended t x p.how)) c (subst (λ x. payloads.IsTruePayload [] h 0 (payload.Ended x p.place p.how)) b a.0))
state_ended timeout es h s t place how None None r e f = absurd (cc)

pub past_found : (timeout : ℕ) (es : List Entry) (h : histories.History) (s : sessions.Sessions) (t place : ℕ) (how : How) → IsStateOf timeout es h s → sessions.session_state s t ≡ state.Ended place how → payloads.IsTruePayload [] h 0 (payload.Ended t place how)
past_found timeout es h s t place how r e = state_ended timeout es h s t place how (table.live_session s.table t) (table.past_session s.table t) r refl e

-- the last command and the last batch of a live session
pub found_seq : (timeout : ℕ) (es : List Entry) (h : histories.History) (s : sessions.Sessions) (t : ℕ) → IsStateOf timeout es h s → Found h s t → outboxes.last_seq s.boxes t ≡ length (histories.dos h t)
found_seq timeout es h s t r f = ap outboxes.last_seq_in f.is_box ∙ f.kept.seq ∙ ap (λ x. length (histories.dos h x)) f.box_is

pub found_batch : (timeout : ℕ) (es : List Entry) (h : histories.History) (s : sessions.Sessions) (t : ℕ) → IsStateOf timeout es h s → Found h s t → outboxes.last_batch s.boxes t ≡ histories.last_place (histories.events h t)
found_batch timeout es h s t r f = ap outboxes.last_batch_in f.is_box ∙ f.kept.batch ∙ ap (λ x. histories.last_place (histories.events h x)) f.box_is

kept_in : (h : histories.History) (t seq : ℕ) (k : KeptReply) (o : Option outboxes.Outbox) → ((b : outboxes.Outbox) → o ≡ Some b → IsBoxIn h b × (b.session ≡ t)) → outboxes.kept_reply_in o seq ≡ Some k → IsReplyIn h t k
kept_in h t seq k None f e = absurd (cc)
kept_in h t seq k (Some b) f e =
    let g = f b refl in
    let a = found_passes (IsReplyIn h b.session) (λ x. nat_eq x.seq seq) b.cache.replies k g.0.replies e in
    subst (λ x. IsReplyIn h x k) g.1 a.0

pub kept_found : (timeout : ℕ) (es : List Entry) (h : histories.History) (s : sessions.Sessions) (t seq : ℕ) (k : KeptReply) → IsStateOf timeout es h s → outboxes.kept_reply s.boxes t seq ≡ Some k → IsReplyIn h t k
kept_found timeout es h s t seq k r e =
    kept_in h t seq k (outboxes.outbox_of s.boxes t) (λ b f. let a = found_passes (IsBoxIn h) (is_box t) s.boxes b r.boxes f in (a.0, equal b.session t a.1)) e
