-- What an entry does to the sessions does not depend on the resources beside them.
use Rattle.std.proofs.Common.{◌≡◌, ℕ, suc, ◌+◌, ◌<◌, ◌∙◌, refl, sym, ap, subst, Bool, true, false, nat_eq, nat_le, List, Option, Some, None}
use Rattle.std.specs.Prelude.{if◌then◌else◌, IfSome}
use Rattle.std.specs.List.{AllByRecursion}
use Rattle.ax_types.specs.declared.entries.Act.TheVariants as act
use Rattle.ax_types.specs.declared.entries.Body.{Body}
use Rattle.ax_types.specs.declared.entries.Body.TheVariants as body
use Rattle.ax_types.specs.declared.entries.Entry.{Entry}
use Rattle.ax_types.specs.declared.ops.Op.{Op}
use Rattle.ax_types.specs.declared.packets.Payload.TheVariants as payload
use Rattle.ax_types.specs.declared.replies.How.TheVariants as how
use Rattle.ax_types.specs.declared.replies.Turn.{Turn}
use Rattle.ax_types.specs.declared.sessions.Applied.{Applied}
use Rattle.ax_types.specs.declared.sessions.KeptReply.{KeptReply}
use Rattle.ax_types.specs.declared.sessions.SessionState.{SessionState}
use Rattle.ax_types.specs.declared.sessions.SessionState.TheVariants as state
use Rattle.spec_book.specs.Book as books
use Rattle.spec_sessions.specs.Outboxes as outboxes
use Rattle.spec_sessions.specs.Sessions as session_states
use Rattle.spec_sessions.specs.Tables as tables
use Rattle.sess_state.specs.ServerSessions as server_sessions
use Rattle.sess_state.specs.SessionParts as session_parts
use Rattle.sess_state.specs.declared.parts.Effect.{Effect}
use Rattle.sess_state.specs.declared.parts.Parts.{Parts}
use Rattle.sess_state.proofs.BelowNext.{earlier_batches, below_next, next_command}

abbrev pub beside : ℕ → books.Book → Parts → session_states.Sessions
beside applied book p = record { applied = applied; book = book; table = p.table; boxes = p.boxes }

same_if : (b : Bool) (d e f g : session_states.Effect) → d ≡ f → e ≡ g → (if b then d else e) ≡ (if b then f else g)
same_if true d e f g same other = same
same_if false d e f g same other = other

module _ (p : Parts) (applied : ℕ) (book : books.Book) where
  same_keeping : (time session answered heard : ℕ) (x : SessionState)
      → session_states.keeping (session_parts.of_parts p) time session answered heard x ≡ session_states.keeping (beside applied book p) time session answered heard x
  same_keeping time session answered heard state.Live = refl
  same_keeping time session answered heard state.Unknown = refl
  same_keeping time session answered heard (state.Ended q h) = refl

  same_again : (session : ℕ) (x : Option KeptReply) → session_states.again_from (session_parts.of_parts p) session x ≡ session_states.again_from (beside applied book p) session x
  same_again session None = refl
  same_again session (Some k) = refl

  same_live : (session seq : ℕ) (name : List ℕ) (o : Op) (last : ℕ)
      → session_states.commanding_live (session_parts.of_parts p) session seq name o last ≡ session_states.commanding_live (beside applied book p) session seq name o last
  same_live session seq name o last =
      let s : session_states.Sessions = session_parts.of_parts p in
      let t : session_states.Sessions = beside applied book p in
      same_if (nat_eq seq (suc last)) (record (session_states.nothing s) { act = act.Do session name o; command = Some (session, seq) })
      (if nat_le seq last then session_states.again_from s session (outboxes.kept_reply s.boxes session seq) else session_states.only_answer s (Some (payload.Gap session last)))
      (record (session_states.nothing t) { act = act.Do session name o; command = Some (session, seq) })
      (if nat_le seq last then session_states.again_from t session (outboxes.kept_reply t.boxes session seq) else session_states.only_answer t (Some (payload.Gap session last))) refl
      (same_if (nat_le seq last) (session_states.again_from s session (outboxes.kept_reply s.boxes session seq)) (session_states.only_answer s (Some (payload.Gap session last)))
      (session_states.again_from t session (outboxes.kept_reply t.boxes session seq)) (session_states.only_answer t (Some (payload.Gap session last)))
      (same_again session (outboxes.kept_reply p.boxes session seq)) refl)

  same_commanding : (session seq : ℕ) (name : List ℕ) (o : Op) (x : SessionState)
      → session_states.commanding (session_parts.of_parts p) session seq name o x ≡ session_states.commanding (beside applied book p) session seq name o x
  same_commanding session seq name o state.Live = same_live session seq name o (outboxes.last_seq p.boxes session)
  same_commanding session seq name o state.Unknown = refl
  same_commanding session seq name o (state.Ended q h) = refl

  same_closing : (place session : ℕ) (x : SessionState) → session_states.closing (session_parts.of_parts p) place session x ≡ session_states.closing (beside applied book p) place session x
  same_closing place session state.Live = refl
  same_closing place session state.Unknown = refl
  same_closing place session (state.Ended q h) = refl

  same_expiring : (place time session : ℕ) → session_states.expiring (session_parts.of_parts p) place time session ≡ session_states.expiring (beside applied book p) place time session
  same_expiring place time session =
      let s : session_states.Sessions = session_parts.of_parts p in
      let t : session_states.Sessions = beside applied book p in
      same_if (tables.may_expire p.table session time) (session_states.ending s place session how.Expired (act.Expire session) None) (session_states.nothing s)
      (session_states.ending t place session how.Expired (act.Expire session) None) (session_states.nothing t) refl refl

  pub same_effect : (place time : ℕ) (b : Body) → session_states.effect (session_parts.of_parts p) place time b ≡ session_states.effect (beside applied book p) place time b
  same_effect place time body.Blank = refl
  same_effect place time (body.Register client opening) = refl
  same_effect place time (body.Keep client session answered heard) = same_keeping time session answered heard (tables.state_of p.table session)
  same_effect place time (body.Command client session seq name o) = same_commanding session seq name o (tables.state_of p.table session)
  same_effect place time (body.Close client session) = same_closing place session (tables.state_of p.table session)
  same_effect place time (body.Expire session) = same_expiring place time session

-- what the turn of an act gives, and the outboxes after it
abbrev pub settled : ℕ → Effect → Turn → Option ℕ → Parts → Applied
settled place f t client q = record {
  act = f.act;
  reply = session_states.given_reply f.command t.reply;
  answer = session_states.answer_to client (session_states.command_answer (outboxes.all_told place t.told q.boxes) place f.command t.reply f.answer);
  batches = outboxes.batches_due place t.told q.boxes;
}

abbrev pub settled_boxes : ℕ → Effect → Turn → Parts → List outboxes.Outbox
settled_boxes place f t q = session_states.boxes_with (outboxes.all_told place t.told q.boxes) place f.command t.reply

-- what is known of the parts q, the effect f and the turn t, where an entry was applied to the parts p beside a book
pub record AtTurn (p : Parts) (book : books.Book) (place : ℕ) (e : Entry) (f : Effect) (q : Parts) (t : Turn) : Type 0 where
  pub effect : f ≡ session_parts.effect_of (session_states.effect (session_parts.of_parts p) place e.time e.body)
  pub parts : q ≡ session_parts.parts_after p (session_states.effect (session_parts.of_parts p) place e.time e.body)
  pub turn : t ≡ (books.acted book place e.time f.act).turn

-- the same, in the definition's own terms
turn_is : (p : Parts) (applied : ℕ) (book : books.Book) (place : ℕ) (e : Entry) (f : Effect) (q : Parts) (t : Turn) → AtTurn p book place e f q t
    → (R : Effect → Parts → Turn → Type 0)
    → (let d = session_states.effect (beside applied book p) place e.time e.body in R (session_parts.effect_of d) (session_parts.parts_after p d) (books.acted book place e.time d.act).turn)
    → R f q t
turn_is p applied book place e f q t at R holds =
    let c : session_states.Effect = session_states.effect (session_parts.of_parts p) place e.time e.body in
    let d : session_states.Effect = session_states.effect (beside applied book p) place e.time e.body in
    let same : d ≡ c = sym (same_effect p applied book place e.time e.body) in
    let here = subst (λ (x : session_states.Effect). R (session_parts.effect_of x) (session_parts.parts_after p x) (books.acted book place e.time x.act).turn) same holds in
    let with_effect = subst (λ (x : Effect). R x (session_parts.parts_after p c) (books.acted book place e.time x.act).turn) (sym at.effect) here in
    let with_parts = subst (λ (x : Parts). R f x (books.acted book place e.time f.act).turn) (sym at.parts) with_effect in
    subst (λ (x : Turn). R f q x) (sym at.turn) with_parts

pub applied_is : (p : Parts) (applied : ℕ) (book : books.Book) (place : ℕ) (e : Entry) (f : Effect) (q : Parts) (t : Turn) → AtTurn p book place e f q t
    → settled place f t (session_states.body_client e.body) q ≡ session_states.applied_of (beside applied book p) place e
applied_is p applied book place e f q t at =
    turn_is p applied book place e f q t at
    (λ f q t. settled place f t (session_states.body_client e.body) q ≡ session_states.applied_of (beside applied book p) place e) refl

pub state_is : (p : Parts) (applied : ℕ) (book : books.Book) (place : ℕ) (e : Entry) (f : Effect) (q : Parts) (t : Turn) → AtTurn p book place e f q t
    → (let s : session_states.Sessions = record { applied = place; book = (books.acted book place e.time f.act).state; table = q.table; boxes = settled_boxes place f t q } in s)
    ≡ session_states.applying (beside applied book p) place e
state_is p applied book place e f q t at =
    turn_is p applied book place e f q t at
    (λ f q t. (let s : session_states.Sessions = record { applied = place; book = (books.acted book place e.time f.act).state; table = q.table; boxes = settled_boxes place f t q } in s)
    ≡ session_states.applying (beside applied book p) place e) refl

pub earlier_is : (p : Parts) (book : books.Book) (place : ℕ) (e : Entry) (f : Effect) (q : Parts) (t : Turn) → AtTurn p book place e f q t → 0 < place
    → session_parts.LieBelow place p.table p.boxes → AllByRecursion (λ (o : outboxes.Outbox). o.batches.last < place) q.boxes
earlier_is p book place e f q t at positive below =
    turn_is p 0 book place e f q t at (λ f q t. AllByRecursion (λ (o : outboxes.Outbox). o.batches.last < place) q.boxes)
    (earlier_batches place e.time e.body (beside 0 book p) positive below)

pub next_is : (p : Parts) (book : books.Book) (place : ℕ) (e : Entry) (f : Effect) (q : Parts) (t : Turn) → AtTurn p book place e f q t
    → IfSome f.command (λ c. c.1 ≡ outboxes.last_seq (outboxes.all_told place t.told q.boxes) c.0 + 1)
next_is p book place e f q t at =
    turn_is p 0 book place e f q t at (λ f q t. IfSome f.command (λ c. c.1 ≡ outboxes.last_seq (outboxes.all_told place t.told q.boxes) c.0 + 1))
    (next_command place e.time e.body (books.acted book place e.time (session_states.effect (beside 0 book p) place e.time e.body).act).turn.told (beside 0 book p))

pub below_is : (p : Parts) (book : books.Book) (place : ℕ) (e : Entry) (f : Effect) (q : Parts) (t : Turn) → AtTurn p book place e f q t → 0 < place
    → session_parts.LieBelow place p.table p.boxes → session_parts.LieBelow (suc place) q.table (settled_boxes place f t q)
below_is p book place e f q t at positive below =
    turn_is p 0 book place e f q t at (λ f q t. session_parts.LieBelow (suc place) q.table (settled_boxes place f t q))
    (below_next place e.time e.body (beside 0 book p) (books.acted book place e.time (session_states.effect (beside 0 book p) place e.time e.body).act).turn.told
    (books.acted book place e.time (session_states.effect (beside 0 book p) place e.time e.body).act).turn.reply positive below)

-- the state of a server, from the book and the parts that were settled
pub spelled : (place : ℕ) (b d : books.Book) (q p : Parts) (boxes : List outboxes.Outbox) (s : session_states.Sessions) → b ≡ d → q ≡ record p { boxes = boxes }
    → (let t : session_states.Sessions = record { applied = place; book = d; table = p.table; boxes = boxes } in t) ≡ s
    → (let u : server_sessions.ServerSessions = record { sessions = record { applied = place; book = b; table = q.table; boxes = q.boxes }; is_spent = false } in u)
    ≡ (let v : server_sessions.ServerSessions = record { sessions = s; is_spent = false } in v)
spelled place b d q p boxes s same settled is =
    let with_book = ap (λ (x : books.Book). (let u : server_sessions.ServerSessions = record { sessions = record { applied = place; book = x; table = q.table; boxes = q.boxes }; is_spent = false } in u)) same in
    let with_parts = ap (λ (x : Parts). (let u : server_sessions.ServerSessions = record { sessions = record { applied = place; book = d; table = x.table; boxes = x.boxes }; is_spent = false } in u)) settled in
    with_book ∙ (with_parts ∙ ap (λ (x : session_states.Sessions). (let v : server_sessions.ServerSessions = record { sessions = x; is_spent = false } in v)) is)
