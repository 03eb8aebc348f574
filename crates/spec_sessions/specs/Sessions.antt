-- The session state, and what one entry of the log does to it (Ongaro 2014, 6.3).
use Rattle.std.specs.Prelude.{ℕ, suc, Bool, true, false, ◌&&◌, nat_eq, nat_le, Option, Some, None, List, [], ◌∷◌, ◌++◌, if◌then◌else◌}
use Rattle.ax_types.specs.declared.entries.Act.{Act}
use Rattle.ax_types.specs.declared.entries.Act.TheVariants as act
use Rattle.ax_types.specs.declared.entries.Batch.{Batch}
use Rattle.ax_types.specs.declared.entries.Body.{Body}
use Rattle.ax_types.specs.declared.entries.Body.TheVariants as body
use Rattle.ax_types.specs.declared.entries.Entry.{Entry}
use Rattle.ax_types.specs.declared.ops.Op.{Op}
use Rattle.ax_types.specs.declared.ops.Query.{Query}
use Rattle.ax_types.specs.declared.packets.Payload.{Payload}
use Rattle.ax_types.specs.declared.packets.Payload.TheVariants as payload
use Rattle.ax_types.specs.declared.replies.How.{How}
use Rattle.ax_types.specs.declared.replies.How.TheVariants as how
use Rattle.ax_types.specs.declared.replies.Reply.{Reply}
use Rattle.ax_types.specs.declared.sessions.Applied.{Applied}
use Rattle.ax_types.specs.declared.sessions.Asked.{Asked}
use Rattle.ax_types.specs.declared.sessions.Asked.TheVariants as asking
use Rattle.ax_types.specs.declared.sessions.KeptReply.{KeptReply}
use Rattle.ax_types.specs.declared.sessions.SessionState.{SessionState}
use Rattle.ax_types.specs.declared.sessions.SessionState.TheVariants as state
use Rattle.spec_book.specs.Book as books
use Rattle.spec_book.specs.Resources as book_resources
use Rattle.spec_sessions.specs.Tables as table
use Rattle.spec_sessions.specs.Outboxes as outboxes

-- how many places were applied, the resources, the sessions, and what is kept for the live ones, in order of session
pub record Sessions : Type 0 where
  pub applied : ℕ
  pub book : books.Book
  pub table : table.Table
  pub boxes : List outboxes.Outbox

abbrev pub new_sessions : ℕ → Sessions
new_sessions timeout = record { applied = 0; book = []; table = table.new_table timeout; boxes = [] }

abbrev pub session_state : Sessions → ℕ → SessionState
session_state s session = table.state_of s.table session

abbrev pub due_sessions : Sessions → ℕ → List ℕ
due_sessions s time = table.due s.table time

-- the first batches above a place of a live session
abbrev pub after_in : Option outboxes.Outbox → ℕ → List Batch
after_in None heard = []
after_in (Some o) heard = outboxes.after_heard o.batches heard

abbrev pub after : Sessions → ℕ → ℕ → List Batch
after s session heard = after_in (outboxes.outbox_of s.boxes session) heard

-- whether a query may be answered: the place is applied, and the session has ended or its commands up to seq are carried out
abbrev pub is_done : SessionState → ℕ → ℕ → Bool
is_done state.Unknown last seq = false
is_done state.Live last seq = nat_le seq last
is_done (state.Ended p h) last seq = true

abbrev pub is_ready : Sessions → ℕ → ℕ → ℕ → Bool
is_ready s session place seq = nat_le place s.applied && is_done (session_state s session) (outboxes.last_seq s.boxes session) seq

-- what a query of a known session is answered
abbrev pub asked_of : Sessions → ℕ → List ℕ → Query → SessionState → Asked
asked_of s session name q (state.Ended p h) = asking.Ended p h
asked_of s session name q _ = asking.Answer s.applied (outboxes.last_batch s.boxes session) (books.ask s.book name q)

abbrev pub asked : Sessions → ℕ → List ℕ → Query → Asked
asked s session name q = asked_of s session name q (session_state s session)

-- what an entry does: the act, what becomes of the sessions, the command whose reply is cached, and the answer where there is no such command
pub record Effect : Type 0 where
  pub act : Act
  pub table : table.Table
  pub boxes : List outboxes.Outbox
  pub command : Option (ℕ × ℕ)
  pub answer : Option Payload

-- nothing but an answer
abbrev pub only_answer : Sessions → Option Payload → Effect
only_answer s answer = record { act = act.Nothing; table = s.table; boxes = s.boxes; command = None; answer = answer }

abbrev pub nothing : Sessions → Effect
nothing s = only_answer s None

-- an entry of a session that has ended is told so; one of an unknown session is not answered
abbrev pub told_end : Sessions → ℕ → SessionState → Effect
told_end s session (state.Ended p h) = only_answer s (Some (payload.Ended session p h))
told_end s session _ = nothing s

-- a session ends at this place
abbrev pub ending : Sessions → ℕ → ℕ → How → Act → Option Payload → Effect
ending s place session h a answer = record { act = a; table = table.finished s.table session place h; boxes = outboxes.without_outbox s.boxes session; command = None; answer = answer }

abbrev pub registering : Sessions → ℕ → ℕ → ℕ → ℕ → Effect
registering s place time client opening = record {
  act = act.Open client opening;
  table = table.registered s.table place client opening time;
  boxes = s.boxes ++ outboxes.new_outbox place ∷ [];
  command = None;
  answer = Some (payload.Opened opening place);
}

abbrev pub keeping : Sessions → ℕ → ℕ → ℕ → ℕ → SessionState → Effect
keeping s time session answered heard state.Live = record {
  act = act.Keep session;
  table = table.signed s.table session time;
  boxes = outboxes.change_outbox (outboxes.trimmed answered heard) session s.boxes;
  command = None;
  answer = None;
}
keeping s time session answered heard other = told_end s session other

-- the cached reply of a command that came again, unless it was trimmed
abbrev pub reply_payload : ℕ → KeptReply → Payload
reply_payload session k = payload.Reply session k.seq k.place k.events k.reply

abbrev pub again_from : Sessions → ℕ → Option KeptReply → Effect
again_from s session None = nothing s
again_from s session (Some k) = only_answer s (Some (reply_payload session k))

-- a command: the next one is carried out, an earlier one gets its reply again, a later one shows a gap
abbrev pub commanding_live : Sessions → ℕ → ℕ → List ℕ → Op → ℕ → Effect
commanding_live s session seq name o last =
    if nat_eq seq (suc last) then record (nothing s) { act = act.Do session name o; command = Some (session, seq) }
    else if nat_le seq last then again_from s session (outboxes.kept_reply s.boxes session seq)
    else only_answer s (Some (payload.Gap session last))

abbrev pub commanding : Sessions → ℕ → ℕ → List ℕ → Op → SessionState → Effect
commanding s session seq name o state.Live = commanding_live s session seq name o (outboxes.last_seq s.boxes session)
commanding s session seq name o other = told_end s session other

abbrev pub closing : Sessions → ℕ → ℕ → SessionState → Effect
closing s place session state.Live = ending s place session how.Closed (act.Close session) (Some (payload.Ended session place how.Closed))
closing s place session other = told_end s session other

abbrev pub expiring : Sessions → ℕ → ℕ → ℕ → Effect
expiring s place time session = if table.may_expire s.table session time then ending s place session how.Expired (act.Expire session) None else nothing s

-- the effect of an entry's body at a place and log time
abbrev pub effect : Sessions → ℕ → ℕ → Body → Effect
effect s place time body.Blank = nothing s
effect s place time (body.Register client opening) = registering s place time client opening
effect s place time (body.Keep client session answered heard) = keeping s time session answered heard (session_state s session)
effect s place time (body.Command client session seq name o) = commanding s session seq name o (session_state s session)
effect s place time (body.Close client session) = closing s place session (session_state s session)
effect s place time (body.Expire session) = expiring s place time session

-- the client that an entry's body names
abbrev pub body_client : Body → Option ℕ
body_client body.Blank = None
body_client (body.Register client opening) = Some client
body_client (body.Keep client session answered heard) = Some client
body_client (body.Command client session seq name o) = Some client
body_client (body.Close client session) = Some client
body_client (body.Expire session) = None

-- the reply of a command that was carried out, as it is cached: it names the session's last batch after this place
abbrev pub cached_reply : ℕ → List outboxes.Outbox → (ℕ × ℕ) → Reply → KeptReply
cached_reply place boxes c reply = record { seq = c.1; place = place; events = outboxes.last_batch boxes c.0; reply = reply }

abbrev pub boxes_with : List outboxes.Outbox → ℕ → Option (ℕ × ℕ) → Reply → List outboxes.Outbox
boxes_with boxes place None reply = boxes
boxes_with boxes place (Some c) reply = outboxes.change_outbox (outboxes.with_reply (cached_reply place boxes c reply)) c.0 boxes

abbrev pub given_reply : Option (ℕ × ℕ) → Reply → Option Reply
given_reply None reply = None
given_reply (Some c) reply = Some reply

abbrev pub command_answer : List outboxes.Outbox → ℕ → Option (ℕ × ℕ) → Reply → Option Payload → Option Payload
command_answer boxes place None reply other = other
command_answer boxes place (Some c) reply other = Some (reply_payload c.0 (cached_reply place boxes c reply))

-- an answer goes to the client that the body names
abbrev pub answer_to : Option ℕ → Option Payload → Option (ℕ × Payload)
answer_to (Some client) (Some p) = Some (client, p)
answer_to _ _ = None

-- the state after an entry, and what it gave: the act is given to the book, and each live session gets its batch
abbrev pub after_effect : Sessions → ℕ → Effect → book_resources.Acted books.Book → Sessions
after_effect s place e a = record {
  applied = place;
  book = a.state;
  table = e.table;
  boxes = boxes_with (outboxes.all_told place a.turn.told e.boxes) place e.command a.turn.reply;
}

abbrev pub applied_as : Effect → ℕ → Body → book_resources.Acted books.Book → Applied
applied_as e place b a = record {
  act = e.act;
  reply = given_reply e.command a.turn.reply;
  answer = answer_to (body_client b) (command_answer (outboxes.all_told place a.turn.told e.boxes) place e.command a.turn.reply e.answer);
  batches = outboxes.batches_due place a.turn.told e.boxes;
}

abbrev pub applying : Sessions → ℕ → Entry → Sessions
applying s place e = let f = effect s place e.time e.body in after_effect s place f (books.acted s.book place e.time f.act)

abbrev pub applied_of : Sessions → ℕ → Entry → Applied
applied_of s place e = let f = effect s place e.time e.body in applied_as f place e.body (books.acted s.book place e.time f.act)
