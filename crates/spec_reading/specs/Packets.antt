-- Reading an entry and a payload.
use Rattle.std.specs.Prelude.{ℕ, List, Ok, Err, Option, nat_eq, if◌then◌else◌}
use Rattle.ax_types.specs.declared.entries.Body.{Body}
use Rattle.ax_types.specs.declared.entries.Body.TheVariants as body
use Rattle.ax_types.specs.declared.entries.Entry.{Entry}
use Rattle.ax_types.specs.declared.ops.Op.{Op}
use Rattle.ax_types.specs.declared.ops.Level.{Level}
use Rattle.ax_types.specs.declared.ops.Level.TheVariants.{Seq, Lin}
use Rattle.ax_types.specs.declared.replies.How.{How}
use Rattle.ax_types.specs.declared.replies.How.TheVariants.{Closed, Expired}
use Rattle.ax_types.specs.declared.replies.Event.{Event}
use Rattle.ax_types.specs.declared.packets.Payload.{Payload}
use Rattle.ax_types.specs.declared.packets.Payload.TheVariants as payload
use Rattle.ax_types.specs.declared.limits.TheConstants.{MAX_APPEND}
use Rattle.spec_reading.specs.Reading.{◌>>=◌}
use Rattle.spec_reading.specs.Reading as reading
use Rattle.spec_reading.specs.ReadOperations as read_operations
use Rattle.spec_reading.specs.ReadQueries as read_queries
use Rattle.spec_reading.specs.ReadReplies as read_replies

-- the three fields that a command has before its operation, and what is asked
abbrev pub command_fields : {V : Type 0} → (ℕ → ℕ → ℕ → List ℕ → Op → V) → List ℕ → reading.Reading V
command_fields make bytes = do
  client ← reading.client_at bytes
  session ← reading.u64_at client.1
  seq ← reading.u64_at session.1
  name ← reading.name_at seq.1
  op ← read_operations.op_at name.1
  Ok (make client.0 session.0 seq.0 name.0 op.0, op.1)

abbrev pub keep_fields : {V : Type 0} → (ℕ → ℕ → ℕ → ℕ → V) → List ℕ → reading.Reading V
keep_fields make bytes = do
  client ← reading.client_at bytes
  session ← reading.u64_at client.1
  answered ← reading.u64_at session.1
  heard ← reading.u64_at answered.1
  Ok (make client.0 session.0 answered.0 heard.0, heard.1)

unfoldable pub body_at : List ℕ → reading.Reading Body
body_at bytes = do
  number ← reading.byte_at bytes
  if nat_eq number.0 0 then Ok (body.Blank, number.1) else
      if nat_eq number.0 1 then reading.two_fields reading.client_at reading.u64_at body.Register number.1 else
      if nat_eq number.0 2 then keep_fields body.Keep number.1 else
      if nat_eq number.0 3 then command_fields body.Command number.1 else
      if nat_eq number.0 4 then reading.two_fields reading.client_at reading.u64_at body.Close number.1 else
      if nat_eq number.0 5 then reading.one_field reading.u64_at body.Expire number.1 else
      Err reading.Wrong

unfoldable pub entry_at : List ℕ → reading.Reading Entry
entry_at bytes = do
  term ← reading.u64_at bytes
  time ← reading.u64_at term.1
  body ← body_at time.1
  Ok (record { term = term.0; time = time.0; body = body.0 }, body.1)

abbrev pub level_at : List ℕ → reading.Reading Level
level_at bytes = do
  b ← reading.byte_at bytes
  if nat_eq b.0 0 then Ok (Seq, b.1) else if nat_eq b.0 1 then Ok (Lin, b.1) else Err reading.Wrong

abbrev pub how_at : List ℕ → reading.Reading How
how_at bytes = do
  b ← reading.byte_at bytes
  if nat_eq b.0 0 then Ok (Closed, b.1) else if nat_eq b.0 1 then Ok (Expired, b.1) else Err reading.Wrong

-- a term or an arrival: 0 at level seq
abbrev pub reach_at : Level → List ℕ → reading.Reading ℕ
reach_at Seq bytes = reading.within_at 0 0 bytes
reach_at Lin bytes = reading.u64_at bytes

unfoldable pub append_at : List ℕ → reading.Reading Payload
append_at bytes = do
  term ← reading.u64_at bytes
  prev ← reading.u64_at term.1
  prev_term ← reading.u64_at prev.1
  commit ← reading.u64_at prev_term.1
  round ← reading.u64_at commit.1
  count ← reading.small_at 0 MAX_APPEND round.1
  entries ← reading.many_at entry_at count.0 count.1
  Ok (payload.Append term.0 prev.0 prev_term.0 commit.0 round.0 entries.0, entries.1)

unfoldable pub append_reply_at : List ℕ → reading.Reading Payload
append_reply_at bytes = do
  term ← reading.u64_at bytes
  ok ← reading.truth_at term.1
  place ← reading.u64_at ok.1
  round ← reading.u64_at place.1
  Ok (payload.AppendReply term.0 ok.0 place.0 round.0, round.1)

unfoldable pub query_payload_at : List ℕ → reading.Reading Payload
query_payload_at bytes = do
  client ← reading.client_at bytes
  session ← reading.u64_at client.1
  call ← reading.u64_at session.1
  level ← level_at call.1
  seen ← reading.u64_at level.1
  seq ← reading.u64_at seen.1
  name ← reading.name_at seq.1
  query ← read_queries.query_at name.1
  Ok (payload.Query client.0 session.0 call.0 level.0 seen.0 seq.0 name.0 query.0, query.1)

unfoldable pub reply_payload_at : List ℕ → reading.Reading Payload
reply_payload_at bytes = do
  session ← reading.u64_at bytes
  seq ← reading.u64_at session.1
  place ← reading.u64_at seq.1
  events ← reading.u64_at place.1
  reply ← read_replies.reply_at events.1
  Ok (payload.Reply session.0 seq.0 place.0 events.0 reply.0, reply.1)

unfoldable pub answer_at : List ℕ → reading.Reading Payload
answer_at bytes = do
  session ← reading.u64_at bytes
  call ← reading.u64_at session.1
  level ← level_at call.1
  place ← reading.u64_at level.1
  events ← reading.u64_at place.1
  term ← reach_at level.0 events.1
  arrival ← reach_at level.0 term.1
  reply ← read_replies.reply_at arrival.1
  Ok (payload.Answer session.0 call.0 level.0 place.0 events.0 term.0 arrival.0 reply.0, reply.1)

-- events: their count, at least 1, and each
unfoldable pub events_at : List ℕ → reading.Reading (List Event)
events_at bytes = do
  count ← reading.u32_at bytes
  if nat_eq count.0 0 then Err reading.Wrong else reading.many_at read_replies.event_at count.0 count.1

unfoldable pub batch_at : List ℕ → reading.Reading Payload
batch_at bytes = do
  session ← reading.u64_at bytes
  place ← reading.u64_at session.1
  prev ← reading.u64_at place.1
  events ← events_at prev.1
  Ok (payload.Batch session.0 place.0 prev.0 events.0, events.1)

-- a payload: its number and its fields
unfoldable pub payload_at : List ℕ → reading.Reading Payload
payload_at bytes = do
  number ← reading.byte_at bytes
  if nat_eq number.0 1 then reading.three_fields reading.u64_at reading.u64_at reading.u64_at payload.Vote number.1 else
      if nat_eq number.0 2 then reading.two_fields reading.u64_at reading.truth_at payload.VoteReply number.1 else
      if nat_eq number.0 3 then append_at number.1 else
      if nat_eq number.0 4 then append_reply_at number.1 else
      if nat_eq number.0 5 then reading.two_fields reading.client_at reading.u64_at payload.Register number.1 else
      if nat_eq number.0 6 then keep_fields payload.Keep number.1 else
      if nat_eq number.0 7 then command_fields payload.Command number.1 else
      if nat_eq number.0 8 then reading.two_fields reading.client_at reading.u64_at payload.Close number.1 else
      if nat_eq number.0 9 then query_payload_at number.1 else
      if nat_eq number.0 10 then reading.three_fields reading.client_at reading.u64_at reading.u64_at payload.Connect number.1 else
      if nat_eq number.0 11 then reading.three_fields reading.client_at reading.u64_at reading.u64_at payload.Reset number.1 else
      if nat_eq number.0 12 then reading.two_fields reading.u64_at reading.u64_at payload.Opened number.1 else
      if nat_eq number.0 13 then reply_payload_at number.1 else
      if nat_eq number.0 14 then reading.two_fields reading.u64_at reading.u64_at payload.Gap number.1 else
      if nat_eq number.0 15 then answer_at number.1 else
      if nat_eq number.0 16 then batch_at number.1 else
      if nat_eq number.0 17 then reading.three_fields reading.u64_at reading.u64_at how_at payload.Ended number.1 else
      Err reading.Wrong

-- the payload with which the bytes begin, and the length of its spelling
abbrev pub payload_read : List ℕ → Option (Payload × ℕ)
payload_read bytes = reading.value_and_length bytes (payload_at bytes)

-- the entry with which the bytes begin, and the length of its spelling
abbrev pub entry_read : List ℕ → Option (Entry × ℕ)
entry_read bytes = reading.value_and_length bytes (entry_at bytes)
