-- How entries and payloads are spelled, and which payloads have a spelling.
use Rattle.std.specs.Prelude.{ℕ, Bool, true, ◌&&◌, nat_le, nat_lt, nat_eq, List, [], ◌∷◌, ◌++◌, ◌^◌, length}
use Rattle.std.specs.List.{flat_map}
use Rattle.ax_types.specs.declared.limits.TheConstants.{MAX_APPEND}
use Rattle.ax_types.specs.declared.entries.Body.{Body}
use Rattle.ax_types.specs.declared.entries.Body.TheVariants as body
use Rattle.ax_types.specs.declared.entries.Entry.{Entry}
use Rattle.ax_types.specs.declared.ops.Level.{Level}
use Rattle.ax_types.specs.declared.ops.Level.TheVariants.{Seq, Lin}
use Rattle.ax_types.specs.declared.replies.How.{How}
use Rattle.ax_types.specs.declared.replies.How.TheVariants.{Closed, Expired}
use Rattle.ax_types.specs.declared.replies.Event.{Event}
use Rattle.ax_types.specs.declared.replies.Reply.{Reply}
use Rattle.ax_types.specs.declared.replies.Reply.TheVariants as reply
use Rattle.ax_types.specs.declared.packets.Payload.{Payload}
use Rattle.ax_types.specs.declared.packets.Payload.TheVariants as payload
use Rattle.spec_wire.specs.NumberBytes as number_bytes
use Rattle.spec_wire.specs.OperationBytes as operation_bytes

-- a body: its number and its fields
abbrev pub body_bytes : Body → List ℕ
body_bytes body.Blank = 0 ∷ []
body_bytes (body.Register client opening) = 1 ∷ client ∷ number_bytes.u64_bytes opening
body_bytes (body.Keep client session answered heard) =
    2 ∷ client ∷ number_bytes.u64_bytes session ++ number_bytes.u64_bytes answered ++ number_bytes.u64_bytes heard
body_bytes (body.Command client session seq name op) =
    3 ∷ client ∷ number_bytes.u64_bytes session ++ number_bytes.u64_bytes seq ++ number_bytes.counted_bytes name ++ operation_bytes.op_bytes op
body_bytes (body.Close client session) = 4 ∷ client ∷ number_bytes.u64_bytes session
body_bytes (body.Expire session) = 5 ∷ number_bytes.u64_bytes session

-- an entry: its term, its time and its body
abbrev pub entry_bytes : Entry → List ℕ
entry_bytes e = number_bytes.u64_bytes e.term ++ number_bytes.u64_bytes e.time ++ body_bytes e.body

abbrev pub level_bytes : Level → List ℕ
level_bytes Seq = 0 ∷ []
level_bytes Lin = 1 ∷ []

abbrev pub how_bytes : How → List ℕ
how_bytes Closed = 0 ∷ []
how_bytes Expired = 1 ∷ []

-- a count of one byte, and the entries
abbrev pub entries_bytes : List Entry → List ℕ
entries_bytes entries = length entries ∷ flat_map entry_bytes entries

-- a count of four bytes, and the events
abbrev pub events_bytes : List Event → List ℕ
events_bytes events = number_bytes.u32_bytes (length events) ++ flat_map operation_bytes.event_bytes events

-- a payload: its number and its fields
abbrev pub payload_bytes : Payload → List ℕ
payload_bytes (payload.Vote term last last_term) = 1 ∷ number_bytes.u64_bytes term ++ number_bytes.u64_bytes last ++ number_bytes.u64_bytes last_term
payload_bytes (payload.VoteReply term granted) = 2 ∷ number_bytes.u64_bytes term ++ number_bytes.truth_bytes granted
payload_bytes (payload.Append term prev prev_term commit round entries) =
    3 ∷ number_bytes.u64_bytes term ++ number_bytes.u64_bytes prev ++ number_bytes.u64_bytes prev_term ++ number_bytes.u64_bytes commit ++ number_bytes.u64_bytes round
    ++ entries_bytes entries
payload_bytes (payload.AppendReply term ok place round) =
    4 ∷ number_bytes.u64_bytes term ++ number_bytes.truth_bytes ok ++ number_bytes.u64_bytes place ++ number_bytes.u64_bytes round
payload_bytes (payload.Register client opening) = 5 ∷ client ∷ number_bytes.u64_bytes opening
payload_bytes (payload.Keep client session answered heard) =
    6 ∷ client ∷ number_bytes.u64_bytes session ++ number_bytes.u64_bytes answered ++ number_bytes.u64_bytes heard
payload_bytes (payload.Command client session seq name op) =
    7 ∷ client ∷ number_bytes.u64_bytes session ++ number_bytes.u64_bytes seq ++ number_bytes.counted_bytes name ++ operation_bytes.op_bytes op
payload_bytes (payload.Close client session) = 8 ∷ client ∷ number_bytes.u64_bytes session
payload_bytes (payload.Query client session call level seen seq name query) =
    9 ∷ client ∷ number_bytes.u64_bytes session ++ number_bytes.u64_bytes call ++ level_bytes level ++ number_bytes.u64_bytes seen ++ number_bytes.u64_bytes seq
    ++ number_bytes.counted_bytes name ++ operation_bytes.query_bytes query
payload_bytes (payload.Connect client session heard) = 10 ∷ client ∷ number_bytes.u64_bytes session ++ number_bytes.u64_bytes heard
payload_bytes (payload.Reset client session heard) = 11 ∷ client ∷ number_bytes.u64_bytes session ++ number_bytes.u64_bytes heard
payload_bytes (payload.Opened opening session) = 12 ∷ number_bytes.u64_bytes opening ++ number_bytes.u64_bytes session
payload_bytes (payload.Reply session seq place events reply) =
    13 ∷ number_bytes.u64_bytes session ++ number_bytes.u64_bytes seq ++ number_bytes.u64_bytes place ++ number_bytes.u64_bytes events ++ operation_bytes.reply_bytes reply
payload_bytes (payload.Gap session last) = 14 ∷ number_bytes.u64_bytes session ++ number_bytes.u64_bytes last
payload_bytes (payload.Answer session call level place events term arrival reply) =
    15 ∷ number_bytes.u64_bytes session ++ number_bytes.u64_bytes call ++ level_bytes level ++ number_bytes.u64_bytes place ++ number_bytes.u64_bytes events
    ++ number_bytes.u64_bytes term ++ number_bytes.u64_bytes arrival ++ operation_bytes.reply_bytes reply
payload_bytes (payload.Batch session place prev events) =
    16 ∷ number_bytes.u64_bytes session ++ number_bytes.u64_bytes place ++ number_bytes.u64_bytes prev ++ events_bytes events
payload_bytes (payload.Ended session place how) = 17 ∷ number_bytes.u64_bytes session ++ number_bytes.u64_bytes place ++ how_bytes how

-- how many bytes its spelling has
abbrev pub payload_length : Payload → ℕ
payload_length p = length (payload_bytes p)

-- the count of a list of members fits its four bytes
abbrev pub reply_is_spelled : Reply → Bool
reply_is_spelled (reply.Members sessions) = nat_lt (length sessions) (2 ^ 32)
reply_is_spelled _ = true

-- an answer at level seq names no term and no arrival
abbrev pub reach_is_spelled : Level → ℕ → ℕ → Bool
reach_is_spelled Seq term arrival = nat_eq term 0 && nat_eq arrival 0
reach_is_spelled Lin term arrival = true

-- the payload has a spelling: its counts are within their limits, and an answer at level seq names no reach
abbrev pub is_spelled : Payload → Bool
is_spelled (payload.Append term prev prev_term commit round entries) = nat_le (length entries) MAX_APPEND
is_spelled (payload.Reply session seq place events reply) = reply_is_spelled reply
is_spelled (payload.Answer session call level place events term arrival reply) =
    reach_is_spelled level term arrival && reply_is_spelled reply
is_spelled (payload.Batch session place prev events) =
    nat_le 1 (length events) && nat_lt (length events) (2 ^ 32)
is_spelled _ = true
