-- How the lines of a report are read, from their words: items, the entries of a history, calls that wait, and the end.
use Rattle.std.specs.Prelude.{ℕ, ◌+◌, ◌-◌, ◌^◌, ◌==◌, nat_eq, Bool, false, List, [], ◌∷◌, take, drop, Option, Some, None, option_map, option_and_then, if◌then◌else◌, codes, bytes_eq}
use Rattle.std.specs.List.{position}
use Rattle.ax_types.specs.declared.ops.Level.{Level}
use Rattle.ax_types.specs.declared.ops.Level.TheVariants.{Seq, Lin}
use Rattle.ax_types.specs.declared.ops.WindowCall.{WindowCall}
use Rattle.ax_types.specs.declared.ops.WindowCall.TheVariants as call
use Rattle.ax_types.specs.declared.ids.End.{End}
use Rattle.ax_types.specs.declared.steps.WatchKind.{WatchKind}
use Rattle.ax_types.specs.declared.replies.Reply.{Reply}
use Rattle.ax_types.specs.declared.replies.Event.{Event}
use Rattle.ax_types.specs.declared.replies.How.{How}
use Rattle.ax_types.specs.declared.replies.How.TheVariants.{Closed, Expired}
use Rattle.ax_types.specs.declared.packets.PayloadKind.{PayloadKind}
use Rattle.ax_types.specs.declared.packets.PayloadKind.TheVariants as kind
use Rattle.ax_types.specs.declared.items.SkipReason.{SkipReason}
use Rattle.ax_types.specs.declared.items.SkipReason.TheVariants as skip
use Rattle.ax_types.specs.declared.items.Item.{Item}
use Rattle.ax_types.specs.declared.items.Item.TheVariants as item
use Rattle.ax_types.specs.declared.entries.Act.{Act}
use Rattle.ax_types.specs.declared.entries.Act.TheVariants as act
use Rattle.ax_types.specs.declared.scripts.RunEnd.{RunEnd}
use Rattle.ax_types.specs.declared.scripts.RunEnd.TheVariants as run_end
use Rattle.spec_text.specs.Words as text_words
use Rattle.spec_text.specs.OperationWords as operation_words
use Rattle.spec_script.specs.StepLines as step_lines
use Rattle.spec_report_read.specs.ReplyWords as reply_words

-- ---- words

abbrev pub three_numbers64 : text_words.Word → text_words.Word → text_words.Word → Option (ℕ × ℕ × ℕ)
three_numbers64 a b c = text_words.both (λ p z. (p.0, p.1, z)) (reply_words.pair_of_numbers a b) (reply_words.number64_from c)

-- the numbers before and behind the dot at this place
abbrev pub dotted_at : text_words.Word → Option ℕ → Option (ℕ × ℕ)
dotted_at w None = None
dotted_at w (Some k) = reply_words.pair_of_numbers (take k w) (drop (k + 1) w)

-- `TERM.A`
abbrev pub arrival_from : text_words.Word → Option (ℕ × ℕ)
arrival_from w = dotted_at w (position (λ b. b == 46) w)

-- `TERM.A` of a linearizable read, `-` of a sequential one
abbrev pub reach_from : Level → text_words.Word → Option (Option (ℕ × ℕ))
reach_from Seq w = if bytes_eq w (codes "-") then Some None else None
reach_from Lin w = option_map (λ reach. Some reach) (arrival_from w)

abbrev pub level_and_reach : text_words.Word → text_words.Word → Option (Level × Option (ℕ × ℕ))
level_and_reach l w = option_and_then (λ level. option_map (λ reach. (level, reach)) (reach_from level w)) (operation_words.level_of l)

abbrev pub how_from : text_words.Word → Option How
how_from w =
    if bytes_eq w (codes "closed") then Some Closed
    else if bytes_eq w (codes "expired") then Some Expired
    else None

-- what nodes send one another
abbrev pub node_kind_from : text_words.Word → Option PayloadKind
node_kind_from w =
    if bytes_eq w (codes "Vote") then Some kind.Vote
    else if bytes_eq w (codes "VoteReply") then Some kind.VoteReply
    else if bytes_eq w (codes "Append") then Some kind.Append
    else if bytes_eq w (codes "AppendReply") then Some kind.AppendReply
    else None

-- what a client sends
abbrev pub request_kind_from : text_words.Word → Option PayloadKind
request_kind_from w =
    if bytes_eq w (codes "Register") then Some kind.Register
    else if bytes_eq w (codes "Keep") then Some kind.Keep
    else if bytes_eq w (codes "Command") then Some kind.Command
    else if bytes_eq w (codes "Close") then Some kind.Close
    else if bytes_eq w (codes "Query") then Some kind.Query
    else if bytes_eq w (codes "Connect") then Some kind.Connect
    else if bytes_eq w (codes "Reset") then Some kind.Reset
    else node_kind_from w

abbrev pub payload_kind_from : text_words.Word → Option PayloadKind
payload_kind_from w =
    if bytes_eq w (codes "Opened") then Some kind.Opened
    else if bytes_eq w (codes "Reply") then Some kind.Reply
    else if bytes_eq w (codes "Gap") then Some kind.Gap
    else if bytes_eq w (codes "Answer") then Some kind.Answer
    else if bytes_eq w (codes "Batch") then Some kind.Batch
    else if bytes_eq w (codes "Ended") then Some kind.Ended
    else request_kind_from w

-- a reason that is one word
abbrev pub plain_reason_from : text_words.Word → Option SkipReason
plain_reason_from w =
    if bytes_eq w (codes "node-down") then Some skip.NodeDown
    else if bytes_eq w (codes "is-leader") then Some skip.IsLeader
    else if bytes_eq w (codes "not-leader") then Some skip.NotLeader
    else if bytes_eq w (codes "node-up") then Some skip.NodeUp
    else if bytes_eq w (codes "never-sent") then Some skip.NeverSent
    else if bytes_eq w (codes "gone") then Some skip.Gone
    else if bytes_eq w (codes "cut") then Some skip.Cut
    else if bytes_eq w (codes "session-open") then Some skip.SessionOpen
    else if bytes_eq w (codes "no-session") then Some skip.NoSession
    else if bytes_eq w (codes "window-full") then Some skip.WindowFull
    else if bytes_eq w (codes "watched") then Some skip.Watched
    else None

-- `busy N`
abbrev pub busy_from : text_words.Word → text_words.Word → Option SkipReason
busy_from w n = if bytes_eq w (codes "busy") then option_map skip.Busy (reply_words.number64_from n) else None

abbrev pub skip_reason_from : List text_words.Word → Option SkipReason
skip_reason_from (w ∷ []) = plain_reason_from w
skip_reason_from (w ∷ n ∷ []) = busy_from w n
skip_reason_from _ = None

-- ---- items, by the words behind their first

abbrev pub called_item_from : List text_words.Word → Option Item
called_item_from (s ∷ n ∷ ws) = text_words.both (λ p c. item.Called p.0 p.1 c) (reply_words.pair_of_numbers s n) (operation_words.call_of ws)
called_item_from _ = None

abbrev pub reply_item_from : List text_words.Word → Option Item
reply_item_from (s ∷ n ∷ p ∷ ws) = text_words.both (λ q r. item.Reply q.0 q.1 q.2 r) (three_numbers64 s n p) (reply_words.reply_from ws)
reply_item_from _ = None

-- what a read answers: its level, its arrival, and the reply
abbrev pub answer_from : text_words.Word → text_words.Word → List text_words.Word → Option (Level × Option (ℕ × ℕ) × Reply)
answer_from l w ws = text_words.both (λ t r. (t.0, t.1, r)) (level_and_reach l w) (reply_words.reply_from ws)

abbrev pub read_item_from : List text_words.Word → Option Item
read_item_from (s ∷ n ∷ l ∷ p ∷ w ∷ ws) = text_words.both (λ q a. item.Read q.0 q.1 a.0 q.2 a.1 a.2) (three_numbers64 s n p) (answer_from l w ws)
read_item_from _ = None

abbrev pub event_item_from : List text_words.Word → Option Item
event_item_from (s ∷ p ∷ prev ∷ n ∷ ws) = text_words.both (λ q es. item.Event q.0 q.1 q.2 es) (three_numbers64 s p prev) (reply_words.counted_events_from n ws)
event_item_from _ = None

-- a watch's client and kind
abbrev pub watch_from : text_words.Word → text_words.Word → Option (ℕ × WatchKind)
watch_from c k = text_words.both (λ client kind. (client, kind)) (text_words.client_of 16 c) (step_lines.watch_kind_of k)

-- an event that a session heard at a place
abbrev pub heard_event_from : text_words.Word → text_words.Word → List text_words.Word → Option (ℕ × ℕ × Event)
heard_event_from s p ws = text_words.both (λ q e. (q.0, q.1, e)) (reply_words.pair_of_numbers s p) (reply_words.event_from ws)

abbrev pub watched_from : List text_words.Word → Option Item
watched_from (c ∷ k ∷ s ∷ p ∷ ws) = text_words.both (λ w h. item.Watched w.0 w.1 h.0 h.1 h.2) (watch_from c k) (heard_event_from s p ws)
watched_from _ = None

abbrev pub opened_from : List text_words.Word → Option Item
opened_from (s ∷ c ∷ []) = text_words.both item.Opened (reply_words.number64_from s) (text_words.client_of 16 c)
opened_from _ = None

abbrev pub ended_from : List text_words.Word → Option Item
ended_from (s ∷ p ∷ h ∷ []) = text_words.both (λ q how. item.Ended q.0 q.1 how) (reply_words.pair_of_numbers s p) (how_from h)
ended_from _ = None

abbrev pub leader_from : List text_words.Word → Option Item
leader_from (k ∷ t ∷ []) = text_words.both item.Leader (text_words.node_of 9 k) (reply_words.number64_from t)
leader_from _ = None

-- a node, and the term and number of an arrival at it
abbrev pub node_and_arrival : text_words.Word → text_words.Word → Option (ℕ × ℕ × ℕ)
node_and_arrival k a = text_words.both (λ node reach. (node, reach.0, reach.1)) (text_words.node_of 9 k) (arrival_from a)

abbrev pub reach_item_from : List text_words.Word → Option Item
reach_item_from (k ∷ a ∷ s ∷ n ∷ []) = text_words.both (λ r p. item.Reach r.0 r.1 r.2 p.0 p.1) (node_and_arrival k a) (reply_words.pair_of_numbers s n)
reach_item_from _ = None

abbrev pub halted_from : List text_words.Word → Option Item
halted_from (k ∷ []) = option_map item.Halted (text_words.node_of 9 k)
halted_from _ = None

-- the ends of a packet's way
abbrev pub way_from : text_words.Word → text_words.Word → Option (End × End)
way_from f t = text_words.both (λ from to. (from, to)) (step_lines.end_of 9 16 f) (step_lines.end_of 9 16 t)

-- the ends of a packet's way, and its kind
abbrev pub sent_packet_from : text_words.Word → text_words.Word → text_words.Word → Option (End × End × PayloadKind)
sent_packet_from f t k = text_words.both (λ way kind. (way.0, way.1, kind)) (way_from f t) (payload_kind_from k)

abbrev pub pending_from : List text_words.Word → Option Item
pending_from (n ∷ f ∷ t ∷ k ∷ []) = text_words.both (λ number s. item.Pending number s.0 s.1 s.2) (reply_words.number64_from n) (sent_packet_from f t k)
pending_from _ = None

-- ---- items

-- what a step of the run shows besides its calls
abbrev pub step_item_from : text_words.Word → List text_words.Word → Option Item
step_item_from w ws =
    if bytes_eq w (codes "leader") then leader_from ws
    else if bytes_eq w (codes "reach") then reach_item_from ws
    else if bytes_eq w (codes "halted") then halted_from ws
    else if bytes_eq w (codes "listed") then option_map item.Listed (reply_words.only_number64 ws)
    else if bytes_eq w (codes "pending") then pending_from ws
    else if bytes_eq w (codes "skip") then option_map item.Skip (skip_reason_from ws)
    else None

-- what becomes of a session and of its calls without an answer
abbrev pub session_item_from : text_words.Word → List text_words.Word → Option Item
session_item_from w ws =
    if bytes_eq w (codes "opened") then opened_from ws
    else if bytes_eq w (codes "ended") then ended_from ws
    else if bytes_eq w (codes "doubt") then option_map (λ p. item.Doubt p.0 p.1) (reply_words.two_numbers64 ws)
    else if bytes_eq w (codes "lost") then option_map (λ p. item.Lost p.0 p.1) (reply_words.two_numbers64 ws)
    else if bytes_eq w (codes "unsent") then option_map (λ p. item.Unsent p.0 p.1) (reply_words.two_numbers64 ws)
    else if bytes_eq w (codes "unanswered") then option_map (λ p. item.Unanswered p.0 p.1) (reply_words.two_numbers64 ws)
    else step_item_from w ws

-- by its word and the words behind it
abbrev pub worded_item_from : text_words.Word → List text_words.Word → Option Item
worded_item_from w ws =
    if bytes_eq w (codes "called") then called_item_from ws
    else if bytes_eq w (codes "commit") then option_map item.Commit (reply_words.only_number64 ws)
    else if bytes_eq w (codes "reply") then reply_item_from ws
    else if bytes_eq w (codes "event") then event_item_from ws
    else if bytes_eq w (codes "watch") then watched_from ws
    else if bytes_eq w (codes "read") then read_item_from ws
    else session_item_from w ws

abbrev pub item_from : List text_words.Word → Option Item
item_from [] = None
item_from (w ∷ ws) = worded_item_from w ws

-- ---- entries of a history

-- the command of a session
abbrev pub done_by : ℕ → WindowCall → Option Act
done_by session (call.Command name o) = Some (act.Do session name o)
done_by session (call.Query level name q) = None

abbrev pub do_from : List text_words.Word → Option Act
do_from [] = None
do_from (s ∷ ws) = option_and_then (λ session. option_and_then (done_by session) (operation_words.command_call_of ws)) (reply_words.number64_from s)

abbrev pub open_from : List text_words.Word → Option Act
open_from (c ∷ o ∷ []) = text_words.both act.Open (text_words.client_of 16 c) (reply_words.number64_from o)
open_from _ = None

abbrev pub worded_act_from : text_words.Word → List text_words.Word → Option Act
worded_act_from w ws =
    if bytes_eq w (codes "do") then do_from ws
    else if bytes_eq w (codes "nothing") then operation_words.without_operands act.Nothing ws
    else if bytes_eq w (codes "open") then open_from ws
    else if bytes_eq w (codes "keep") then option_map act.Keep (reply_words.only_number64 ws)
    else if bytes_eq w (codes "close") then option_map act.Close (reply_words.only_number64 ws)
    else if bytes_eq w (codes "expire") then option_map act.Expire (reply_words.only_number64 ws)
    else None

abbrev pub act_from : List text_words.Word → Option Act
act_from [] = None
act_from (w ∷ ws) = worded_act_from w ws

abbrev pub is_that_number : ℕ → Option ℕ → Bool
is_that_number place None = false
is_that_number place (Some n) = nat_eq n place

-- `P TIME ACT`, with this place
abbrev pub entry_from : ℕ → List text_words.Word → Option (ℕ × Act)
entry_from place (p ∷ t ∷ ws) =
    if is_that_number place (reply_words.number64_from p) then text_words.both (λ time act. (time, act)) (reply_words.number64_from t) (act_from ws) else None
entry_from place _ = None

-- ---- calls that wait, and the end

-- `waiting S N`
abbrev pub waiting_call_from : List text_words.Word → Option (ℕ × ℕ)
waiting_call_from [] = None
waiting_call_from (w ∷ ws) = if bytes_eq w (codes "waiting") then reply_words.two_numbers64 ws else None

-- `step-limit LINE`
abbrev pub step_limit_from : text_words.Word → text_words.Word → Option RunEnd
step_limit_from w n = if bytes_eq w (codes "step-limit") then option_map run_end.StepLimit (reply_words.number64_from n) else None

abbrev pub run_end_from : List text_words.Word → Option RunEnd
run_end_from (w ∷ []) = if bytes_eq w (codes "done") then Some run_end.Done else None
run_end_from (w ∷ n ∷ []) = step_limit_from w n
run_end_from _ = None
