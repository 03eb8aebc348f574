-- The lines of the items of a run, and which calls of a run are without an outcome.
use Rattle.std.specs.Prelude.{ℕ, Bool, not, ◌&&◌, nat_eq, Option, Some, None, List, [], ◌∷◌, ◌++◌, map, filter, codes}
use Rattle.std.specs.List.{filter_map, list_any}
use Rattle.std.specs.Fmt.{decimal}
use Rattle.ax_types.specs.Ends as ax_types_ends
use Rattle.ax_types.specs.declared.ops.Level.{Level}
use Rattle.ax_types.specs.declared.replies.Reply.{Reply}
use Rattle.ax_types.specs.declared.replies.Event.{Event}
use Rattle.ax_types.specs.declared.packets.PayloadKind.{PayloadKind}
use Rattle.ax_types.specs.declared.packets.PayloadKind.TheVariants as kind
use Rattle.ax_types.specs.declared.steps.WatchKind.{WatchKind}
use Rattle.ax_types.specs.declared.steps.WatchKind.TheVariants as watch
use Rattle.ax_types.specs.declared.items.SkipReason.{SkipReason}
use Rattle.ax_types.specs.declared.items.SkipReason.TheVariants as skip
use Rattle.ax_types.specs.declared.items.Item.{Item}
use Rattle.ax_types.specs.declared.items.Item.TheVariants as item
use Rattle.spec_report.specs.CallLines as call_lines
use Rattle.spec_report.specs.Replies as replies

-- lines, each with the newline that ends it
abbrev pub lines_text : List (List ℕ) → List ℕ
lines_text [] = []
lines_text (l ∷ ls) = l ++ (10 ∷ lines_text ls)

abbrev pub payload_kind_text : PayloadKind → List ℕ
payload_kind_text kind.Vote = codes "Vote"
payload_kind_text kind.VoteReply = codes "VoteReply"
payload_kind_text kind.Append = codes "Append"
payload_kind_text kind.AppendReply = codes "AppendReply"
payload_kind_text kind.Register = codes "Register"
payload_kind_text kind.Keep = codes "Keep"
payload_kind_text kind.Command = codes "Command"
payload_kind_text kind.Close = codes "Close"
payload_kind_text kind.Query = codes "Query"
payload_kind_text kind.Connect = codes "Connect"
payload_kind_text kind.Reset = codes "Reset"
payload_kind_text kind.Opened = codes "Opened"
payload_kind_text kind.Reply = codes "Reply"
payload_kind_text kind.Gap = codes "Gap"
payload_kind_text kind.Answer = codes "Answer"
payload_kind_text kind.Batch = codes "Batch"
payload_kind_text kind.Ended = codes "Ended"

abbrev pub watch_text : WatchKind → List ℕ
watch_text watch.All = codes "all"
watch_text watch.Changes = codes "changes"
watch_text watch.Grants = codes "grants"

abbrev pub skip_text : SkipReason → List ℕ
skip_text skip.NodeDown = codes "node-down"
skip_text skip.IsLeader = codes "is-leader"
skip_text skip.NotLeader = codes "not-leader"
skip_text skip.NodeUp = codes "node-up"
skip_text skip.NeverSent = codes "never-sent"
skip_text skip.Gone = codes "gone"
skip_text skip.Cut = codes "cut"
skip_text skip.SessionOpen = codes "session-open"
skip_text skip.NoSession = codes "no-session"
skip_text skip.WindowFull = codes "window-full"
skip_text (skip.Busy unanswered) = call_lines.one_operand (codes "busy") (decimal unanswered)
skip_text skip.Watched = codes "watched"

-- the arrival of a linearizable query at the leader of a term: `TERM.A`
abbrev pub arrival_text : ℕ → ℕ → List ℕ
arrival_text term arrival = decimal term ++ (46 ∷ decimal arrival)

-- `TERM.A`, or `-` where there is none
abbrev pub reach_text : Option (ℕ × ℕ) → List ℕ
reach_text None = codes "-"
reach_text (Some reach) = arrival_text reach.0 reach.1

-- `WORD S N`
abbrev pub of_call : List ℕ → ℕ → ℕ → List ℕ
of_call word session number = call_lines.two_operands word (decimal session) (decimal number)

-- `WORD LEVEL P REACH REPLY`
abbrev pub read_text : List ℕ → Level → ℕ → Option (ℕ × ℕ) → Reply → List ℕ
read_text word level place reach reply =
    call_lines.two_operands (call_lines.two_operands word (call_lines.level_text level) (decimal place)) (reach_text reach) (replies.reply_text reply)

-- `WORD S P EVENT`
abbrev pub told_text : List ℕ → ℕ → ℕ → Event → List ℕ
told_text word session place event = call_lines.three_operands word (decimal session) (decimal place) (replies.event_text event)

-- the line of an item, without its newline
abbrev pub item_line : Item → List ℕ
item_line (item.Leader node term) = call_lines.two_operands (codes "leader") (decimal node) (decimal term)
item_line (item.Commit place) = call_lines.one_operand (codes "commit") (decimal place)
item_line (item.Reach node term arrival session number) =
    of_call (call_lines.two_operands (codes "reach") (decimal node) (arrival_text term arrival)) session number
item_line (item.Halted node) = call_lines.one_operand (codes "halted") (decimal node)
item_line (item.Opened session client) = call_lines.two_operands (codes "opened") (decimal session) (decimal client)
item_line (item.Called session number call) = call_lines.one_operand (of_call (codes "called") session number) (call_lines.call_text call)
item_line (item.Event session place prev events) =
    call_lines.two_operands (of_call (codes "event") session place) (decimal prev) (replies.counted_events_text events)
item_line (item.Watched client kind session place event) =
    told_text (call_lines.two_operands (codes "watch") (decimal client) (watch_text kind)) session place event
item_line (item.Reply session number place reply) =
    call_lines.two_operands (of_call (codes "reply") session number) (decimal place) (replies.reply_text reply)
item_line (item.Read session number level place reach reply) =
    read_text (of_call (codes "read") session number) level place reach reply
item_line (item.Ended session place how) = call_lines.one_operand (of_call (codes "ended") session place) (replies.how_text how)
item_line (item.Doubt session number) = of_call (codes "doubt") session number
item_line (item.Lost session number) = of_call (codes "lost") session number
item_line (item.Unsent session number) = of_call (codes "unsent") session number
item_line (item.Unanswered session number) = of_call (codes "unanswered") session number
item_line (item.Listed count) = call_lines.one_operand (codes "listed") (decimal count)
item_line (item.Pending number from to kind) =
    call_lines.two_operands (call_lines.two_operands (codes "pending") (decimal number) (ax_types_ends.link_end_text from)) (ax_types_ends.link_end_text to) (payload_kind_text kind)
item_line (item.Skip reason) = call_lines.one_operand (codes "skip") (skip_text reason)

-- the line of an item, with its newline
abbrev pub item_text : Item → List ℕ
item_text i = item_line i ++ (10 ∷ [])

-- the lines of items
abbrev pub items_text : List Item → List ℕ
items_text items = lines_text (map item_line items)

-- the session and number of a called line
abbrev pub called_of : Item → Option (ℕ × ℕ)
called_of (item.Called session number call) = Some (session, number)
called_of _ = None

-- the session and number of an outcome
abbrev pub outcome_key : Item → Option (ℕ × ℕ)
outcome_key (item.Reply session number place reply) = Some (session, number)
outcome_key (item.Read session number level place reach reply) = Some (session, number)
outcome_key (item.Doubt session number) = Some (session, number)
outcome_key (item.Lost session number) = Some (session, number)
outcome_key (item.Unsent session number) = Some (session, number)
outcome_key (item.Unanswered session number) = Some (session, number)
outcome_key _ = None

-- whether both are the same call
abbrev pub is_call : ℕ × ℕ → ℕ × ℕ → Bool
is_call a b = nat_eq a.0 b.0 && nat_eq a.1 b.1

-- the called calls without an outcome, in the order of their called lines
abbrev pub waiting_of : List Item → List (ℕ × ℕ)
waiting_of items = filter (λ a. not (list_any (is_call a) (filter_map outcome_key items))) (filter_map called_of items)

-- `waiting S N`
abbrev pub waiting_line : ℕ × ℕ → List ℕ
waiting_line a = of_call (codes "waiting") a.0 a.1

-- the lines of the calls that wait
abbrev pub waiting_text : List (ℕ × ℕ) → List ℕ
waiting_text waiting = lines_text (map waiting_line waiting)
