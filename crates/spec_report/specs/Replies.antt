-- How replies, events and the ends of sessions are written.
use Rattle.std.specs.Prelude.{ℕ, List, [], ◌∷◌, ◌++◌, length, codes}
use Rattle.std.specs.Fmt.{decimal, signed_decimal}
use Rattle.ax_types.specs.declared.replies.Reply.{Reply}
use Rattle.ax_types.specs.declared.replies.Reply.TheVariants as reply
use Rattle.ax_types.specs.declared.replies.Event.{Event}
use Rattle.ax_types.specs.declared.replies.Event.TheVariants as event
use Rattle.ax_types.specs.declared.replies.How.{How}
use Rattle.ax_types.specs.declared.replies.How.TheVariants as how
use Rattle.spec_report.specs.CallLines as call_lines

-- each number behind a blank
abbrev pub numbers_text : List ℕ → List ℕ
numbers_text [] = []
numbers_text (n ∷ ns) = 32 ∷ (decimal n ++ numbers_text ns)

abbrev pub reply_text : Reply → List ℕ
reply_text reply.Done = codes "done"
reply_text reply.Nothing = codes "none"
reply_text (reply.Found text) = call_lines.one_operand (codes "some") text
reply_text reply.Yes = codes "true"
reply_text reply.No = codes "false"
reply_text (reply.Number number) = call_lines.one_operand (codes "number") (signed_decimal number)
reply_text (reply.Fence place) = call_lines.one_operand (codes "fence") (decimal place)
reply_text (reply.Holder session fence) = call_lines.two_operands (codes "holder") (decimal session) (decimal fence)
reply_text (reply.Leader session term) = call_lines.two_operands (codes "leader") (decimal session) (decimal term)
reply_text (reply.Members sessions) = codes "members" ++ numbers_text sessions
reply_text reply.Busy = codes "busy"
reply_text reply.Already = codes "already"
reply_text reply.NotHolder = codes "not-holder"
reply_text reply.NotMember = codes "not-member"
reply_text reply.Overflow = codes "overflow"
reply_text reply.Full = codes "full"
reply_text reply.WrongKind = codes "wrong-kind"

abbrev pub event_text : Event → List ℕ
event_text (event.Changed name key text) = call_lines.three_operands (codes "changed") name key text
event_text (event.Removed name key) = call_lines.two_operands (codes "removed") name key
event_text (event.Set name text) = call_lines.two_operands (codes "set") name text
event_text (event.Cleared name) = call_lines.one_operand (codes "cleared") name
event_text (event.Granted name fence) = call_lines.two_operands (codes "granted") name (decimal fence)
event_text (event.Joined name session) = call_lines.two_operands (codes "joined") name (decimal session)
event_text (event.Left name session) = call_lines.two_operands (codes "left") name (decimal session)
event_text (event.Elected name session term) = call_lines.three_operands (codes "elected") name (decimal session) (decimal term)
event_text (event.Message name text) = call_lines.two_operands (codes "message") name text

-- each event behind a blank
abbrev pub events_text : List Event → List ℕ
events_text [] = []
events_text (e ∷ es) = 32 ∷ (event_text e ++ events_text es)

-- how many events there are, and each behind a blank
abbrev pub counted_events_text : List Event → List ℕ
counted_events_text events = decimal (length events) ++ events_text events

abbrev pub how_text : How → List ℕ
how_text how.Closed = codes "closed"
how_text how.Expired = codes "expired"
