-- The text of a report: `report 1`, the items, the history, the calls that wait, and how the run ended.
use Rattle.std.specs.Prelude.{ℕ, ◌+◌, List, [], ◌∷◌, ◌++◌, length, codes}
use Rattle.std.specs.Fmt.{decimal}
use Rattle.ax_types.specs.declared.entries.Act.{Act}
use Rattle.ax_types.specs.declared.entries.Act.TheVariants as act
use Rattle.ax_types.specs.declared.items.Item.{Item}
use Rattle.ax_types.specs.declared.steps.WatchKind.{WatchKind}
use Rattle.ax_types.specs.declared.replies.Event.{Event}
use Rattle.ax_types.specs.declared.replies.Outcome.{Outcome}
use Rattle.ax_types.specs.declared.replies.Outcome.TheVariants as outcome
use Rattle.ax_types.specs.declared.scripts.RunEnd.{RunEnd}
use Rattle.ax_types.specs.declared.scripts.RunEnd.TheVariants as run_end
use Rattle.spec_report.specs.CallLines as call_lines
use Rattle.spec_report.specs.Replies as replies
use Rattle.spec_report.specs.Items as report_items

abbrev pub act_text : Act → List ℕ
act_text act.Nothing = codes "nothing"
act_text (act.Open client opening) = call_lines.two_operands (codes "open") (decimal client) (decimal opening)
act_text (act.Keep session) = call_lines.one_operand (codes "keep") (decimal session)
act_text (act.Do session name op) = call_lines.two_operands (codes "do") (decimal session) (call_lines.op_text name op)
act_text (act.Close session) = call_lines.one_operand (codes "close") (decimal session)
act_text (act.Expire session) = call_lines.one_operand (codes "expire") (decimal session)

-- the line of the time and the act at a place: `P TIME ACT`
abbrev pub act_line : ℕ → ℕ × Act → List ℕ
act_line place entry = call_lines.two_operands (decimal place) (decimal entry.0) (act_text entry.1)

-- the lines of a history whose first entry stands at this place
abbrev pub act_lines : ℕ → List (ℕ × Act) → List (List ℕ)
act_lines place [] = []
act_lines place (entry ∷ entries) = act_line place entry ∷ act_lines (place + 1) entries

-- `history L`
abbrev pub history_line : List (ℕ × Act) → List ℕ
history_line history = call_lines.one_operand (codes "history") (decimal (length history))

-- the line `history L` and the L lines of a history
abbrev pub history_text : List (ℕ × Act) → List ℕ
history_text history = report_items.lines_text (history_line history ∷ act_lines 1 history)

-- `done` or `step-limit LINE`
abbrev pub end_word : RunEnd → List ℕ
end_word run_end.Done = codes "done"
end_word (run_end.StepLimit line) = call_lines.one_operand (codes "step-limit") (decimal line)

-- the last line, with its newline
abbrev pub end_text : RunEnd → List ℕ
end_text end = call_lines.one_operand (codes "end") (end_word end) ++ (10 ∷ [])

-- the first line, with its newline
abbrev pub head_text : List ℕ
head_text = codes "report 1\n"

-- the report of these items and this history
abbrev pub report_text : List Item → List (ℕ × Act) → RunEnd → List ℕ
report_text items history end =
    head_text ++ (report_items.items_text items ++ (history_text history ++ (report_items.waiting_text (report_items.waiting_of items) ++ end_text end)))

-- what became of a caller's call. A caller whose call was stopped writes no line of it.
abbrev pub outcome_text : Outcome → List ℕ
outcome_text (outcome.Reply place reply) = call_lines.two_operands (codes "reply") (decimal place) (replies.reply_text reply)
outcome_text (outcome.Read level place reach reply) = report_items.read_text (codes "read") level place reach reply
outcome_text outcome.Doubt = codes "doubt"
outcome_text outcome.Lost = codes "lost"
outcome_text outcome.Unsent = codes "unsent"
outcome_text outcome.Unanswered = codes "unanswered"
outcome_text outcome.Stopped = []

-- the line of a caller's call, with the number of the call in the session: `caller I N OUTCOME`
abbrev pub caller_line : ℕ → ℕ → Outcome → List ℕ
caller_line caller number outcome = call_lines.three_operands (codes "caller") (decimal caller) (decimal number) (outcome_text outcome)

-- that line with its newline
abbrev pub caller_text : ℕ → ℕ → Outcome → List ℕ
caller_text caller number outcome = caller_line caller number outcome ++ (10 ∷ [])

-- the line of an event that a feed's listener heard: `feed F C KIND S P EVENT`
abbrev pub feed_line : ℕ → ℕ → WatchKind → ℕ → ℕ → Event → List ℕ
feed_line feed client kind session place event =
    report_items.told_text (call_lines.three_operands (codes "feed") (decimal feed) (decimal client) (report_items.watch_text kind)) session place event

-- that line with its newline
abbrev pub feed_text : ℕ → ℕ → WatchKind → ℕ → ℕ → Event → List ℕ
feed_text feed client kind session place event = feed_line feed client kind session place event ++ (10 ∷ [])

-- the report of a run with callers and feeds, whose lines stand before the last one
abbrev pub race_text : List Item → List (ℕ × Act) → List (List ℕ) → RunEnd → List ℕ
race_text items history lines end =
    head_text ++ (report_items.items_text items ++ (history_text history ++ (report_items.waiting_text (report_items.waiting_of items) ++ (report_items.lines_text lines ++ end_text end))))
