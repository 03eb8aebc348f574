-- What the items, acts and reports of the program's types are like: each number is within its type, and names, keys and texts have
-- their forms.
use Rattle.std.specs.Prelude.{ℕ, List, Option, Some, None}
use Rattle.std.specs.List.{AllByRecursion}
use Rattle.spec_wire.specs.Ranges as ranges
use Rattle.ax_types.specs.declared.ops.WindowCall.{WindowCall}
use Rattle.ax_types.specs.declared.ops.WindowCall.TheVariants as call
use Rattle.ax_types.specs.declared.replies.Outcome.{Outcome}
use Rattle.ax_types.specs.declared.replies.Outcome.TheVariants as outcome
use Rattle.ax_types.specs.declared.ids.End.{End}
use Rattle.ax_types.specs.declared.ids.End.TheVariants as link_end
use Rattle.ax_types.specs.declared.items.SkipReason.{SkipReason}
use Rattle.ax_types.specs.declared.items.SkipReason.TheVariants as skip
use Rattle.ax_types.specs.declared.items.Item.{Item}
use Rattle.ax_types.specs.declared.items.Item.TheVariants as item
use Rattle.ax_types.specs.declared.entries.Act.{Act}
use Rattle.ax_types.specs.declared.entries.Act.TheVariants as act
use Rattle.ax_types.specs.declared.scripts.RunEnd.{RunEnd}
use Rattle.ax_types.specs.declared.scripts.RunEnd.TheVariants as run_end
use Rattle.ax_types.specs.declared.scripts.Report.{Report}

abbrev pub FitsCall : WindowCall → Type 0
FitsCall (call.Command name o) = ranges.IsName name × ranges.FitsOp o
FitsCall (call.Query l name q) = ranges.IsName name × ranges.FitsQuery q

abbrev pub FitsReach : Option (ℕ × ℕ) → Type 0
FitsReach None = Unit {0}
FitsReach (Some reach) = ranges.IsNumber reach.0 × ranges.IsNumber reach.1

-- what a caller's line may tell; a caller writes no line of a call that was stopped
abbrev pub FitsOutcome : Outcome → Type 0
FitsOutcome (outcome.Reply place reply) = ranges.IsNumber place × ranges.FitsReply reply
FitsOutcome (outcome.Read level place reach reply) = ranges.IsNumber place × FitsReach reach × ranges.FitsReply reply
FitsOutcome outcome.Doubt = Unit {0}
FitsOutcome outcome.Lost = Unit {0}
FitsOutcome outcome.Unsent = Unit {0}
FitsOutcome outcome.Unanswered = Unit {0}
FitsOutcome outcome.Stopped = ⊥

abbrev pub FitsEnd : End → Type 0
FitsEnd (link_end.Node k) = ranges.IsNumber k
FitsEnd (link_end.Client c) = ranges.IsNumber c

abbrev pub FitsSkip : SkipReason → Type 0
FitsSkip (skip.Busy unanswered) = ranges.IsNumber unanswered
FitsSkip _ = Unit {0}

abbrev pub FitsItem : Item → Type 0
FitsItem (item.Leader node term) = ranges.IsNumber node × ranges.IsNumber term
FitsItem (item.Commit place) = ranges.IsNumber place
FitsItem (item.Reach node term arrival session number) =
    ranges.IsNumber node × ranges.IsNumber term × ranges.IsNumber arrival × ranges.IsNumber session × ranges.IsNumber number
FitsItem (item.Halted node) = ranges.IsNumber node
FitsItem (item.Opened session client) = ranges.IsNumber session × ranges.IsNumber client
FitsItem (item.Called session number call) = ranges.IsNumber session × ranges.IsNumber number × FitsCall call
FitsItem (item.Event session place prev events) = ranges.IsNumber session × ranges.IsNumber place × ranges.IsNumber prev × AllByRecursion ranges.FitsEvent events
FitsItem (item.Watched client kind session place event) = ranges.IsNumber client × ranges.IsNumber session × ranges.IsNumber place × ranges.FitsEvent event
FitsItem (item.Reply session number place reply) = ranges.IsNumber session × ranges.IsNumber number × ranges.IsNumber place × ranges.FitsReply reply
FitsItem (item.Read session number level place reach reply) =
    ranges.IsNumber session × ranges.IsNumber number × ranges.IsNumber place × FitsReach reach × ranges.FitsReply reply
FitsItem (item.Ended session place how) = ranges.IsNumber session × ranges.IsNumber place
FitsItem (item.Doubt session number) = ranges.IsNumber session × ranges.IsNumber number
FitsItem (item.Lost session number) = ranges.IsNumber session × ranges.IsNumber number
FitsItem (item.Unsent session number) = ranges.IsNumber session × ranges.IsNumber number
FitsItem (item.Unanswered session number) = ranges.IsNumber session × ranges.IsNumber number
FitsItem (item.Listed count) = ranges.IsNumber count
FitsItem (item.Pending number from to kind) = ranges.IsNumber number × FitsEnd from × FitsEnd to
FitsItem (item.Skip reason) = FitsSkip reason

abbrev pub FitsAct : Act → Type 0
FitsAct act.Nothing = Unit {0}
FitsAct (act.Open client opening) = ranges.IsNumber client × ranges.IsNumber opening
FitsAct (act.Keep session) = ranges.IsNumber session
FitsAct (act.Do session name op) = ranges.IsNumber session × ranges.IsName name × ranges.FitsOp op
FitsAct (act.Close session) = ranges.IsNumber session
FitsAct (act.Expire session) = ranges.IsNumber session

-- an entry of a history: a time and an act
abbrev pub FitsHistoryEntry : ℕ × Act → Type 0
FitsHistoryEntry entry = ranges.IsNumber entry.0 × FitsAct entry.1

abbrev pub FitsRunEnd : RunEnd → Type 0
FitsRunEnd run_end.Done = Unit {0}
FitsRunEnd (run_end.StepLimit line) = ranges.IsNumber line

-- a session and the number of a call of it
abbrev pub FitsCallNumber : ℕ × ℕ → Type 0
FitsCallNumber a = ranges.IsNumber a.0 × ranges.IsNumber a.1

-- a report
pub record FitsReport (report : Report) : Type 0 where
  pub items : AllByRecursion FitsItem report.items
  pub history : AllByRecursion FitsHistoryEntry report.history
  pub waiting : AllByRecursion FitsCallNumber report.waiting
  pub end : FitsRunEnd report.end

-- what a run gives: its items, its history and its end
pub record Run : Type 0 where
  pub items : List Item
  pub history : List (ℕ × Act)
  pub end : RunEnd

-- a run of values of the program's types
pub record IsRun (run : Run) : Type 0 where
  pub items : AllByRecursion FitsItem run.items
  pub history : AllByRecursion FitsHistoryEntry run.history
  pub end : FitsRunEnd run.end
