-- A report is read back from its JSON form.
use Rattle.std.specs.Prelude.{ℕ, ◌≡◌, ◌≤◌, ◌<◌, ◌-◌, ◌^◌, ⊤, false, IsUtf8, List, length, Option, Some, None, Ok}
use Rattle.std.specs.List.{AllByRecursion}
use Rattle.ax_types.specs.declared.ops.Level.{Level}
use Rattle.ax_types.specs.declared.ops.Level.TheVariants.{Seq, Lin}
use Rattle.ax_types.specs.declared.entries.Act.{Act}
use Rattle.ax_types.specs.declared.entries.Act.TheVariants as act
use Rattle.ax_types.specs.declared.items.Item.{Item}
use Rattle.ax_types.specs.declared.items.Item.TheVariants as item
use Rattle.ax_types.specs.declared.scripts.Report.{Report}
use Rattle.spec_wire.specs.Ranges as ranges
use Rattle.spec_report.specs.Json as json_form
use Rattle.spec_report.specs.ReportValues as report_values
use Rattle.law_script.specs.StepForms as step_forms
use Rattle.spec_report_read.specs.ReportForm as report_form

-- a linearizable read has an arrival, and a sequential one has none
abbrev pub HasItsReach : Level → Option (ℕ × ℕ) → Type 0
HasItsReach Seq None = ⊤
HasItsReach Seq (Some reach) = ⊥
HasItsReach Lin None = ⊥
HasItsReach Lin (Some reach) = ⊤

-- an item whose line is one of the grammar, where its values are within their types
abbrev pub IsGrammarItem : Item → Type 0
IsGrammarItem (item.Leader node term) = step_forms.IsWithin 1 9 node
IsGrammarItem (item.Reach node term arrival session number) = step_forms.IsWithin 1 9 node
IsGrammarItem (item.Halted node) = step_forms.IsWithin 1 9 node
IsGrammarItem (item.Opened session client) = step_forms.IsWithin 1 16 client
IsGrammarItem (item.Event session place prev events) = step_forms.IsWithin 1 (2 ^ 64 - 1) (length events)
IsGrammarItem (item.Watched client kind session place event) = step_forms.IsWithin 1 16 client
IsGrammarItem (item.Read session number level place reach reply) = HasItsReach level reach
IsGrammarItem (item.Pending number from to kind) = step_forms.IsLinkEnd 9 16 from × step_forms.IsLinkEnd 9 16 to
IsGrammarItem _ = ⊤

abbrev pub IsGrammarAct : Act → Type 0
IsGrammarAct (act.Open client opening) = step_forms.IsWithin 1 16 client
IsGrammarAct _ = ⊤

abbrev pub IsGrammarEntry : ℕ × Act → Type 0
IsGrammarEntry entry = IsGrammarAct entry.1

-- a report whose lines are of the grammar
pub record IsGrammarReport (report : Report) : Type 0 where
  pub values : report_values.FitsReport report
  pub items : AllByRecursion IsGrammarItem report.items
  pub history : AllByRecursion IsGrammarEntry report.history
  pub places : length report.history < 2 ^ 64 - 1

-- the JSON value of a report is read as that report
abbrev pub ReportIsReadBack : Type 0
ReportIsReadBack = (report : Report) → IsGrammarReport report → report_form.report_from_data (json_form.report_data report) ≡ Some report

-- its JSON text, which is UTF-8 as all text that the program writes, is read as that report where it is no longer than a report may be
abbrev pub JsonIsReadBack : Type 0
JsonIsReadBack = (report : Report) → IsGrammarReport report → IsUtf8 (json_form.json_text report) → report_form.is_longer (json_form.json_text report) ≡ false
    → report_form.read_report_from (json_form.json_text report) ≡ Ok report
