-- The report of a script's run, in its two forms.
use Rattle.std.specs.Prelude.{ℕ, ◌≡◌, ◌⊎◌, Bool, true, false, Option, Result, Ok, Err, List, [], ◌++◌}
use Rattle.ax_io.specs.Content as ax_io_content
use Rattle.ax_types.specs.declared.entries.Act.{Act}
use Rattle.ax_types.specs.declared.items.Item.{Item}
use Rattle.ax_types.specs.declared.scripts.RunEnd.{RunEnd}
use Rattle.ax_types.specs.declared.scripts.Script.{Script}
use Rattle.ax_types.specs.declared.steps.KeptStep.{KeptStep}
use Rattle.spec_report.specs.Items as report_items
use Rattle.spec_report.specs.Report as reports
use Rattle.spec_report.specs.Json as jsons
use Rattle.spec_report.specs.ReportValues as report_values
use Rattle.spec_run.specs.Run as runs
use Rattle.world_hosts.specs.StoresMatch as matching
use Rattle.script_run.specs.Carrying as carrying
use Rattle.script_run.specs.ScriptRuns as script_runs
use Rattle.script_run.specs.declared.telling.GivenUp.{GivenUp}
use Rattle.script_run.specs.declared.telling.GivenUp.TheVariants as given_up

-- the report as a text, or as JSON
abbrev pub report_in : Bool → List Item → List (ℕ × Act) → RunEnd → List ℕ
report_in false items history end = reports.report_text items history end
report_in true items history end = jsons.json_text (record { items = items; history = history; waiting = report_items.waiting_of items; end = end })

-- what of a report is written before the run
abbrev pub head_in : Bool → List ℕ
head_in false = reports.head_text
head_in true = []

-- what of it is written by when these items were shown: of a text the first line and those of the items, of JSON nothing
abbrev pub begun_text : Bool → List Item → List ℕ
begun_text json items = head_in json ++ carrying.told_text json items

-- what of it is written behind the run
abbrev pub rest_in : Bool → List Item → List (ℕ × Act) → RunEnd → List ℕ
rest_in false items history end = reports.history_text history ++ (report_items.waiting_text (report_items.waiting_of items) ++ reports.end_text end)
rest_in true items history end = report_in true items history end

-- the text is the report of a script's run, which left the stores so and whose values are within their types
pub record ReportsRun (form : List Item → List (ℕ × Act) → RunEnd → List ℕ) (s : Script) (states : List matching.StoreState) (text : List ℕ) (end : RunEnd) : Type 0 where
  pub all : carrying.RunSoFar
  pub ends : carrying.IsRunToEnd (script_runs.world_of_script s) (runs.works_of s.lines) all end
  pub stores : matching.StoresMatch all.world.hosts states
  pub telling : matching.AreTelling states
  pub reported : text ≡ form all.transcript all.world.history end
  pub fits : report_values.IsRun (record { items = all.transcript; history = all.world.history; end = end })

-- ---- what the sink took by the end of a call

-- the whole report
pub record WritesReport (json : Bool) (s : Script) (states : List matching.StoreState) (before now : Option (List ℕ)) (end : RunEnd) : Type 0 where
  pub text : List ℕ
  pub reports : ReportsRun (report_in json) s states text end
  pub written : now ≡ ax_io_content.append_told before text

-- memory was wanted: of a text report exactly its first line and the lines of these first steps; of JSON nothing
pub record WritesLines (json : Bool) (s : Script) (before now : Option (List ℕ)) : Type 0 where
  pub steps : List KeptStep
  pub first : script_runs.AreFirstSteps s steps
  pub written : now ≡ ax_io_content.append_told before (begun_text json (script_runs.items_of s steps))

-- a write failed while the script ran: a front of the first line and of the lines of these first steps, which left the stores so
pub record BreaksOff (s : Script) (states : List matching.StoreState) (before now : Option (List ℕ)) : Type 0 where
  pub steps : List KeptStep
  pub first : script_runs.AreFirstSteps s steps
  pub stores : matching.StoresMatch (script_runs.ran_steps s steps).world.hosts states
  pub telling : matching.AreTelling states
  pub front : ax_io_content.TakesFront before now (begun_text false (script_runs.items_of s steps))

-- a write failed behind the run: a front of its report
pub record EndsShort (json : Bool) (s : Script) (states : List matching.StoreState) (before now : Option (List ℕ)) : Type 0 where
  pub text : List ℕ
  pub end : RunEnd
  pub reports : ReportsRun (report_in json) s states text end
  pub front : ax_io_content.TakesFront before now text

-- a write failed: a front of the report of the steps that were made, which of JSON are all
abbrev pub WritesFront : Bool → Script → List matching.StoreState → Option (List ℕ) → Option (List ℕ) → Type 0
WritesFront false s states before now = BreaksOff s states before now ⊎ EndsShort false s states before now
WritesFront true s states before now = EndsShort true s states before now

abbrev pub Writes : Bool → Script → List matching.StoreState → Option (List ℕ) → Option (List ℕ) → Result RunEnd GivenUp → Type 0
Writes json s states before now (Ok end) = WritesReport json s states before now end
Writes json s states before now (Err given_up.NoMemory) = WritesLines json s before now
Writes json s states before now (Err given_up.WriteFault) = WritesFront json s states before now

-- where the report is JSON, and memory was wanted
abbrev pub IfJsonLeft : {A : Type 0} → Bool → Result A GivenUp → Type 0 → Type 0
IfJsonLeft true (Err given_up.NoMemory) P = P
IfJsonLeft _ _ P = Unit {0}
