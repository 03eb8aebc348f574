-- A report tells its run: different runs have different reports.
use Rattle.std.specs.Prelude.{◌≡◌, ℕ, ◌||◌, nat_eq, if◌then◌else◌, List, [], ◌∷◌, ◌++◌, map}
use Rattle.json.specs.Print.{quoted}
use Rattle.ax_types.specs.declared.items.Item.{Item}
use Rattle.ax_types.specs.declared.items.Item.TheVariants as item
use Rattle.ax_types.specs.declared.entries.Act.{Act}
use Rattle.ax_types.specs.declared.entries.Act.TheVariants as act
use Rattle.ax_types.specs.declared.replies.Event.{Event}
use Rattle.ax_types.specs.declared.replies.Outcome.{Outcome}
use Rattle.ax_types.specs.declared.steps.WatchKind.{WatchKind}
use Rattle.ax_types.specs.declared.scripts.RunEnd.{RunEnd}
use Rattle.ax_types.specs.declared.scripts.Report.{Report}
use Rattle.ax_types.specs.declared.scripts.RunEnd.TheVariants as run_end
use Rattle.spec_report.specs.Items as report_items
use Rattle.spec_report.specs.Report as report_reports
use Rattle.spec_report.specs.Json as json_form
use Rattle.std.specs.List.{AllByRecursion}
use Rattle.spec_wire.specs.Ranges as ranges
use Rattle.spec_report.specs.ReportValues as report_values

-- the text of the report of a run
abbrev pub run_text : report_values.Run → List ℕ
run_text run = report_reports.report_text run.items run.history run.end

-- the report of a run, with the calls that wait
abbrev pub report_of : report_values.Run → Report
report_of run = record { items = run.items; history = run.history; waiting = report_items.waiting_of run.items; end = run.end }

-- runs with one text are one run
abbrev pub TextTellsRun : Type 0
TextTellsRun = (one other : report_values.Run) → report_values.IsRun one → report_values.IsRun other → run_text one ≡ run_text other → one ≡ other

-- a line of a caller or of a feed's listener
pub data IsExtraLine : List ℕ → Type 0 where
  of_caller : (caller number : ℕ) (outcome : Outcome) → report_values.FitsOutcome outcome → IsExtraLine (report_reports.caller_line caller number outcome)
  of_feed : (feed client : ℕ) (kind : WatchKind) (session place : ℕ) (event : Event) → ranges.FitsEvent event → IsExtraLine (report_reports.feed_line feed client kind session place event)

-- lines of callers with one text tell one caller, one number and one outcome
abbrev pub CallerTextTells : Type 0
CallerTextTells = (caller number : ℕ) (outcome : Outcome) (caller' number' : ℕ) (outcome' : Outcome)
    → ranges.IsNumber caller → ranges.IsNumber number → report_values.FitsOutcome outcome → ranges.IsNumber caller' → ranges.IsNumber number' → report_values.FitsOutcome outcome'
    → report_reports.caller_text caller number outcome ≡ report_reports.caller_text caller' number' outcome'
    → (caller ≡ caller') × (number ≡ number') × (outcome ≡ outcome')

-- what a feed's listener heard: the feed, its client and kind, and an event with its session and place
pub record FeedLine : Type 0 where
  pub feed : ℕ
  pub client : ℕ
  pub kind : WatchKind
  pub session : ℕ
  pub place : ℕ
  pub event : Event

pub record IsFeedLine (heard : FeedLine) : Type 0 where
  pub feed : ranges.IsNumber heard.feed
  pub client : ranges.IsNumber heard.client
  pub session : ranges.IsNumber heard.session
  pub place : ranges.IsNumber heard.place
  pub event : ranges.FitsEvent heard.event

abbrev pub heard_text : FeedLine → List ℕ
heard_text heard = report_reports.feed_text heard.feed heard.client heard.kind heard.session heard.place heard.event

-- lines of feeds with one text tell one thing
abbrev pub FeedTextTells : Type 0
FeedTextTells = (one other : FeedLine) → IsFeedLine one → IsFeedLine other → heard_text one ≡ heard_text other → one ≡ other

-- runs with callers and feeds and one text are one run, with the same lines of callers and feeds
abbrev pub RaceTextTellsRun : Type 0
RaceTextTellsRun = (one other : report_values.Run) (lines more : List (List ℕ)) → report_values.IsRun one → report_values.IsRun other → AllByRecursion IsExtraLine lines → AllByRecursion IsExtraLine more
    → report_reports.race_text one.items one.history lines one.end ≡ report_reports.race_text other.items other.history more other.end
    → (one ≡ other) × (lines ≡ more)

-- runs with one JSON text are one run
abbrev pub JsonTellsRun : Type 0
JsonTellsRun = (one other : report_values.Run) → report_values.IsRun one → report_values.IsRun other → json_form.json_text (report_of one) ≡ json_form.json_text (report_of other) → one ≡ other

-- reports with one JSON text are one report
abbrev pub JsonTellsReport : Type 0
JsonTellsReport = (one other : Report) → report_values.FitsReport one → report_values.FitsReport other → json_form.json_text one ≡ json_form.json_text other → one ≡ other

-- the strings that the JSON form of a report holds
abbrev pub report_strings : Report → List (List ℕ)
report_strings report = report_reports.end_word report.end ∷ (report_reports.act_lines 1 report.history ++ (map report_items.item_line report.items ++ map report_items.waiting_line report.waiting))

-- a text with a `\` before each `"` and each `\`
abbrev pub escaped : List ℕ → List ℕ
escaped [] = []
escaped (b ∷ bs) = if nat_eq b 34 || nat_eq b 92 then 92 ∷ (b ∷ escaped bs) else b ∷ escaped bs

-- no other byte of a line is escaped
abbrev pub EscapesQuotesAlone : Type 0
EscapesQuotesAlone = (report : Report) → report_values.FitsReport report → AllByRecursion (λ l. quoted l ≡ 34 ∷ (escaped l ++ (34 ∷ []))) (report_strings report)

-- a run in which a node becomes leader
abbrev pub first_run : report_values.Run
first_run = record { items = item.Leader 1 1 ∷ item.Commit 1 ∷ []; history = (0, act.Nothing) ∷ []; end = run_end.Done }
