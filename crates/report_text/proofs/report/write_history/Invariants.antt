use Rattle.std.proofs.Common.{◌≡◌, ◌+◌, ◌++◌, drop}
use Rattle.std.specs.List.{AllByRecursion}
use Rattle.spec_report.specs.ReportValues as report_values
use Rattle.spec_report.specs.Items as items
use Rattle.spec_report.specs.Report as spec
use Rattle.report_text.proofs.report.write_history.Given as goal

-- the place that comes next; what is written, and the lines that are left; all entries fit where those that are left do
abbrev pub invariant-entries : goal.invariant-entries
invariant-entries l = record {
  place_is : l.place ≡ l.entry-index + 1;
  written : l.text ++ items.lines_text (spec.act_lines l.place (drop l.entry-index l.history)) ≡ l.fn.text ++ spec.history_text l.history;
  fits : AllByRecursion report_values.FitsHistoryEntry (drop l.entry-index l.history) → AllByRecursion report_values.FitsHistoryEntry l.history;
}
