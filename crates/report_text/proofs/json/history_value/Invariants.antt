use Rattle.std.proofs.Common.{◌≡◌, ◌+◌, ◌++◌, map, drop}
use Rattle.std.specs.List.{AllByRecursion}
use Rattle.spec_report.specs.ReportValues as report_values
use Rattle.serde_json.specs.Data.{string}
use Rattle.serde_json.specs.View.{view}
use Rattle.spec_report.specs.Report as report
use Rattle.report_text.proofs.json.history_value.Given as goal

-- the place that comes next; the strings so far, and the lines that are left; all entries fit where those that are left do
abbrev pub invariant-entries : goal.invariant-entries
invariant-entries l = record {
  place_is : l.place ≡ l.entry-index + 1;
  lines_are : map view l.lines.items ++ map string (report.act_lines l.place (drop l.entry-index l.history)) ≡ map string (report.act_lines 1 l.history);
  fits : AllByRecursion report_values.FitsHistoryEntry (drop l.entry-index l.history) → AllByRecursion report_values.FitsHistoryEntry l.history;
}
