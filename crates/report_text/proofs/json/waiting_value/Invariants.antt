use Rattle.std.proofs.Common.{◌≡◌, map, take, drop}
use Rattle.std.specs.List.{AllByRecursion}
use Rattle.spec_report.specs.ReportValues as report_values
use Rattle.serde_json.specs.Data.{string}
use Rattle.serde_json.specs.View.{view}
use Rattle.spec_report.specs.Items as items
use Rattle.report_text.proofs.json.waiting_value.Given as goal

-- the strings so far are the lines so far; all calls fit where those that are left do
abbrev pub invariant-calls : goal.invariant-calls
invariant-calls l = record {
  lines_are : map view l.lines.items ≡ map string (map items.waiting_line (take l.call-index l.waiting));
  fits : AllByRecursion report_values.FitsCallNumber (drop l.call-index l.waiting) → AllByRecursion report_values.FitsCallNumber l.waiting;
}
