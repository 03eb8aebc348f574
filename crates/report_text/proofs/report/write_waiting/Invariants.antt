use Rattle.std.proofs.Common.{◌≡◌, ◌++◌, drop}
use Rattle.std.specs.List.{AllByRecursion}
use Rattle.spec_report.specs.ReportValues as report_values
use Rattle.spec_report.specs.Items as spec
use Rattle.report_text.proofs.report.write_waiting.Given as goal

-- what is written, and the lines that are left; all calls fit where those that are left do
abbrev pub invariant-calls : goal.invariant-calls
invariant-calls l = record {
  written : l.text ++ spec.waiting_text (drop l.call-index l.waiting) ≡ l.fn.text ++ spec.waiting_text l.waiting;
  fits : AllByRecursion report_values.FitsCallNumber (drop l.call-index l.waiting) → AllByRecursion report_values.FitsCallNumber l.waiting;
}
