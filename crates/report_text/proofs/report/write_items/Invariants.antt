use Rattle.std.proofs.Common.{◌≡◌, ◌++◌, drop}
use Rattle.std.specs.List.{AllByRecursion}
use Rattle.spec_report.specs.ReportValues as report_values
use Rattle.spec_report.specs.Items as spec
use Rattle.report_text.proofs.report.write_items.Given as goal

-- what is written, and the lines that are left; all items fit where those that are left do
abbrev pub invariant-items : goal.invariant-items
invariant-items l = record {
  written : l.text ++ spec.items_text (drop l.item-index l.items) ≡ l.fn.text ++ spec.items_text l.items;
  fits : AllByRecursion report_values.FitsItem (drop l.item-index l.items) → AllByRecursion report_values.FitsItem l.items;
}
