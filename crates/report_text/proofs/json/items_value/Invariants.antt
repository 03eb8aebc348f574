use Rattle.std.proofs.Common.{◌≡◌, map, take, drop}
use Rattle.std.specs.List.{AllByRecursion}
use Rattle.spec_report.specs.ReportValues as report_values
use Rattle.serde_json.specs.Data.{string}
use Rattle.serde_json.specs.View.{view}
use Rattle.spec_report.specs.Items as items
use Rattle.report_text.proofs.json.items_value.Given as goal

-- the strings so far are the lines so far; all items fit where those that are left do
abbrev pub invariant-items : goal.invariant-items
invariant-items l = record {
  lines_are : map view l.lines.items ≡ map string (map items.item_line (take l.item-index l.list));
  fits : AllByRecursion report_values.FitsItem (drop l.item-index l.list) → AllByRecursion report_values.FitsItem l.list;
}
