use Rattle.std.proofs.Common.{◌≡◌, ◌+◌, ◌++◌, drop, string_bytes}
use Rattle.spec_report.specs.Items as report_items
use Rattle.store_upgrade.specs.UpgradedStores as upgraded
use Rattle.store_upgrade.proofs.found_lines.found_text.Given as goal

-- the node that comes next; what is written, and the lines that are left
abbrev pub invariant-stores : goal.invariant-stores
invariant-stores l = record {
  node_is : l.node ≡ l.one-index + 1;
  written : string_bytes l.text ++ report_items.lines_text (upgraded.found_lines l.node (drop l.one-index l.found)) ≡ upgraded.found_text l.found;
}
