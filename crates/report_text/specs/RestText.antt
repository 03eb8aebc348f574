-- The text of a report behind its items, where the calls without an outcome are given.
use Rattle.std.specs.Prelude.{ℕ, List, ◌++◌}
use Rattle.ax_types.specs.declared.scripts.Report.{Report}
use Rattle.spec_report.specs.Items as items
use Rattle.spec_report.specs.Report as reports

-- that of `Report.report_text`, where these are the calls that wait
abbrev pub rest_text : Report → List ℕ
rest_text report = reports.history_text report.history ++ (items.waiting_text report.waiting ++ reports.end_text report.end)
