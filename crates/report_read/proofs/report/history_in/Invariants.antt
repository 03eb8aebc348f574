use Rattle.std.proofs.Common.{◌≡◌, ◌+◌, drop}
use Rattle.serde_json.specs.View.{items_view}
use Rattle.spec_report_read.specs.ReportForm as report_form
use Rattle.report_read.proofs.Loops as loops
use Rattle.report_read.proofs.report.history_in.Given as goal

abbrev pub invariant-lines : goal.invariant-lines
invariant-lines l = record {
  read : report_form.history_in (items_view l.lines) ≡ loops.behind_read l.history (report_form.each_in report_form.entry_in l.place (items_view (drop l.line-index l.lines)));
  place : l.place ≡ l.line-index + 1;
}
