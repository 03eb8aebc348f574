use Rattle.std.proofs.Common.{◌≡◌, ◌+◌, drop}
use Rattle.serde_json.specs.View.{items_view}
use Rattle.spec_report_read.specs.ReportForm as report_form
use Rattle.report_read.proofs.Loops as loops
use Rattle.report_read.proofs.report.waiting_calls_in.Given as goal

abbrev pub invariant-lines : goal.invariant-lines
invariant-lines l =
    report_form.waiting_calls_in (items_view l.lines) ≡ loops.behind_read l.waiting (report_form.each_in (λ place d. report_form.waiting_call_in d) (l.line-index + 1) (items_view (drop l.line-index l.lines)))
