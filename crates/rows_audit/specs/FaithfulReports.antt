-- Reports of runs, with the calls that wait.
use Rattle.std.specs.Prelude.{[]}
use Rattle.spec_audit.specs.Audit as audits
use Rattle.rows_report.specs.ReportRows as report_rows

abbrev pub of_one_add : audits.Audited
of_one_add = record { items = report_rows.one_add_items; history = report_rows.one_add_history; waiting = [] }

abbrev pub of_leader_lost : audits.Audited
of_leader_lost = record { items = report_rows.leader_lost_items; history = report_rows.leader_lost_history; waiting = [] }

abbrev pub of_lost_batch : audits.Audited
of_lost_batch = record { items = report_rows.lost_batch_items; history = report_rows.lost_batch_history; waiting = [] }

abbrev pub of_doubt : audits.Audited
of_doubt = record { items = report_rows.doubt_items; history = report_rows.doubt_history; waiting = [] }

abbrev pub of_group : audits.Audited
of_group = record { items = report_rows.group_items; history = report_rows.group_history; waiting = [] }
