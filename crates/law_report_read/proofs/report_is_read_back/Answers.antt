use Rattle.law_report_read.proofs.Reports as reports
use Rattle.law_report_read.proofs.report_is_read_back.Goals as goal

pub returns : goal.returns
returns c = reports.report_is_read_back
