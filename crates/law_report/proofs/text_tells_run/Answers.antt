use Rattle.law_report.proofs.Runs.{text_tells_run}
use Rattle.law_report.proofs.text_tells_run.Goals as goal

pub returns : goal.returns
returns c = text_tells_run
