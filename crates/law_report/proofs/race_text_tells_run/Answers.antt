use Rattle.law_report.proofs.Runs.{race_text_tells_run}
use Rattle.law_report.proofs.race_text_tells_run.Goals as goal

pub returns : goal.returns
returns c = race_text_tells_run
