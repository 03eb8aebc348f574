use Rattle.law_report.proofs.Json.{json_tells_run}
use Rattle.law_report.proofs.json_tells_run.Goals as goal

pub returns : goal.returns
returns c = json_tells_run
