use Rattle.law_report.proofs.Json.{json_tells_report}
use Rattle.law_report.proofs.json_tells_report.Goals as goal

pub returns : goal.returns
returns c = json_tells_report
