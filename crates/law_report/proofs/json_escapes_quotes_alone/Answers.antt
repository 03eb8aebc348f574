use Rattle.law_report.proofs.Escapes.{json_escapes_quotes_alone}
use Rattle.law_report.proofs.json_escapes_quotes_alone.Goals as goal

pub returns : goal.returns
returns c = json_escapes_quotes_alone
