use Rattle.law_report.proofs.Extras.{caller_text_tells}
use Rattle.law_report.proofs.caller_text_tells.Goals as goal

pub returns : goal.returns
returns c = caller_text_tells
