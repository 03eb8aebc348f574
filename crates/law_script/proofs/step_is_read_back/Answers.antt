use Rattle.law_script.proofs.Steps.{step-back}
use Rattle.law_script.proofs.step_is_read_back.Goals as goal

pub returns : goal.returns
returns c = step-back
