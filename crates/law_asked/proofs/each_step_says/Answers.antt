use Rattle.law_asked.proofs.each_step_says.Goals as goal
use Rattle.law_asked.proofs.Runs.{each_step_says}

pub returns : goal.returns
returns c = each_step_says
