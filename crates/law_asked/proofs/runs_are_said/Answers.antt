use Rattle.law_asked.proofs.runs_are_said.Goals as goal
use Rattle.law_asked.proofs.Runs.{runs_are_said}

pub returns : goal.returns
returns c = runs_are_said
