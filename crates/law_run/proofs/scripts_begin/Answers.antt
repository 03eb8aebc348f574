use Rattle.law_run.proofs.scripts_begin.Goals as goal
use Rattle.law_run.proofs.Walks.{begins}

pub returns : goal.returns
returns c = begins
