use Rattle.law_run.proofs.scripts_unfold.Goals as goal
use Rattle.law_run.proofs.Walks.{unfolds}

pub returns : goal.returns
returns c = unfolds
