use Rattle.law_faithful.proofs.runs_are_faithful.Goals as goal
use Rattle.law_faithful.proofs.Runs.{runs_are_faithful}

pub returns : goal.returns
returns c = runs_are_faithful
