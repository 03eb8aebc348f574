use Rattle.law_asked.proofs.committed_says.Goals as goal
use Rattle.law_asked.proofs.Derived.{committed_says}

pub returns : goal.returns
returns c = committed_says
