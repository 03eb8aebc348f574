use Rattle.law_script.proofs.scripts_are_within.Goals as goal
use Rattle.law_script.proofs.Within.{scripts_within}

pub returns : goal.returns
returns c = scripts_within
