use Rattle.law_answers.proofs.servers_pass_on.Goals as goal
use Rattle.law_answers.proofs.Passing.{servers_pass_on}

pub returns : goal.returns
returns c = servers_pass_on
