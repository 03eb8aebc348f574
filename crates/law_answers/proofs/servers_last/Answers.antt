use Rattle.law_answers.proofs.servers_last.Goals as goal
use Rattle.law_answers.proofs.Lasting.{servers_last}

pub returns : goal.returns
returns c = servers_last
