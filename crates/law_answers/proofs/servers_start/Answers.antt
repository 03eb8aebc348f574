use Rattle.law_answers.proofs.servers_start.Goals as goal
use Rattle.law_answers.proofs.Lasting.{servers_start}

pub returns : goal.returns
returns c = servers_start
