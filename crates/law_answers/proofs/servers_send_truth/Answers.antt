use Rattle.law_answers.proofs.servers_send_truth.Goals as goal
use Rattle.law_answers.proofs.Steps.{servers_send_truth}

pub returns : goal.returns
returns c = servers_send_truth
