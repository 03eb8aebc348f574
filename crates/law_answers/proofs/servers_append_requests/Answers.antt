use Rattle.law_answers.proofs.servers_append_requests.Goals as goal
use Rattle.law_answers.proofs.Passing.{servers_append_requests}

pub returns : goal.returns
returns c = servers_append_requests
