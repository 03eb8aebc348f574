use Rattle.law_client.proofs.events_precede_responses.Goals as goal
use Rattle.law_client.proofs.Promises.{events_precede_responses}

pub returns : goal.returns
returns c = events_precede_responses
