use Rattle.law_client.proofs.outcomes_follow_calls.Goals as goal
use Rattle.law_client.proofs.Promises.{outcomes_follow_calls}

pub returns : goal.returns
returns c = outcomes_follow_calls
