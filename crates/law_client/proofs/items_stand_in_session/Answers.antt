use Rattle.law_client.proofs.items_stand_in_session.Goals as goal
use Rattle.law_client.proofs.Promises.{items_stand_in_session}

pub returns : goal.returns
returns c = items_stand_in_session
