use Rattle.law_client.proofs.sessions_end_as_told.Goals as goal
use Rattle.law_client.proofs.Promises.{sessions_end_as_told}

pub returns : goal.returns
returns c = sessions_end_as_told
