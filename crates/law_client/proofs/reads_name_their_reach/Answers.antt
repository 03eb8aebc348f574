use Rattle.law_client.proofs.reads_name_their_reach.Goals as goal
use Rattle.law_client.proofs.Promises.{reads_name_their_reach}

pub returns : goal.returns
returns c = reads_name_their_reach
