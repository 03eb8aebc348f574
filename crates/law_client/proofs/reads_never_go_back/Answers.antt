use Rattle.law_client.proofs.reads_never_go_back.Goals as goal
use Rattle.law_client.proofs.Promises.{reads_never_go_back}

pub returns : goal.returns
returns c = reads_never_go_back
