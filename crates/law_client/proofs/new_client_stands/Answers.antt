use Rattle.law_client.proofs.new_client_stands.Goals as goal
use Rattle.law_client.proofs.Promises.{new_client_stands}

pub returns : goal.returns
returns c = new_client_stands
