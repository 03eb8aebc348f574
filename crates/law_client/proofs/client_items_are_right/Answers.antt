use Rattle.law_client.proofs.client_items_are_right.Goals as goal
use Rattle.law_client.proofs.Promises.{client_items_are_right}

pub returns : goal.returns
returns c = client_items_are_right
