use Rattle.law_client.proofs.events_come_in_order.Goals as goal
use Rattle.law_client.proofs.Promises.{events_come_in_order}

pub returns : goal.returns
returns c = events_come_in_order
