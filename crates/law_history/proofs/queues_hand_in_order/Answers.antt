use Rattle.law_history.proofs.queues_hand_in_order.Goals as goal
use Rattle.law_history.proofs.Queues.{hand_in_order}

pub returns : goal.returns
returns c = hand_in_order
