use Rattle.law_items.proofs.node_items_are_ordered.Goals as goal
use Rattle.law_items.proofs.Order.{node_items_are_ordered}

pub returns : goal.returns
returns c = node_items_are_ordered
