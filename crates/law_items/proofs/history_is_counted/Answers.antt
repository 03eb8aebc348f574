use Rattle.law_items.proofs.history_is_counted.Goals as goal
use Rattle.law_items.proofs.Order.{history_is_counted}

pub returns : goal.returns
returns c = history_is_counted
