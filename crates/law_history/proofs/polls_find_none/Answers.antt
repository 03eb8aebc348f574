use Rattle.law_history.proofs.polls_find_none.Goals as goal
use Rattle.law_history.proofs.Queues.{find_none}

pub returns : goal.returns
returns c = find_none
