use Rattle.law_run.proofs.steps_follow.Goals as goal
use Rattle.law_run.proofs.Walks.{follows, made_follows, delivery_follows}

pub returns-clause-due : goal.returns-clause-due
returns-clause-due c = follows

pub returns-clause-made : goal.returns-clause-made
returns-clause-made c = made_follows

pub returns-clause-delivered : goal.returns-clause-delivered
returns-clause-delivered c = delivery_follows
