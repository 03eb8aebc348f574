use Rattle.law_growth.proofs.history_follows.Goals as goal
use Rattle.law_growth.proofs.Numbers.{history_follows, histories_follow}

pub returns-clause-step : goal.returns-clause-step
returns-clause-step c = history_follows

pub returns-clause-run : goal.returns-clause-run
returns-clause-run c = histories_follow
