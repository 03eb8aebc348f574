use Rattle.law_sessions.proofs.logs_begin_with_acts.Goals as goal
use Rattle.law_sessions.proofs.Kept.{logs_begin_with_acts}

pub returns : goal.returns
returns c = logs_begin_with_acts
