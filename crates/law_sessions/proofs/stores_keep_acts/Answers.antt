use Rattle.law_sessions.proofs.stores_keep_acts.Goals as goal
use Rattle.law_sessions.proofs.Kept.{stores_keep_acts}

pub returns : goal.returns
returns c = stores_keep_acts
