use Rattle.law_sessions.proofs.acts_grow.Goals as goal
use Rattle.law_sessions.proofs.Lawful.{acts_grow}

pub returns : goal.returns
returns c = acts_grow
