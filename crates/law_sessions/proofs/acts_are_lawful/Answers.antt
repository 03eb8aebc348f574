use Rattle.law_sessions.proofs.acts_are_lawful.Goals as goal
use Rattle.law_sessions.proofs.Lawful.{acts_are_lawful}

pub returns : goal.returns
returns c = acts_are_lawful
