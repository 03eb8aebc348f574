use Rattle.law_sessions.proofs.acts_are_of_entries.Goals as goal
use Rattle.law_sessions.proofs.Lawful.{acts_are_of_entries}

pub returns : goal.returns
returns c = acts_are_of_entries
