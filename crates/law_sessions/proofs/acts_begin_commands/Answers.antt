use Rattle.law_sessions.proofs.acts_begin_commands.Goals as goal
use Rattle.law_sessions.proofs.Commands.{acts_begin_commands}

pub returns : goal.returns
returns c = acts_begin_commands
