use Rattle.law_sessions.proofs.commands_take_effect_once.Goals as goal
use Rattle.law_sessions.proofs.Commands.{commands_take_effect_once}

pub returns : goal.returns
returns c = commands_take_effect_once
