use Rattle.law_client.proofs.each_step_keeps.Goals as goal
use Rattle.law_client.proofs.Promises.{each_step_keeps}

pub returns : goal.returns
returns c = each_step_keeps
