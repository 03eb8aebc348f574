use Rattle.law_client.proofs.each_step_ends_as_told.Goals as goal
use Rattle.law_client.proofs.Promises.{each_step_ends_as_told}

pub returns : goal.returns
returns c = each_step_ends_as_told
