use Rattle.law_answers.proofs.first_step_may_be_made.Goals as goal
use Rattle.law_answers.proofs.Steps.{first_step_may_be_made}

pub returns : goal.returns
returns c = first_step_may_be_made
