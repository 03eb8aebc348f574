use Rattle.law_agreement.proofs.log_matching.Goals as goal
use Rattle.law_agreement.specs.Agreement as laws
use Rattle.law_agreement.proofs.Agreement.{always, logs_match}

pub returns : goal.returns
returns c = always laws.LogsMatch (λ n s one h. logs_match n s h)
