use Rattle.law_agreement.proofs.state_machine_safety.Goals as goal
use Rattle.law_agreement.specs.Agreement as laws
use Rattle.law_agreement.proofs.Agreement.{always, logs_begin}

pub returns : goal.returns
returns c = always laws.LogsBegin (λ n s one h. logs_begin n s h)
