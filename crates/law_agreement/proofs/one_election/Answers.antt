use Rattle.law_agreement.proofs.one_election.Goals as goal
use Rattle.law_agreement.specs.Agreement as laws
use Rattle.law_agreement.proofs.Agreement.{always, led_once}

pub returns : goal.returns
returns c = always laws.LedOnce (λ n s one h. led_once n s h)
