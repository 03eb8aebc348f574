use Rattle.law_agreement.proofs.leader_completeness.Goals as goal
use Rattle.law_agreement.specs.Agreement as laws
use Rattle.law_agreement.proofs.Agreement.{always, leaders_hold}

pub returns : goal.returns
returns c = always laws.LeadersHold (λ n s one h. leaders_hold n s h)
