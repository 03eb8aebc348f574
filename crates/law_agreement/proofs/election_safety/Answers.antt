use Rattle.law_agreement.proofs.election_safety.Goals as goal
use Rattle.law_agreement.specs.Agreement as laws
use Rattle.law_agreement.proofs.Agreement.{always, one_leads}

pub returns : goal.returns
returns c = always laws.OneLeads (λ n s one h. one_leads n s h)
