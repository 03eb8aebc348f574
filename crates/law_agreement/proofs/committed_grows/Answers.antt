use Rattle.law_agreement.proofs.committed_grows.Goals as goal
use Rattle.law_agreement.proofs.Agreement.{committed_grows}

pub returns : goal.returns
returns c = committed_grows
