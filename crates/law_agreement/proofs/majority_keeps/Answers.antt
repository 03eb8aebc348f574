use Rattle.law_agreement.proofs.majority_keeps.Goals as goal
use Rattle.law_agreement.specs.Agreement as laws
use Rattle.law_agreement.proofs.Agreement.{always, majority_keeps}

pub returns : goal.returns
returns c = always laws.MajorityKeeps (majority_keeps)
