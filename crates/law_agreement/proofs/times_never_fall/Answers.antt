use Rattle.law_agreement.proofs.times_never_fall.Goals as goal
use Rattle.law_agreement.specs.Agreement as laws
use Rattle.law_agreement.proofs.Agreement.{always, times_never_fall}

pub returns : goal.returns
returns c = always laws.TimesRise (λ n s one h. times_never_fall n s h)
