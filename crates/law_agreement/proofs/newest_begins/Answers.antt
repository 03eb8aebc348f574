use Rattle.law_agreement.proofs.newest_begins.Goals as goal
use Rattle.law_agreement.specs.Agreement as laws
use Rattle.law_agreement.proofs.Agreement.{always, newest_begins}

pub returns : goal.returns
returns c = always laws.NewestBegins (λ n s one h. newest_begins n s h)
