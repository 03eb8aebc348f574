use Rattle.law_asked.proofs.said_stays.Goals as goal
use Rattle.law_asked.proofs.Saying.{said_stays}

pub returns : goal.returns
returns c = said_stays
