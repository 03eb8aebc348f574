use Rattle.law_requests.proofs.said_stays_said.Goals as goal
use Rattle.law_requests.proofs.Requests.{said_stays_said}

pub returns : goal.returns
returns c = said_stays_said
