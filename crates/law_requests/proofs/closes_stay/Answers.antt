use Rattle.law_requests.proofs.closes_stay.Goals as goal
use Rattle.law_requests.proofs.Closes.{closes_stay}

pub returns : goal.returns
returns c = closes_stay
