use Rattle.law_seats.proofs.runs_are_claimed.Goals as goal
use Rattle.law_seats.proofs.Runs.{runs_are_claimed}

pub returns : goal.returns
returns c = runs_are_claimed
