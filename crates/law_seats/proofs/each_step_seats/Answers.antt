use Rattle.law_seats.proofs.each_step_seats.Goals as goal
use Rattle.law_seats.proofs.Seats.{each_step_seats}

pub returns : goal.returns
returns c = each_step_seats
