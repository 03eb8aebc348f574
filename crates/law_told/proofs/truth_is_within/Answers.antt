use Rattle.law_told.proofs.truth_is_within.Goals as goal
use Rattle.law_told.proofs.Staying.{truth_is_within}

pub returns : goal.returns
returns c = truth_is_within
