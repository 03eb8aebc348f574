use Rattle.law_release.proofs.release_keeps_numbers.Goals as goal
use Rattle.law_release.proofs.Releases.{keeps_numbers}

pub returns : goal.returns
returns c = keeps_numbers
