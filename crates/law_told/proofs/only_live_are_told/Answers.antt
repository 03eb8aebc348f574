use Rattle.law_told.proofs.only_live_are_told.Goals as goal
use Rattle.law_told.proofs.Named.{only_live_are_told}

pub returns : goal.returns
returns c = only_live_are_told
