use Rattle.law_origin.proofs.entries_have_origin.Goals as goal
use Rattle.law_origin.proofs.Steps.{entries_have_origin}

pub returns : goal.returns
returns c = entries_have_origin
