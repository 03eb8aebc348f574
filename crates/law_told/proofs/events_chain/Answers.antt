use Rattle.law_told.proofs.events_chain.Goals as goal
use Rattle.law_told.proofs.Chain.{events_chain}

pub returns : goal.returns
returns c = events_chain
