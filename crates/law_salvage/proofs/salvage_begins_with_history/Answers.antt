use Rattle.law_salvage.proofs.Goods.{begins}
use Rattle.law_salvage.proofs.salvage_begins_with_history.Goals as goal

pub returns : goal.returns
returns c = begins
