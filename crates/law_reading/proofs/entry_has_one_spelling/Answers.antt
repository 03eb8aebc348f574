use Rattle.law_reading.proofs.Laws.{one_spelling}
use Rattle.law_reading.proofs.Entries.{entry_reads}
use Rattle.law_reading.proofs.entry_has_one_spelling.Goals as goal

pub returns : goal.returns
returns c = λ d e a b fd fe same. one_spelling entry_reads d e a b fd fe same
