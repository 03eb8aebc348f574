use Rattle.law_journal.proofs.CallRecords.{cut_is}
use Rattle.law_journal.proofs.cut_append.Goals as goal

pub returns : goal.returns
returns c = cut_is
