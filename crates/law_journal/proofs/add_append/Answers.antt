use Rattle.law_journal.proofs.CallRecords.{entries_are}
use Rattle.law_journal.proofs.add_append.Goals as goal

pub returns : goal.returns
returns c = entries_are
