use Rattle.law_journal.proofs.Appended.{torn_read}
use Rattle.law_journal.proofs.torn_append.Goals as goal

pub returns : goal.returns
returns c = torn_read
