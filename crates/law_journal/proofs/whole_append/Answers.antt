use Rattle.law_journal.proofs.RecordByRecord.{whole_read, whole_read_all}
use Rattle.law_journal.proofs.whole_append.Goals as goal

pub returns-clause-all : goal.returns-clause-all
returns-clause-all c = whole_read_all

pub returns-clause-more : goal.returns-clause-more
returns-clause-more c = whole_read
