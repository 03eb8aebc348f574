use Rattle.law_reading.proofs.Laws.{read_of}
use Rattle.law_reading.proofs.Entries.{entry_reads}
use Rattle.law_reading.proofs.spelled_entry_is_read.Goals as goal

pub returns-clause-at : goal.returns-clause-at
returns-clause-at c = λ e rest fits. entry_reads.again e rest fits

pub returns-clause-read : goal.returns-clause-read
returns-clause-read c = λ e rest fits. read_of entry_reads e rest fits
