use Rattle.law_journal.proofs.RecordByRecord.{bytes_are, records_stand}
use Rattle.law_journal.proofs.journal_is_spelled.Goals as goal

pub returns-clause-bytes : goal.returns-clause-bytes
returns-clause-bytes c = bytes_are

pub returns-clause-stand : goal.returns-clause-stand
returns-clause-stand c = records_stand
