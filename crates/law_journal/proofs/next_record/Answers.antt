use Rattle.law_journal.proofs.RecordByRecord.{next_whole, next_size, next_own, next_stop}
use Rattle.law_journal.proofs.next_record.Goals as goal

pub returns-clause-whole : goal.returns-clause-whole
returns-clause-whole c = next_whole

pub returns-clause-size : goal.returns-clause-size
returns-clause-size c = next_size

pub returns-clause-own : goal.returns-clause-own
returns-clause-own c = next_own

pub returns-clause-none : goal.returns-clause-none
returns-clause-none c = next_stop
