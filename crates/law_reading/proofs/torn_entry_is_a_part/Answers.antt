use Rattle.std.proofs.Common.{refl}
use Rattle.law_reading.proofs.Laws.{part_of}
use Rattle.law_reading.proofs.Entries.{entry_reads}
use Rattle.law_reading.proofs.torn_entry_is_a_part.Goals as goal

pub returns-clause-at : goal.returns-clause-at
returns-clause-at c = λ e front byte more fits are_bytes same. part_of entry_reads e front byte more fits are_bytes same

pub returns-clause-read : goal.returns-clause-read
returns-clause-read c = λ e front byte more fits are_bytes same. rw (part_of entry_reads e front byte more fits are_bytes same) refl
