use Rattle.std.proofs.Common.{refl}
use Rattle.law_reading.proofs.Laws.{part_of}
use Rattle.law_reading.proofs.Packets.{payload_reads}
use Rattle.law_reading.proofs.torn_payload_is_a_part.Goals as goal

pub returns-clause-at : goal.returns-clause-at
returns-clause-at c = λ p front byte more fits spelled are_bytes same. part_of payload_reads p front byte more (fits, spelled) are_bytes same

pub returns-clause-read : goal.returns-clause-read
returns-clause-read c = λ p front byte more fits spelled are_bytes same. rw (part_of payload_reads p front byte more (fits, spelled) are_bytes same) refl
