use Rattle.law_reading.proofs.Laws.{read_of}
use Rattle.law_reading.proofs.Packets.{payload_reads}
use Rattle.law_reading.proofs.spelled_payload_is_read.Goals as goal

pub returns-clause-at : goal.returns-clause-at
returns-clause-at c = λ p rest fits spelled. payload_reads.again p rest (fits, spelled)

pub returns-clause-read : goal.returns-clause-read
returns-clause-read c = λ p rest fits spelled. read_of payload_reads p rest (fits, spelled)
