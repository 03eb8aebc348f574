use Rattle.law_reading.proofs.Laws.{one_spelling}
use Rattle.law_reading.proofs.Packets.{payload_reads}
use Rattle.law_reading.proofs.payload_has_one_spelling.Goals as goal

pub returns : goal.returns
returns c = λ p q a b fp sp fq sq same. one_spelling payload_reads p q a b (fp, sp) (fq, sq) same
