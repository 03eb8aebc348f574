use Rattle.law_reading.proofs.Laws.{of_read}
use Rattle.law_reading.proofs.Packets.{payload_reads}
use Rattle.law_reading.proofs.read_payload_is_spelled.Goals as goal

pub returns-clause-at : goal.returns-clause-at
returns-clause-at c = λ bytes p rest are_bytes e.
    let s = payload_reads.exact.spelled bytes p rest are_bytes e in
    (s.0, s.1.0, s.1.1)

pub returns-clause-read : goal.returns-clause-read
returns-clause-read c = λ bytes p len are_bytes e.
    let r = of_read payload_reads bytes p len are_bytes e in
    (r.within, r.spelled, r.fits.0, r.fits.1)
