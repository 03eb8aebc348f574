use Rattle.law_reading.proofs.Laws.{of_read}
use Rattle.law_reading.proofs.Entries.{entry_reads}
use Rattle.law_reading.proofs.read_entry_is_spelled.Goals as goal

pub returns-clause-at : goal.returns-clause-at
returns-clause-at c = λ bytes e rest are_bytes same.
    let s = entry_reads.exact.spelled bytes e rest are_bytes same in
    (s.0, s.1)

pub returns-clause-read : goal.returns-clause-read
returns-clause-read c = λ bytes e len are_bytes same.
    let r = of_read entry_reads bytes e len are_bytes same in
    (r.within, r.spelled, r.fits)
