use Rattle.std.proofs.Common.{length}
use Rattle.store_journal.proofs.RecordsSoFar.{IsReadSoFar}
use Rattle.store_journal.proofs.reading.read_journal.Given as goal

abbrev pub invariant-records : goal.invariant-records
invariant-records l = IsReadSoFar l.bytes l.left l.reader

abbrev pub decreases-records : goal.decreases-records
decreases-records l = length l.reader
