use Rattle.store_journal.proofs.PlacedSoFar.{IsPutSoFar}
use Rattle.store_journal.proofs.record_writer.put_placed.Given as goal

abbrev pub invariant-entries : goal.invariant-entries
invariant-entries l = IsPutSoFar l.initial.out.items l.out.items l.initial.place l.place l.entries l.entry-index
