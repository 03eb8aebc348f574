use Rattle.store_journal.proofs.PlacedSoFar.{none_put, one_more_put, all_put}
use Rattle.store_journal.proofs.record_writer.put_placed.Goals as goal

pub entries-init : goal.entries-init
entries-init c = none_put _ _ c.args.entries.now

pub entries-preserved : goal.entries-preserved
entries-preserved c = one_more_put _ _ _ _ _ _ _ _ c.entries-test.true c.entry-item.is c.entries.invariant c.in_ok-put_placed_entry.ensures.bytes c.in_ok-put_placed_entry.ensures.fits

pub returns : goal.returns
returns c =
    let w = all_put _ _ _ _ _ _ c.entries-test.false c.entries.invariant in
    record { bytes = w.bytes; fits = w.fits }
