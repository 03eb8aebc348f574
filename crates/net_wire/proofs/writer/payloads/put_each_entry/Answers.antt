use Rattle.net_wire.proofs.Loops.{written_none, written_more, written_all}
use Rattle.net_wire.proofs.writer.payloads.put_each_entry.Goals as goal

pub entries-init : goal.entries-init
entries-init c = written_none _ _ _ c.args.entries.now

pub entries-preserved : goal.entries-preserved
entries-preserved c = written_more _ _ _ _ _ _ _ _ c.entries-test.true c.entry-item.is c.entries.invariant c.in_ok-put_entry.ensures.bytes c.in_ok-put_entry.ensures.fits

pub returns : goal.returns
returns c =
    let w = written_all _ _ _ _ _ _ c.entries-test.false c.entries.invariant in
    record { bytes = w.bytes; fits = w.fits }
