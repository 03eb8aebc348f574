use Rattle.net_wire.proofs.Loops.{written_none, written_more, written_all}
use Rattle.net_wire.proofs.writer.payloads.put_each_event.Goals as goal

pub events-init : goal.events-init
events-init c = written_none _ _ _ c.args.events.now

pub events-preserved : goal.events-preserved
events-preserved c = written_more _ _ _ _ _ _ _ _ c.events-test.true c.event-item.is c.events.invariant c.in_ok-put_event.ensures.bytes c.in_ok-put_event.ensures.fits

pub returns : goal.returns
returns c =
    let w = written_all _ _ _ _ _ _ c.events-test.false c.events.invariant in
    record { bytes = w.bytes; fits = w.fits }
