use Rattle.spec_reading.specs.ReadReplies as read_replies
use Rattle.net_wire.proofs.Loops.{goes_on}
use Rattle.net_wire.proofs.reader.Reader.read_counted_events.Goals as goal

pub events-preserved : goal.events-preserved
events-preserved c =
    rw c.in_ok-push.ensures.ok (goes_on read_replies.event_at c.events.events c.args.count c.events.counter c.events.self c.in_ok-read_event.field-0 c.read_event.new.self _ c.events-test.true c.in_ok-read_event.ensures c.events.invariant)
