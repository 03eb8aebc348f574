use Rattle.std.proofs.Common.{◌≡◌, ◌-◌}
use Rattle.spec_reading.specs.Reading as reading
use Rattle.spec_reading.specs.ReadReplies as read_replies
use Rattle.net_wire.proofs.Loops.{with_front}
use Rattle.net_wire.proofs.reader.Reader.read_counted_events.Given as goal

abbrev pub invariant-events : goal.invariant-events
invariant-events l = with_front l.events (reading.many_at read_replies.event_at (l.count - l.counter) l.self) ≡ reading.many_at read_replies.event_at l.count l.initial.self
