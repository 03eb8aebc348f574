use Rattle.spec_reading.specs.Reading as reading
use Rattle.net_wire.proofs.Loops.{goes_on}
use Rattle.net_wire.proofs.reader.Reader.read_sessions.Goals as goal

pub sessions-preserved : goal.sessions-preserved
sessions-preserved c =
    rw c.in_ok-push.ensures.ok (goes_on reading.u64_at c.sessions.sessions c.args.count c.sessions.counter c.sessions.self c.in_ok-read_u64.field-0 c.read_u64.new.self _ c.sessions-test.true c.in_ok-read_u64.ensures c.sessions.invariant)
