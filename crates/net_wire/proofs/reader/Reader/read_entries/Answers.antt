use Rattle.spec_reading.specs.Packets as packets
use Rattle.net_wire.proofs.Loops.{goes_on}
use Rattle.net_wire.proofs.reader.Reader.read_entries.Goals as goal

pub entries-preserved : goal.entries-preserved
entries-preserved c =
    rw c.in_ok-push.ensures.ok (goes_on packets.entry_at c.entries.entries c.args.count c.entries.counter c.entries.self c.in_ok-read_entry.field-0 c.read_entry.new.self _ c.entries-test.true c.in_ok-read_entry.ensures c.entries.invariant)
