use Rattle.std.proofs.Common.{◌≡◌, ◌-◌}
use Rattle.spec_reading.specs.Reading as reading
use Rattle.spec_reading.specs.Packets as packets
use Rattle.net_wire.proofs.Loops.{with_front}
use Rattle.net_wire.proofs.reader.Reader.read_entries.Given as goal

abbrev pub invariant-entries : goal.invariant-entries
invariant-entries l = with_front l.entries (reading.many_at packets.entry_at (l.count - l.counter) l.self) ≡ reading.many_at packets.entry_at l.count l.initial.self
