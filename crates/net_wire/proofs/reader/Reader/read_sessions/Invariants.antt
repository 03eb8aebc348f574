use Rattle.std.proofs.Common.{◌≡◌, ◌-◌}
use Rattle.spec_reading.specs.Reading as reading
use Rattle.net_wire.proofs.Loops.{with_front}
use Rattle.net_wire.proofs.reader.Reader.read_sessions.Given as goal

abbrev pub invariant-sessions : goal.invariant-sessions
invariant-sessions l = with_front l.sessions (reading.many_at reading.u64_at (l.count - l.counter) l.self) ≡ reading.many_at reading.u64_at l.count l.initial.self
