-- The query of the read is not among those before.
use Rattle.std.proofs.Common.{◌≡◌, drop}
use Rattle.spec_server.specs.Gates as gates
use Rattle.server_parts.proofs.readings.Readings.reading_at.Given as goal

abbrev pub invariant-waiting : goal.invariant-waiting
invariant-waiting l = gates.reading (drop l.waiting-index l.waiting-items) l.arrival ≡ gates.reading l.waiting-items l.arrival
