-- The read is not among those before.
use Rattle.std.proofs.Common.{◌≡◌, drop}
use Rattle.spec_server.specs.Gates as gates
use Rattle.server_parts.proofs.readings.is_given.Given as goal

abbrev pub invariant-reads : goal.invariant-reads
invariant-reads l = gates.is_given (drop l.read-index l.reads) l.arrival ≡ gates.is_given l.reads l.arrival
