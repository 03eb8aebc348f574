-- The queries of the reads so far are held.
use Rattle.std.proofs.Common.{◌≡◌, drop}
use Rattle.spec_server.specs.Gates as gates
use Rattle.server_parts.proofs.holding.hold_ready.Given as goal

abbrev pub invariant-reads : goal.invariant-reads
invariant-reads l = gates.with_all_held l.gate (gates.ready_held l.readings (drop l.read-index l.reads)) ≡ gates.with_all_held l.initial.gate (gates.ready_held l.readings l.reads)
