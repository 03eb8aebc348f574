use Rattle.std.proofs.Common.{take}
use Rattle.spec_wire.specs.OperationBytes as operation_bytes
use Rattle.spec_wire.specs.Ranges as ranges
use Rattle.net_wire.proofs.Loops.{Written}
use Rattle.net_wire.proofs.writer.payloads.put_each_event.Given as goal

abbrev pub invariant-events : goal.invariant-events
invariant-events l = Written operation_bytes.event_bytes ranges.FitsEvent l.initial.out.items l.out.items (take l.event-index l.events)
