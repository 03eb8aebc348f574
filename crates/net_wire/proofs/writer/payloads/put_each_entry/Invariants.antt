use Rattle.std.proofs.Common.{take}
use Rattle.spec_wire.specs.Spelling as spelling
use Rattle.spec_wire.specs.Ranges as ranges
use Rattle.net_wire.proofs.Loops.{Written}
use Rattle.net_wire.proofs.writer.payloads.put_each_entry.Given as goal

abbrev pub invariant-entries : goal.invariant-entries
invariant-entries l = Written spelling.entry_bytes ranges.FitsEntry l.initial.out.items l.out.items (take l.entry-index l.entries)
