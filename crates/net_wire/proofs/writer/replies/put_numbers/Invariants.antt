use Rattle.std.proofs.Common.{take}
use Rattle.spec_wire.specs.NumberBytes as number_bytes
use Rattle.spec_wire.specs.Ranges as ranges
use Rattle.net_wire.proofs.Loops.{Written}
use Rattle.net_wire.proofs.writer.replies.put_numbers.Given as goal

abbrev pub invariant-numbers : goal.invariant-numbers
invariant-numbers l = Written number_bytes.u64_bytes ranges.IsNumber l.initial.out.items l.out.items (take l.number-index l.numbers)
