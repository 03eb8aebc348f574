use Rattle.std.proofs.Common.{refl}
use Rattle.spec_wire.specs.NumberBytes as number_bytes
use Rattle.spec_reading.specs.Reading as reading
use Rattle.spec_reading.specs.ReadOperations as read_operations
use Rattle.spec_reading.specs.Packets as packets
use Rattle.rows_reading.proofs.command_row.Goals as goal

pub returns-clause-spelled : goal.returns-clause-spelled
unfolding number_bytes.u64_bytes number_bytes.i64_bytes
returns-clause-spelled c = refl

pub returns-clause-read : goal.returns-clause-read
unfolding packets.payload_at reading.u64_at reading.i64_at reading.counted_at reading.letters_at read_operations.op_at read_operations.long_op_at
returns-clause-read c = refl
