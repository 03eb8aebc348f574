use Rattle.std.proofs.Common.{refl}
use Rattle.spec_wire.specs.NumberBytes as number_bytes
use Rattle.rows_run.proofs.no_byte_short.Goals as goal

pub returns : goal.returns
unfolding number_bytes.u64_bytes number_bytes.i64_bytes
returns c = record { items = refl; history = refl }
