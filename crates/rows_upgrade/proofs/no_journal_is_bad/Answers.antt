use Rattle.std.proofs.Common.{refl}
use Rattle.spec_wire.specs.NumberBytes as number_bytes
use Rattle.rows_upgrade.proofs.no_journal_is_bad.Goals as goal

-- the offset is computed
pub returns : goal.returns
unfolding number_bytes.u64_bytes
returns c = refl
