use Rattle.std.proofs.Common.{refl}
use Rattle.rows_run.proofs.part_kept.Goals as goal

pub returns : goal.returns
returns c = record { items = refl; history = refl }
