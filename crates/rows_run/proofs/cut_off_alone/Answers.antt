use Rattle.std.proofs.Common.{refl}
use Rattle.rows_run.proofs.cut_off_alone.Goals as goal

pub returns : goal.returns
returns c = record { items = refl; history = refl }
