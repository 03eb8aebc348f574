use Rattle.std.proofs.Common.{refl}
use Rattle.rows_run.proofs.one_add.Goals as goal

pub returns : goal.returns
returns c = record { items = refl; history = refl }
