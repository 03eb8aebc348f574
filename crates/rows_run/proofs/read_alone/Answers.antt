use Rattle.std.proofs.Common.{refl}
use Rattle.rows_run.proofs.read_alone.Goals as goal

pub returns : goal.returns
returns c = record { items = refl; history = refl }
