use Rattle.std.proofs.Common.{refl}
use Rattle.rows_run.proofs.watched.Goals as goal

pub returns : goal.returns
returns c = record { items = refl; history = refl }
