use Rattle.std.proofs.Common.{refl}
use Rattle.rows_run.proofs.closed.Goals as goal

pub returns : goal.returns
returns c = record { items = refl; history = refl }
