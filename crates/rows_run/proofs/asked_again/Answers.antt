use Rattle.std.proofs.Common.{refl}
use Rattle.rows_run.proofs.asked_again.Goals as goal

pub returns : goal.returns
returns c = record { items = refl; history = refl }
