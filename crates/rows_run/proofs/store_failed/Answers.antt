use Rattle.std.proofs.Common.{refl}
use Rattle.rows_run.proofs.store_failed.Goals as goal

pub returns : goal.returns
returns c = record { items = refl; history = refl }
