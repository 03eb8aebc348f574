use Rattle.std.proofs.Common.{refl}
use Rattle.rows_run.proofs.lock_and_map.Goals as goal

pub returns : goal.returns
returns c = record { items = refl; history = refl }
