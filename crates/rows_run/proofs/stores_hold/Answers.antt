use Rattle.std.proofs.Common.{refl, rules}
use Rattle.rows_run.proofs.stores_hold.Goals as goal

pub returns : goal.returns
returns c = (record { added = 0; within = search rules; same = refl }, tt)
