use Rattle.rows_run.proofs.InstanceStores as stores
use Rattle.rows_run.proofs.history_is_left.Goals as goal

pub returns : goal.returns
returns c = stores.left_of
