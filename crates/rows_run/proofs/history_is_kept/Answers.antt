use Rattle.rows_run.proofs.InstanceStores as stores
use Rattle.rows_run.proofs.history_is_kept.Goals as goal

pub returns : goal.returns
returns c = stores.kept_at
