use Rattle.std.proofs.Common.{refl}
use Rattle.rows_run.proofs.answer_is_true.Goals as goal

pub returns : goal.returns
returns c = (refl, refl, refl)
