use Rattle.rows_window.proofs.Agreed as proofs
use Rattle.rows_window.proofs.one_call_is_agreed.Goals as goal

pub returns : goal.returns
returns c = proofs.agreed
