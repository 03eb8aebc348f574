use Rattle.law_told.proofs.payloads_stay_true.Goals as goal
use Rattle.law_told.proofs.Staying.{payloads_stay_true}

pub returns : goal.returns
returns c = payloads_stay_true
