use Rattle.law_sessions.proofs.state_tells_fold.Goals as goal
use Rattle.law_sessions.proofs.Telling.{state_tells_fold, entry_gives_fold}

pub returns : goal.returns
returns c = record { state = state_tells_fold; entry = entry_gives_fold }
