use Rattle.law_handed.proofs.faithful_runs_hand_once.Goals as goal
use Rattle.law_handed.proofs.Replies.{hand_once}

pub returns : goal.returns
returns c = hand_once
