use Rattle.law_headline.proofs.scripts_end.Goals as goal
use Rattle.law_headline.proofs.HeadlineRuns.{script_ends}

pub returns : goal.returns
returns c = script_ends
