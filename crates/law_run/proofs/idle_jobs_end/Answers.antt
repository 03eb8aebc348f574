use Rattle.law_run.proofs.idle_jobs_end.Goals as goal
use Rattle.law_run.proofs.Walks.{ends}

pub returns : goal.returns
returns c = ends
