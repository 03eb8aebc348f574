use Rattle.law_headline.proofs.runs_go_on.Goals as goal
use Rattle.law_headline.proofs.HeadlineRuns.{run_begins, run_goes_on}

pub returns-clause-begin : goal.returns-clause-begin
returns-clause-begin c = run_begins

pub returns-clause-go_on : goal.returns-clause-go_on
returns-clause-go_on c = run_goes_on
