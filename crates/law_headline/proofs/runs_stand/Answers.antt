use Rattle.law_headline.proofs.runs_stand.Goals as goal
use Rattle.law_headline.proofs.HeadlineRuns.{run_stands, step_stands}

pub returns-clause-run : goal.returns-clause-run
returns-clause-run c = run_stands

pub returns-clause-step : goal.returns-clause-step
returns-clause-step c = step_stands
