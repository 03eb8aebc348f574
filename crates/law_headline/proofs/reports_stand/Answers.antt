use Rattle.law_headline.proofs.reports_stand.Goals as goal
use Rattle.law_headline.proofs.HeadlineRuns.{report_stands}

pub returns : goal.returns
returns c = report_stands
