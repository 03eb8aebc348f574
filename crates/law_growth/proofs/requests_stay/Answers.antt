use Rattle.law_growth.proofs.requests_stay.Goals as goal
use Rattle.law_growth.proofs.Sent.{sent_grows, kept_were_sent}

pub returns-clause-grows : goal.returns-clause-grows
returns-clause-grows c = sent_grows

pub returns-clause-kept : goal.returns-clause-kept
returns-clause-kept c = kept_were_sent
