use Rattle.law_hosts.proofs.committed_stays.Goals as goal
use Rattle.law_hosts.proofs.Applied.{committed_stays, committed_times_rise}

pub returns-clause-grows : goal.returns-clause-grows
returns-clause-grows c = committed_stays

pub returns-clause-times : goal.returns-clause-times
returns-clause-times c = committed_times_rise
