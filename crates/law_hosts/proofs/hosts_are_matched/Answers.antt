use Rattle.law_hosts.proofs.hosts_are_matched.Goals as goal
use Rattle.law_hosts.proofs.Matched.{hosts_are_matched}

pub returns : goal.returns
returns c = hosts_are_matched
