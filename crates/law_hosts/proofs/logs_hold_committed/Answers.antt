use Rattle.law_hosts.proofs.logs_hold_committed.Goals as goal
use Rattle.law_hosts.proofs.Applied.{logs_hold_committed}

pub returns : goal.returns
returns c = logs_hold_committed
