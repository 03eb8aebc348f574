use Rattle.law_hosts.proofs.history_is_of_committed.Goals as goal
use Rattle.law_hosts.proofs.Applied.{history_is_of_committed, servers_have_applied}

pub returns-clause-history : goal.returns-clause-history
returns-clause-history c = history_is_of_committed

pub returns-clause-states : goal.returns-clause-states
returns-clause-states c = servers_have_applied
