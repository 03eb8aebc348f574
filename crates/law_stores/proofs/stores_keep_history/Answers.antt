use Rattle.law_stores.proofs.stores_keep_history.Goals as goal
use Rattle.law_stores.proofs.Held.{stores_keep_history, newest_begins_history}

pub returns-clause-kept : goal.returns-clause-kept
returns-clause-kept c = stores_keep_history

pub returns-clause-left : goal.returns-clause-left
returns-clause-left c = newest_begins_history
