use Rattle.law_requests.proofs.own_items_are_of_own_sessions.Goals as goal
use Rattle.law_requests.proofs.Requests.{own_items_are_of_own_sessions}

pub returns : goal.returns
returns c = own_items_are_of_own_sessions
