use Rattle.law_requests.proofs.requests_say_calls.Goals as goal
use Rattle.law_requests.proofs.Requests.{requests_say_calls}

pub returns : goal.returns
returns c = requests_say_calls
