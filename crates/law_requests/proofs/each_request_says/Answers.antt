use Rattle.law_requests.proofs.each_request_says.Goals as goal
use Rattle.law_requests.proofs.Requests.{each_request_says}

pub returns : goal.returns
returns c = each_request_says
