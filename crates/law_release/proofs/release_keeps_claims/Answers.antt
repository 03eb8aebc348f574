use Rattle.law_release.proofs.release_keeps_claims.Goals as goal
use Rattle.law_release.proofs.Releases.{keeps}

pub returns : goal.returns
returns c q = keeps q.heard q.seen q.read q.calls
