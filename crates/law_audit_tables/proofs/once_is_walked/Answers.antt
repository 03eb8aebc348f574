use Rattle.law_audit_tables.proofs.OnceWalk as once_walk
use Rattle.law_audit_tables.proofs.once_is_walked.Goals as goal

pub returns : goal.returns
returns c = once_walk.once_is_walked
