use Rattle.law_audit_tables.proofs.HeardWalk as heard_walk
use Rattle.law_audit_tables.proofs.heard_is_walked.Goals as goal

pub returns : goal.returns
returns c = heard_walk.heard_is_walked
