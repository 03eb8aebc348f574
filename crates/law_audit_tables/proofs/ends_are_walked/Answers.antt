use Rattle.law_audit_tables.proofs.EndWalk as end_walk
use Rattle.law_audit_tables.proofs.ends_are_walked.Goals as goal

pub returns : goal.returns
returns c = end_walk.ends_are_walked
