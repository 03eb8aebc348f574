use Rattle.law_audit_tables.proofs.ReadWalk as read_walk
use Rattle.law_audit_tables.proofs.reads_are_walked.Goals as goal

pub returns : goal.returns
returns c = read_walk.reads_are_walked
