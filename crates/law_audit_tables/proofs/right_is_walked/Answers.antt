use Rattle.law_audit_tables.proofs.RightWalk as proof
use Rattle.law_audit_tables.proofs.right_is_walked.Goals as goal

pub returns : goal.returns
returns c = proof.right_by_session
