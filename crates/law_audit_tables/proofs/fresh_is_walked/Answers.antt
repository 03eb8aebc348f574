use Rattle.law_audit_tables.proofs.FreshWalk as proof
use Rattle.law_audit_tables.proofs.fresh_is_walked.Goals as goal

pub returns : goal.returns
returns c = proof.fresh_by_session
