use Rattle.law_audit_tables.proofs.Found as proof
use Rattle.law_audit_tables.proofs.verdict_is_found.Goals as goal

pub returns : goal.returns
returns c = proof.verdict_is_found
