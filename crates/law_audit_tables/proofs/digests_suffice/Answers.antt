use Rattle.law_audit_tables.proofs.SessionDigests as proof
use Rattle.law_audit_tables.proofs.digests_suffice.Goals as goal

pub returns : goal.returns
returns c = proof.digests_suffice
