use Rattle.law_audit_tables.proofs.Waiting as waiting
use Rattle.law_audit_tables.proofs.waiting_is_told.Goals as goal

pub returns : goal.returns
returns c = waiting.waiting_is_told
