use Rattle.law_audit_tables.proofs.Signs as signs
use Rattle.law_audit_tables.proofs.signs_find_lawful.Goals as goal

pub returns : goal.returns
returns c = signs.signs_find_lawful
