use Rattle.law_audit_tables.proofs.Turns as turns
use Rattle.law_audit_tables.proofs.turns_are_given.Goals as goal

pub returns : goal.returns
returns c = turns.turns_are_given
