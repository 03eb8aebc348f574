use Rattle.law_audit_tables.proofs.OutcomeWalk as outcome_walk
use Rattle.law_audit_tables.proofs.outcomes_are_walked.Goals as goal

pub returns : goal.returns
returns c = outcome_walk.outcomes_are_walked
