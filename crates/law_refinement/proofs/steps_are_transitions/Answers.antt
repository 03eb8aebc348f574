use Rattle.law_refinement.proofs.steps_are_transitions.Goals as goal
use Rattle.law_refinement.proofs.Steps.{steps_execute, run_executes}

pub returns-clause-steps : goal.returns-clause-steps
returns-clause-steps c = steps_execute

pub returns-clause-run : goal.returns-clause-run
returns-clause-run c = run_executes
