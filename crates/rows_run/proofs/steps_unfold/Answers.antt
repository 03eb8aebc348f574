use Rattle.std.proofs.Common.{◌≤◌, inl, length, refl, rules}
use Rattle.spec_run.specs.Run as runs
use Rattle.rows_run.specs.Instances as instances
use Rattle.rows_run.proofs.steps_unfold.Goals as goal

few : length instances.steps ≤ runs.most_steps
unfolding runs.most_steps
few = search rules

pub returns : goal.returns
returns c = record { fared = refl; same = refl; within = few; whole = inl refl }
