use Rattle.std.proofs.Common.{refl}
use Rattle.spec_script.specs.Scripts as scripts
use Rattle.rows_script.proofs.node_outside_the_cluster.Goals as goal

pub returns : goal.returns
unfolding scripts.longest_script scripts.is_too_long
returns c = refl
