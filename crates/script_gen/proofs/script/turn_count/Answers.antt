use Rattle.std.proofs.Common.{refl}
use Rattle.spec_gen.specs.Generator as generators
use Rattle.script_gen.proofs.script.turn_count.Goals as goal

pub returns-clause-count : goal.returns-clause-count
unfolding generators.turn_count
returns-clause-count c = refl
