use Rattle.std.proofs.Common.{refl}
use Rattle.std.specs.Fmt.{digits}
use Rattle.spec_gen.specs.Generator as generators
use Rattle.rows_gen.proofs.first_turns.Goals as goal

pub returns-clause-first : goal.returns-clause-first
unfolding generators.turn_count digits
returns-clause-first c = refl

pub returns-clause-second : goal.returns-clause-second
unfolding generators.turn_count digits
returns-clause-second c = refl

pub returns-clause-third : goal.returns-clause-third
unfolding generators.turn_count digits
returns-clause-third c = refl
