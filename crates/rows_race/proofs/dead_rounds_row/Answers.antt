use Rattle.std.proofs.Common.{refl}
use Rattle.spec_race.specs.Race as races
use Rattle.rows_race.proofs.dead_rounds_row.Goals as goal

pub returns-clause-steps : goal.returns-clause-steps
unfolding races.most_dead
returns-clause-steps c = refl

pub returns-clause-told : goal.returns-clause-told
returns-clause-told c = refl
