use Rattle.std.proofs.Common.{refl}
use Rattle.spec_race.specs.Race as races
use Rattle.rows_race.proofs.one_caller_row.Goals as goal

pub returns-clause-setup : goal.returns-clause-setup
returns-clause-setup c = refl

pub returns-clause-starts : goal.returns-clause-starts
returns-clause-starts c = refl

pub returns-clause-round : goal.returns-clause-round
unfolding races.most_dead
returns-clause-round c = refl

pub returns-clause-told : goal.returns-clause-told
returns-clause-told c = refl
