use Rattle.law_race.proofs.races_are_faithful.Goals as goal
use Rattle.law_race.proofs.Groups.{races_are_faithful}

pub returns : goal.returns
returns c = races_are_faithful
