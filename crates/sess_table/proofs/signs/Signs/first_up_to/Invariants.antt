use Rattle.std.proofs.Common.{◌≤◌, ◌-◌, length}
use Rattle.sess_table.specs.Signs as signs
use Rattle.sess_table.proofs.signs.Signs.first_up_to.Given as goal

abbrev pub invariant-passed : goal.invariant-passed
invariant-passed l = (l.from ≤ l.index) × signs.NoneUpTo l.limit l.self l.from l.index

abbrev pub decreases-passed : goal.decreases-passed
decreases-passed l = length l.self - l.index
