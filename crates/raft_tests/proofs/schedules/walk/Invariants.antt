use Rattle.std.proofs.Common.{◌≡◌, false}
use Rattle.raft_tests.proofs.schedules.walk.Given as goal

abbrev pub invariant-rows : goal.invariant-rows
invariant-rows g l = l.world.is_spent ≡ false
