use Rattle.std.proofs.Common.{◌≡◌, false}
use Rattle.raft_tests.proofs.schedules.deliver.Given as goal

abbrev pub invariant-numbers : goal.invariant-numbers
invariant-numbers l = l.world.is_spent ≡ false
