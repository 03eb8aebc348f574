use Rattle.std.proofs.Common.{◌≡◌, false}
use Rattle.raft_tests.proofs.schedules.flush.Given as goal

abbrev pub invariant-packets : goal.invariant-packets
invariant-packets l = l.world.is_spent ≡ false
