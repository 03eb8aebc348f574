-- What is committed so far begins what will be.
use Rattle.std.proofs.Common.{◌-◌, length}
use Rattle.raft_world.proofs.Gaining.{IsOnTheWay}
use Rattle.raft_world.proofs.gains.commit_entries.Given as goal

abbrev pub invariant-places : goal.invariant-places
invariant-places l = IsOnTheWay l.initial.committed l.committed l.node

abbrev pub decreases-places : goal.decreases-places
decreases-places l = l.node.commit - length l.committed
