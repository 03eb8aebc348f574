-- The reads so far are given.
use Rattle.std.proofs.Common.{◌≡◌, ◌++◌}
use Rattle.spec_cluster.specs.Cluster as clusters
use Rattle.raft_world.proofs.gains.keep_givens.Given as goal

abbrev pub invariant-reads : goal.invariant-reads
invariant-reads l = l.givens ≡ l.initial.givens ++ clusters.given_by l.number l.node l.yielded
