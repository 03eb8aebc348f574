-- The terms so far, and then those to come.
use Rattle.std.proofs.Common.{◌≡◌, ◌-◌, ◌++◌, length}
use Rattle.std.specs.Prelude.{replicate}
use Rattle.spec_cluster.specs.Cluster as clusters
use Rattle.raft_world.proofs.gains.commit_terms.Given as goal

abbrev pub invariant-places : goal.invariant-places
invariant-places l = l.terms ++ replicate (l.node.commit - length l.terms) l.node.ballot.term ≡ clusters.terms_so_far l.initial.terms l.node

abbrev pub decreases-places : goal.decreases-places
decreases-places l = l.node.commit - length l.terms
