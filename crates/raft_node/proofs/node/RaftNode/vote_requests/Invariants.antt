use Rattle.std.proofs.Common.{◌≡◌, ◌++◌, length}
use Rattle.std.specs.Prelude.{map}
use Rattle.spec_node.specs.Node as nodes
use Rattle.raft_node.specs.StepOutcomes as outcomes
use Rattle.raft_node.proofs.node.RaftNode.vote_requests.Given as goal

abbrev pub invariant-others : goal.invariant-others
invariant-others l = l.packets ++ map (outcomes.vote_request l.self) l.others ≡ map (outcomes.vote_request l.self) (nodes.each_other l.self)

abbrev pub decreases-others : goal.decreases-others
decreases-others l = length l.others
