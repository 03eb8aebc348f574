use Rattle.std.proofs.Common.{◌≡◌, ◌++◌, length}
use Rattle.std.specs.Prelude.{map}
use Rattle.spec_node.specs.Node as nodes
use Rattle.raft_node.proofs.node.RaftNode.sent_to_others.Given as goal

abbrev pub invariant-others : goal.invariant-others
invariant-others l = l.packets ++ map (nodes.sent_to l.self) l.others ≡ map (nodes.sent_to l.self) (nodes.each_other l.self)

abbrev pub decreases-others : goal.decreases-others
decreases-others l = length l.others
