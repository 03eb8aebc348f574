use Rattle.std.proofs.Common.{arith}
use Rattle.raft_node.proofs.Held.{commit_within}
use Rattle.raft_node.proofs.node.RaftNode.advance.Goals as goal

pub invariant_of-self : goal.invariant_of-self
invariant_of-self c = omega (arith, c.commit_place-self-inside.ensures, commit_within c.self.inside.leading.peers c.self.inside.log c.term.result c.self.inside.commit c.self.invariant)
