-- The role of a node, as the definitions have it.
use Rattle.raft_node.specs.declared.node.Role.{Role}
use Rattle.raft_node.specs.declared.node.Role.TheVariants as role
use Rattle.spec_node.specs.Node as nodes

abbrev pub role_of : Role → nodes.Role
role_of role.Follower = nodes.Follower
role_of role.Candidate = nodes.Candidate
role_of role.Leader = nodes.Leader
