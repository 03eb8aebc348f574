-- The members of a cluster, kept as two lists: which are up, and the nodes.
use Rattle.std.specs.Prelude.{ℕ, Bool, true, ◌&&◌, Option, Some, None, List, [], ◌∷◌, if◌then◌else◌}
use Rattle.spec_node.specs.Node as nodes
use Rattle.spec_cluster.specs.Cluster as clusters

abbrev pub members_of : List Bool → List nodes.Node → List clusters.Member
members_of [] ns = []
members_of (u ∷ us) [] = []
members_of (u ∷ us) (n ∷ ns) = record { is_up = u; node = n } ∷ members_of us ns

-- the node of a member that is there and up
abbrev pub node_up : Option clusters.Member → Option nodes.Node
node_up None = None
node_up (Some m) = if m.is_up then Some m.node else None

-- a node that lost all but what it keeps
abbrev pub restarted_now : nodes.Node → nodes.Node
restarted_now n = nodes.restarted n.ballot.me n.ballot.nodes (nodes.kept_of n)

-- a member that is up goes down, and one that is down comes up
abbrev pub fallen : clusters.Member → clusters.Member
fallen m = if m.is_up then clusters.fallen_member m.node (nodes.kept_of m.node) else m

abbrev pub risen : clusters.Member → clusters.Member
risen m = if m.is_up then m else record { is_up = true; node = restarted_now m.node }

-- the term that a member leads, where it is there, up and a leader
abbrev pub term_led : Option clusters.Member → Option ℕ
term_led None = None
term_led (Some m) = if m.is_up && nodes.is_leader m.node then Some m.node.ballot.term else None
