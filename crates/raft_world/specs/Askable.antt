-- When a node of a cluster may be asked something, but for a candidacy in the greatest term.
use Rattle.std.specs.Prelude.{◌≡◌, ◌≢◌, ◌≤◌, ℕ, true, false, Option, Some, None}
use Rattle.ax_types.specs.declared.raft.RaftInput.{RaftInput}
use Rattle.ax_types.specs.declared.raft.RaftInput.TheVariants as input
use Rattle.spec_node.specs.Node as nodes
use Rattle.spec_cluster.specs.Cluster as clusters

abbrev pub IsAskable : nodes.Node → RaftInput → Type 0
IsAskable n (input.Elect clock) = nodes.is_leader n ≡ false
IsAskable n input.Beat = nodes.is_leader n ≡ true
IsAskable n (input.Append clock bodies) = nodes.is_leader n ≡ true
IsAskable n input.Read = nodes.is_leader n ≡ true
IsAskable n (input.Message from clock p) = (from ≢ n.ballot.me) × (from ≤ n.ballot.nodes)

-- a member that is there and up
abbrev pub IsAskableAt : Option clusters.Member → RaftInput → Type 0
IsAskableAt None i = ⊥
IsAskableAt (Some m) i = (m.is_up ≡ true) × IsAskable m.node i
