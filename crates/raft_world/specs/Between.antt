-- What a step needs of a cluster: its nodes have their numbers, and its packets go between them.
use Rattle.std.specs.Prelude.{◌≡◌, ◌≢◌, ℕ, ◌≤◌, Some, List, ◌++◌, length}
use Rattle.std.specs.List.{AllByRecursion}
use Rattle.ax_types.specs.Places as lists
use Rattle.ax_types.specs.declared.entries.Entry.{Entry}
use Rattle.ax_types.specs.declared.ids.End.{End}
use Rattle.ax_types.specs.declared.ids.End.TheVariants as end
use Rattle.ax_types.specs.declared.raft.NodeInput.{NodeInput}
use Rattle.spec_node.specs.Node as raft_nodes
use Rattle.spec_cluster.specs.Bag as bags
use Rattle.spec_cluster.specs.Cluster as clusters

-- a packet between nodes comes from another one of this many
abbrev pub IsBetween : ℕ → End → End → Type 0
IsBetween nodes (end.Node j) (end.Node k) = (j ≢ k) × (j ≤ nodes)
IsBetween nodes a b = Unit {0}

abbrev pub IsPassed : ℕ → bags.KeptPacket → Type 0
IsPassed nodes s = IsBetween nodes s.packet.«from» s.packet.to

-- a node has this number, in a cluster of so many
pub record IsNamed (number nodes : ℕ) (n : raft_nodes.Node) : Type 0 where
  pub me : n.ballot.me ≡ number
  pub size : n.ballot.nodes ≡ nodes

pub record IsJoined (nodes : ℕ) (c : clusters.Cluster) : Type 0 where
  pub long : length c.members ≡ nodes
  pub members : (k : ℕ) (m : clusters.Member) → lists.at_place c.members k ≡ Some m → IsNamed k nodes m.node
  pub packets : AllByRecursion (IsPassed nodes) c.bag.kept

-- entries are others, and then more of them
abbrev pub GrowsAtEnd : List Entry → List Entry → Type 0
GrowsAtEnd old new = (rest : List Entry) × (new ≡ old ++ rest)

-- and each input that is taken only adds to what is committed
pub record IsRunnable (nodes : ℕ) (c : clusters.Cluster) : Type 0 where
  pub joined : IsJoined nodes c
  pub grows : (i : NodeInput) → GrowsAtEnd c.committed (clusters.made_intake c (clusters.intake c i)).committed
