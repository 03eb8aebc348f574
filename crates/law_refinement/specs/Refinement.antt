-- Each step of a cluster is a list of transitions that may happen, so that what every transition keeps every step keeps.
use Rattle.std.specs.Prelude.{◌≡◌, ◌≢◌, ℕ, List}
use Rattle.std.specs.List.{AllByRecursion}
use Rattle.ax_types.specs.declared.raft.RaftStep.{RaftStep}
use Rattle.spec_node.specs.Node as nodes
use Rattle.spec_cluster.specs.Cluster as clusters
use Rattle.spec_transitions.specs.Systems as systems
use Rattle.spec_transitions.specs.Transitions as transitions

-- the bag keeps only packets that were sent
abbrev pub KeepsSent : systems.System → Type 0
KeepsSent s = AllByRecursion (λ k. systems.Among k.packet s.sent) s.cluster.bag.kept

-- a node does not count itself among the others
abbrev pub KnowsOthers : nodes.Node → Type 0
KnowsOthers n = AllByRecursion (λ p. p.node ≢ n.ballot.me) n.leading.peers

-- what every transition keeps, and a step needs
pub record IsOrderly (s : systems.System) : Type 0 where
  pub sent : KeepsSent s
  pub others : AllByRecursion (λ m. KnowsOthers m.node) s.cluster.members

-- transitions that may happen, one after the other, from a system to a cluster
pub record Execution (s : systems.System) (c : clusters.Cluster) : Type 0 where
  pub list : List transitions.Transition
  pub may : transitions.AllMay s list
  pub ends : (transitions.after_transitions s list).cluster ≡ c
  pub orderly : IsOrderly (transitions.after_transitions s list)

-- steps, made or halted, one or many
abbrev pub StepsAreExecution : Type 0
StepsAreExecution = (s : systems.System) (steps : List RaftStep) → IsOrderly s → Execution s (clusters.all_happened s.cluster steps)

-- and all of them from the beginning
abbrev pub RunIsExecution : Type 0
RunIsExecution = (n : ℕ) (steps : List RaftStep) → Execution (systems.new_system n) (clusters.all_happened (clusters.new_cluster n) steps)
