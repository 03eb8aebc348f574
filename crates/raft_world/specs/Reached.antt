-- Where a cluster comes from: a list of steps from the beginning leads to it.
use Rattle.std.specs.Prelude.{◌≡◌, ℕ, Bool, List}
use Rattle.ax_types.specs.declared.raft.RaftStep.{RaftStep}
use Rattle.spec_cluster.specs.Cluster as clusters
use Rattle.law_origin.specs.Origin as origins

pub record IsRunOf (nodes : ℕ) (c : clusters.Cluster) : Type 0 where
  pub steps : List RaftStep
  pub leads_here : clusters.all_happened (clusters.new_cluster nodes) steps ≡ c

-- such steps, by which each entry is the blank of an election, or has a body that a leader of its term was asked to append
pub record HaveOrigin (nodes : ℕ) (c : clusters.Cluster) : Type 0 where
  pub steps : List RaftStep
  pub leads_here : clusters.all_happened (clusters.new_cluster nodes) steps ≡ c
  pub entries : origins.AllEntries (origins.HasOrigin nodes steps) c

-- a cluster of so many nodes, which is spent after want of memory
pub record OpenCluster : Type 0 where
  pub nodes : ℕ
  pub cluster : clusters.Cluster
  pub is_spent : Bool
