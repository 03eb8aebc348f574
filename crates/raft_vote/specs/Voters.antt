-- What a ballot keeps: the node is one of the cluster's, and each that voted for it counts once.
use Rattle.std.specs.Prelude.{◌≡◌, ℕ, ◌≤◌, List, take}
use Rattle.ax_types.specs.declared.limits.TheConstants.{MAX_NODES}
use Rattle.spec_raft.specs.Majority as majorities

pub record IsBallot (me nodes voter_count : ℕ) (voters : List ℕ) : Type 0 where
  pub member : me ≤ nodes
  pub within : nodes ≤ MAX_NODES
  pub small : voter_count ≤ MAX_NODES
  -- as many voted as nodes of the cluster are among those that voted
  pub each_once : majorities.count (majorities.is_in (take voter_count voters)) (majorities.cluster_of nodes) ≡ voter_count
