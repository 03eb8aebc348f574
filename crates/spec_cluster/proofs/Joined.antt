-- Steps of a cluster and then more steps.
use Rattle.std.proofs.Common.{◌≡◌, List, [], ◌∷◌, ◌++◌, refl}
use Rattle.ax_types.specs.declared.raft.RaftStep.{RaftStep}
use Rattle.spec_cluster.specs.Cluster as clusters

pub all_happened-append : (c : clusters.Cluster) (steps later : List RaftStep) → clusters.all_happened c (steps ++ later) ≡ clusters.all_happened (clusters.all_happened c steps) later
all_happened-append c [] later = refl
all_happened-append c (s ∷ steps) later = all_happened-append (clusters.happened c s) steps later
