-- The laws of reads (Ongaro 2014, 6.4), of a cluster as it stands.
use Rattle.std.specs.Prelude.{◌≡◌, ℕ, ◌≤◌, List, Some, length, map, filter, nat_eq}
use Rattle.ax_types.specs.Places as lists
use Rattle.spec_cluster.specs.Cluster as clusters

-- a read that was given was taken by the same node in the same term under the same number, and its place is at least every place
-- that was committed anywhere when it was taken
pub record SeesCommitted (takens : List clusters.ReadTaken) (g : clusters.ReadGiven) : Type 0 where
  pub position : ℕ
  pub taken : clusters.ReadTaken
  pub is_there : lists.at_place takens position ≡ Some taken
  pub node : taken.node ≡ g.node
  pub term : taken.term ≡ g.term
  pub arrival : taken.arrival ≡ g.arrival
  pub place : taken.place ≡ g.place
  pub fresh : taken.committed ≤ g.place

abbrev pub ReadsAreFresh : ℕ → clusters.Cluster → Type 0
ReadsAreFresh n c = (i : ℕ) (g : clusters.ReadGiven) → lists.at_place c.givens i ≡ Some g → SeesCommitted c.takens g

-- no two reads of one term have one number
abbrev pub ReadsDiffer : ℕ → clusters.Cluster → Type 0
ReadsDiffer n c = (i j : ℕ) (x y : clusters.ReadTaken) → lists.at_place c.takens i ≡ Some x → lists.at_place c.takens j ≡ Some y → x.term ≡ y.term → x.arrival ≡ y.arrival → i ≡ j

-- the reads of a term, in the order in which they were taken
abbrev pub of_term : ℕ → List clusters.ReadTaken → List clusters.ReadTaken
of_term t takens = filter (λ x. nat_eq x.term t) takens

-- they are numbered 1, 2, 3, ..
abbrev pub ReadsAreNumbered : ℕ → clusters.Cluster → Type 0
ReadsAreNumbered n c = (t : ℕ) → map (λ x. x.arrival) (of_term t c.takens) ≡ lists.numbers_from 1 (length (of_term t c.takens))
