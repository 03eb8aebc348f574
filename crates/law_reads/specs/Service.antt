-- What the law of reads remembers: the rounds of each term and who answered them, and of each read who was above its term.
use Rattle.std.specs.Prelude.{◌≡◌, ◌≢◌, ◌⊎◌, ℕ, ◌≤◌, ◌<◌, Bool, true, List, [], Some, length, map}
use Rattle.ax_types.specs.Places as lists
use Rattle.ax_types.specs.declared.ids.End.{End}
use Rattle.ax_types.specs.declared.ids.End.TheVariants as end
use Rattle.ax_types.specs.declared.packets.Packet.{Packet}
use Rattle.ax_types.specs.declared.packets.Payload.{Payload}
use Rattle.ax_types.specs.declared.packets.Payload.TheVariants as payload
use Rattle.spec_raft.specs.Majority as majorities
use Rattle.spec_raft.specs.Log as logs
use Rattle.spec_raft.specs.Progress as progress
use Rattle.spec_node.specs.Node as nodes
use Rattle.spec_cluster.specs.Cluster as clusters
use Rattle.spec_transitions.specs.Systems as systems
use Rattle.spec_past.specs.Matching as matchings
use Rattle.spec_past.specs.Past as pasts
use Rattle.law_agreement.specs.Pasts as agreement_pasts
use Rattle.law_reads.specs.Reads as laws

-- a read, and the nodes whose term was above its own when it was taken
pub record Read : Type 0 where
  pub taken : clusters.ReadTaken
  pub above : ℕ → Bool

pub record Service : Type 0 where
  -- the term whose leader last made the committed entries longer
  pub by : ℕ
  -- the round of the leader of each term, and the greatest that each node has answered in it
  pub rounds : ℕ → ℕ
  pub answered : ℕ → ℕ → ℕ
  pub reads : List Read

-- a read is not older than what was committed, or a majority was above its term; who has answered its round was not
pub record IsGood (n : ℕ) (w : pasts.Past) (x : Service) (r : Read) : Type 0 where
  pub higher : (k : ℕ) → r.above k ≡ true → r.taken.term < pasts.term w k
  pub apart : (k : ℕ) → r.taken.round ≤ x.answered r.taken.term k → r.above k ≡ true → ⊥
  pub enough : (r.taken.committed ≤ r.taken.place) ⊎ matchings.IsMost r.above (majorities.cluster_of n)
  pub led : w.poll.led r.taken.term ≡ true
  pub leader : w.poll.leader r.taken.term ≡ r.taken.node
  pub self : r.above r.taken.node ≡ true → ⊥
  pub later : 1 ≤ r.taken.round

-- a read that waits at node j in a term was taken there
pub record IsWaiting (takens : List clusters.ReadTaken) (j t : ℕ) (r : progress.Waiting) : Type 0 where
  pub position : ℕ
  pub taken : clusters.ReadTaken
  pub is_there : lists.at_place takens position ≡ Some taken
  pub node : taken.node ≡ j
  pub term : taken.term ≡ t
  pub arrival : taken.arrival ≡ r.number
  pub place : taken.place ≡ r.place
  pub round : taken.round ≡ r.round

-- node j, a leader, serves reads
pub record IsServer (x : Service) (takens : List clusters.ReadTaken) (j : ℕ) (y : nodes.Node) : Type 0 where
  pub round : y.leading.round ≡ x.rounds y.ballot.term
  pub first : y.leading.first ≤ length y.log
  pub own : logs.term_at y.log y.leading.first ≡ y.ballot.term
  pub acked : agreement_pasts.Each (λ p. p.acked ≤ x.answered y.ballot.term p.node) y.leading.peers
  pub waiting : agreement_pasts.Each (IsWaiting takens j y.ballot.term) y.leading.reads
  pub arrived : length (laws.of_term y.ballot.term takens) ≡ y.leading.arrivals
  pub below : (k : ℕ) (t : clusters.ReadTaken) → lists.at_place takens k ≡ Some t → t.term ≡ y.ballot.term → t.arrival ≤ y.leading.arrivals

-- member j, where so many places are committed
pub record IsServing (x : Service) (takens : List clusters.ReadTaken) (committed j : ℕ) (m : clusters.Member) : Type 0 where
  pub server : agreement_pasts.role_number m.node.role ≡ 2 → IsServer x takens j m.node
  pub idle : agreement_pasts.role_number m.node.role ≢ 2 → m.node.leading.reads ≡ []
  pub mine : agreement_pasts.role_number m.node.role ≡ 2 → x.by ≡ m.node.ballot.term → committed ≤ m.node.commit

-- what a packet from node j says of rounds
abbrev pub SaysRound : Service → ℕ → Payload → Type 0
SaysRound x j (payload.Append t prev prev_term commit round es) = round ≤ x.rounds t
SaysRound x j (payload.AppendReply t ok place round) = round ≤ x.answered t j
SaysRound x j p = Unit {0}

abbrev pub HoldsRound : Service → End → Payload → Type 0
HoldsRound x (end.Node j) p = SaysRound x j p
HoldsRound x (end.Client c) p = Unit {0}

pub record IsServiceOf (n : ℕ) (s : systems.System) (w : pasts.Past) (x : Service) : Type 0 where
  pub latest : (length w.committed ≡ 0) ⊎ matchings.Quorum (majorities.cluster_of n) w.leader_log w.acked x.by (length w.committed)
  pub members : (k : ℕ) (m : clusters.Member) → lists.at_place s.cluster.members k ≡ Some m → IsServing x s.cluster.takens (length s.cluster.committed) k m
  pub within : (t k : ℕ) → x.answered t k ≤ x.rounds t
  pub begun : (t : ℕ) → x.rounds t ≢ 0 → w.poll.led t ≡ true
  pub good : agreement_pasts.Each (IsGood n w x) x.reads
  pub takens : map (λ r. r.taken) x.reads ≡ s.cluster.takens
  pub packets : (p : Packet) → systems.Among p s.sent → HoldsRound x p.«from» p.payload
  pub numbered : laws.ReadsAreNumbered n s.cluster
  pub once : laws.ReadsDiffer n s.cluster
  pub givens : laws.ReadsAreFresh n s.cluster
