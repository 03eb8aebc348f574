-- The laws of agreement (Ongaro 2014, figure 3.2), of a cluster of n nodes as it stands.
use Rattle.std.specs.Prelude.{◌≡◌, ℕ, ◌≤◌, Bool, true, List, ◌++◌, Some, length, take}
use Rattle.ax_types.specs.Places as lists
use Rattle.ax_types.specs.declared.entries.Entry.{Entry}
use Rattle.ax_types.specs.declared.raft.RaftStep.{RaftStep}
use Rattle.spec_raft.specs.Majority as counts
use Rattle.spec_raft.specs.Log as logs
use Rattle.spec_node.specs.Node as nodes
use Rattle.spec_cluster.specs.Cluster as clusters

-- node j, up or down, as it is kept
abbrev pub IsMember : clusters.Cluster → ℕ → clusters.Member → Type 0
IsMember c j m = lists.at_place c.members j ≡ Some m

-- node j is up and leads
abbrev pub IsLeader : clusters.Cluster → ℕ → nodes.Node → Type 0
IsLeader c j x = IsMember c j (record { is_up = true; node = x }) × (nodes.is_leader x ≡ true)

-- the first p entries of a log are those that are committed
abbrev pub BeginsAs : List Entry → clusters.Cluster → ℕ → Type 0
BeginsAs g c p = (p ≤ length g) × (p ≤ length c.committed) × (take p g ≡ take p c.committed)

-- these nodes are more than half of all
abbrev pub IsMajority : ℕ → (ℕ → Bool) → Type 0
IsMajority n some = counts.is_most (counts.count some (counts.cluster_of n)) n ≡ true

-- Election safety: no two nodes lead one term
abbrev pub OneLeads : ℕ → clusters.Cluster → Type 0
OneLeads n c = (i j : ℕ) (a b : nodes.Node) → IsLeader c i a → IsLeader c j b → a.ballot.term ≡ b.ballot.term → i ≡ j

-- and no term is led twice
abbrev pub LedOnce : ℕ → clusters.Cluster → Type 0
LedOnce n c = (i j : ℕ) (x y : clusters.Led) → lists.at_place c.leds i ≡ Some x → lists.at_place c.leds j ≡ Some y → x.term ≡ y.term → i ≡ j

-- Log matching: logs with one term at a place are equal up to it
abbrev pub LogsMatch : ℕ → clusters.Cluster → Type 0
LogsMatch n c = (i j : ℕ) (a b : clusters.Member) (p : ℕ) → IsMember c i a → IsMember c j b → p ≤ length a.node.log → p ≤ length b.node.log → logs.term_at a.node.log p ≡ logs.term_at b.node.log p → take p a.node.log ≡ take p b.node.log

-- Leader completeness: a leader's log holds each place that was committed in an earlier term or by it
abbrev pub LeadersHold : ℕ → clusters.Cluster → Type 0
LeadersHold n c = (j : ℕ) (x : nodes.Node) (p t : ℕ) → IsLeader c j x → lists.at_place c.terms p ≡ Some t → t ≤ x.ballot.term → BeginsAs x.log c p

-- State machine safety: each node's log up to its commit is the beginning of what is committed
abbrev pub LogsBegin : ℕ → clusters.Cluster → Type 0
LogsBegin n c = (j : ℕ) (m : clusters.Member) → IsMember c j m → BeginsAs m.node.log c m.node.commit

-- times never fall in a log, nor in what is committed
abbrev pub Rises : List Entry → Type 0
Rises g = (p q : ℕ) → p ≤ q → q ≤ length g → logs.entry_time (lists.at_place g p) ≤ logs.entry_time (lists.at_place g q)

abbrev pub TimesRise : ℕ → clusters.Cluster → Type 0
TimesRise n c = ((j : ℕ) (m : clusters.Member) → IsMember c j m → Rises m.node.log) × Rises c.committed

-- a majority keeps what is committed
abbrev pub MajorityKeeps : ℕ → clusters.Cluster → Type 0
MajorityKeeps n c = (some : ℕ → Bool) × IsMajority n some × ((j : ℕ) (m : clusters.Member) → some j ≡ true → IsMember c j m → BeginsAs m.node.log c (length c.committed))

-- so a kept log that is as new as each of a majority begins with what is committed
abbrev pub NewestBegins : ℕ → clusters.Cluster → Type 0
NewestBegins n c = (some : ℕ → Bool) (j : ℕ) (m : clusters.Member) → IsMajority n some → IsMember c j m
    → ((k : ℕ) (b : clusters.Member) → some k ≡ true → IsMember c k b → logs.newer_or_equal b.node.log (logs.last_term m.node.log) (length m.node.log) ≡ true)
    → BeginsAs m.node.log c (length c.committed)

-- after every list of steps from the beginning, with packets lost, repeated and in any order, and stores that fail between any two saves
abbrev pub Always : (ℕ → clusters.Cluster → Type 0) → Type 0
Always P = (n : ℕ) (steps : List RaftStep) → 1 ≤ n → P n (clusters.all_happened (clusters.new_cluster n) steps)

-- what is committed grows at its end alone
abbrev pub CommittedGrows : Type 0
CommittedGrows = (n : ℕ) (steps later : List RaftStep) → (rest : List Entry) × (clusters.committed_after n (steps ++ later) ≡ clusters.committed_after n steps ++ rest)
