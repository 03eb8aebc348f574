-- The law of the origin of entries.
use Rattle.std.specs.Prelude.{◌≡◌, ◌⊎◌, ℕ, List, [], ◌∷◌}
use Rattle.std.specs.List.{AllByRecursion}
use Rattle.ax_types.specs.declared.entries.Body.{Body}
use Rattle.ax_types.specs.declared.entries.Body.TheVariants as body
use Rattle.ax_types.specs.declared.entries.Entry.{Entry}
use Rattle.ax_types.specs.declared.packets.Payload.{Payload}
use Rattle.ax_types.specs.declared.packets.Payload.TheVariants as payload
use Rattle.ax_types.specs.declared.raft.NodeInput.{NodeInput}
use Rattle.ax_types.specs.declared.raft.NodeInput.TheVariants as input
use Rattle.ax_types.specs.declared.raft.RaftStep.{RaftStep}
use Rattle.ax_types.specs.declared.raft.RaftStep.TheVariants as step
use Rattle.spec_node.specs.Node as nodes
use Rattle.spec_cluster.specs.Cluster as clusters
use Rattle.law_agreement.specs.Agreement as laws

abbrev pub IsOneOf : Body → List Body → Type 0
IsOneOf b [] = ⊥
IsOneOf b (c ∷ bs) = (b ≡ c) ⊎ IsOneOf b bs

-- a leader of the entry's term is asked to append its body
abbrev pub IsAskedFor : clusters.Cluster → NodeInput → Entry → Type 0
IsAskedFor c (input.Append k clock bodies) e = (x : nodes.Node) × laws.IsLeader c k x × (x.ballot.term ≡ e.term) × IsOneOf e.body bodies
IsAskedFor c i e = ⊥

-- a step, made or halted, asks for it
abbrev pub Asks : clusters.Cluster → RaftStep → Entry → Type 0
Asks c (step.Made i) e = IsAskedFor c i e
Asks c (step.Halt i saved added) e = IsAskedFor c i e

-- in one of these steps
abbrev pub WasAsked : clusters.Cluster → List RaftStep → Entry → Type 0
WasAsked c [] e = ⊥
WasAsked c (r ∷ rs) e = Asks c r e ⊎ WasAsked (clusters.happened c r) rs e

-- the blank of an election, or what a step asked for
abbrev pub HasOrigin : ℕ → List RaftStep → Entry → Type 0
HasOrigin n steps e = (e.body ≡ body.Blank) ⊎ WasAsked (clusters.new_cluster n) steps e

-- the entries in a packet
abbrev pub entries_in : Payload → List Entry
entries_in (payload.Append term prev prev_term commit round es) = es
entries_in p = []

-- where each entry of a cluster passes: of the logs, of what is committed, of the packets that are kept
pub record AllEntries (P : Entry → Type 0) (c : clusters.Cluster) : Type 0 where
  pub logs : AllByRecursion (λ m. AllByRecursion P m.node.log) c.members
  pub committed : AllByRecursion P c.committed
  pub packets : AllByRecursion (λ k. AllByRecursion P (entries_in k.packet.payload)) c.bag.kept

abbrev pub EntriesHaveOrigin : Type 0
EntriesHaveOrigin = (n : ℕ) (steps : List RaftStep) → AllEntries (HasOrigin n steps) (clusters.all_happened (clusters.new_cluster n) steps)
