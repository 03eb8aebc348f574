-- The servers of a world, as the nodes of a cluster of Raft.
use Rattle.std.specs.Prelude.{ℕ, suc, ◌≡◌, Bool, true, false, List, [], ◌∷◌, if◌then◌else◌}
use Rattle.std.specs.List.{AllByRecursion}
use Rattle.ax_types.specs.declared.ids.End.TheVariants as end
use Rattle.ax_types.specs.declared.packets.Packet.{Packet}
use Rattle.ax_types.specs.declared.packets.Payload.{Payload}
use Rattle.ax_types.specs.declared.packets.Payload.TheVariants as payload
use Rattle.ax_types.specs.declared.steps.KeptStep.{KeptStep}
use Rattle.spec_node.specs.Node as raft_nodes
use Rattle.spec_cluster.specs.Cluster as clusters
use Rattle.spec_transitions.specs.Systems as systems
use Rattle.spec_transitions.specs.Transitions as transitions
use Rattle.spec_world.specs.Worlds as worlds
use Rattle.spec_run.specs.Run as runs
use Rattle.law_growth.specs.PlanCases as plan_cases
use Rattle.law_hosts.specs.Ledger as ledgers

-- node k of so many: of one that is down, what its store holds where so many of its entries at stake stayed
abbrev pub member_of : (ℕ → ℕ) → ℕ → ℕ → worlds.Host → clusters.Member
member_of stayed nodes k h =
    if h.is_up then record { is_up = true; node = h.server.raft }
    else record { is_up = false; node = raft_nodes.restarted k nodes (worlds.content_with h (stayed k)) }

abbrev pub members_from : (ℕ → ℕ) → ℕ → ℕ → List worlds.Host → List clusters.Member
members_from stayed nodes k [] = []
members_from stayed nodes k (h ∷ hosts) = member_of stayed nodes k h ∷ members_from stayed nodes (suc k) hosts

-- the payloads of Raft
abbrev pub is_of_raft : Payload → Bool
is_of_raft (payload.Vote _ _ _) = true
is_of_raft (payload.VoteReply _ _) = true
is_of_raft (payload.Append _ _ _ _ _ _) = true
is_of_raft (payload.AppendReply _ _ _ _) = true
is_of_raft _ = false

-- a packet is among those sent, where it is one of Raft between nodes
abbrev pub IsSentIfRaft : List Packet → Packet → Type 0
IsSentIfRaft sent p = (j k : ℕ) → p.«from» ≡ end.Node j → p.to ≡ end.Node k → is_of_raft p.payload ≡ true → systems.Among p sent

-- a system has the nodes of a world, its packets of Raft, and what the ledger tells
pub record Matches (nodes : ℕ) (stayed : ℕ → ℕ) (l : ledgers.Ledger) (w : worlds.World) (s : systems.System) : Type 0 where
  pub members : s.cluster.members ≡ members_from stayed nodes 1 w.hosts
  pub packets : AllByRecursion (IsSentIfRaft s.sent) (plan_cases.kept_packets w.bag)
  pub committed : s.cluster.committed ≡ l.committed
  pub terms : s.cluster.terms ≡ l.terms
  pub leds : s.cluster.leds ≡ l.leds
  pub takens : s.cluster.takens ≡ l.takens
  pub givens : s.cluster.givens ≡ l.givens

-- transitions that may happen lead from a new cluster to such a system
pub record IsMatched (nodes : ℕ) (stayed : ℕ → ℕ) (l : ledgers.Ledger) (w : worlds.World) : Type 0 where
  pub list : List transitions.Transition
  pub may : transitions.AllMay (systems.new_system nodes) list
  pub ends : Matches nodes stayed l w (transitions.after_transitions (systems.new_system nodes) list)

abbrev pub HostsAreMatched : Type 0
HostsAreMatched = (nodes clients timeout : ℕ) (steps : List KeptStep) (stayed : ℕ → ℕ)
    → IsMatched nodes stayed (ledgers.ledger_of nodes clients timeout steps) (runs.run nodes clients timeout steps).world
