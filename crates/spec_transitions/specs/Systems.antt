-- A cluster with every packet ever sent: a delivery may take any of them, again and in any order.
use Rattle.std.specs.Prelude.{◌≡◌, ◌⊎◌, ℕ, true, List, [], ◌∷◌, Some}
use Rattle.ax_types.specs.Places as ax_types_lists
use Rattle.ax_types.specs.declared.ids.End.TheVariants as end
use Rattle.ax_types.specs.declared.packets.Packet.{Packet}
use Rattle.ax_types.specs.declared.packets.Payload.{Payload}
use Rattle.spec_raft.specs.Positions as lists
use Rattle.spec_node.specs.Node as nodes
use Rattle.spec_cluster.specs.Bag as bags
use Rattle.spec_cluster.specs.Cluster as clusters

pub record System : Type 0 where
  pub cluster : clusters.Cluster
  -- the packets ever sent, the newest first
  pub sent : List Packet

abbrev pub new_system : ℕ → System
new_system n = record { cluster = clusters.new_cluster n; sent = [] }

abbrev pub Among : Packet → List Packet → Type 0
Among p [] = ⊥
Among p (q ∷ qs) = (p ≡ q) ⊎ Among p qs

-- a node has sent a packet to another
abbrev pub WasSent : System → ℕ → ℕ → Payload → Type 0
WasSent s j k p = Among (record { «from» = end.Node j; to = end.Node k; payload = p }) s.sent

-- node j is up, and as it stands
abbrev pub IsUp : System → ℕ → nodes.Node → Type 0
IsUp s j n = ax_types_lists.at_place s.cluster.members j ≡ Some (record { is_up = true; node = n })

-- a member changes
abbrev pub member_changed : System → ℕ → clusters.Member → System
member_changed s j m = record s { cluster = record s.cluster { members = lists.change_place (λ old. m) s.cluster.members j } }

-- a node that is up changes
abbrev pub with_node : System → ℕ → nodes.Node → System
with_node s j n = member_changed s j (record { is_up = true; node = n })

-- the committed entries reach as far as a node's commit
abbrev pub tallied : System → nodes.Node → System
tallied s n = record s { cluster = record s.cluster { committed = clusters.entries_so_far s.cluster.committed n; terms = clusters.terms_so_far s.cluster.terms n } }

abbrev pub with_sent : System → Packet → System
with_sent s p = record { cluster = record s.cluster { bag = bags.with_packet s.cluster.bag p }; sent = p ∷ s.sent }
