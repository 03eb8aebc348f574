-- What a step may ask for, case by case, with what is then known of the world before it.
use Rattle.std.specs.Prelude.{ℕ, ◌≡◌, Bool, true, false, Option, Some, List, [], map}
use Rattle.ax_types.specs.Places as lists
use Rattle.ax_types.specs.declared.ids.End.TheVariants as end
use Rattle.ax_types.specs.declared.items.Item.{Item}
use Rattle.ax_types.specs.declared.packets.Packet.{Packet}
use Rattle.ax_types.specs.declared.sessions.ServerInput.{ServerInput}
use Rattle.ax_types.specs.declared.sessions.ServerInput.TheVariants as input
use Rattle.spec_cluster.specs.Bag as bags
use Rattle.spec_server.specs.Servers as servers
use Rattle.spec_client.specs.Clients as clients
use Rattle.spec_world.specs.Worlds as worlds
use Rattle.spec_world.specs.Plans as plans

-- the packets that the network keeps
abbrev pub kept_packets : bags.Bag → List Packet
kept_packets bag = map (λ (s : bags.KeptPacket). s.packet) bag.kept

-- a world with the same servers, clients, history and packets, where packets may be marked and links cut or joined
pub record IsAlike (w v : worlds.World) : Type 0 where
  pub timeout : v.timeout ≡ w.timeout
  pub hosts : v.hosts ≡ w.hosts
  pub seats : v.seats ≡ w.seats
  pub history : v.history ≡ w.history
  pub kept : kept_packets v.bag ≡ kept_packets w.bag
  pub sent : v.bag.sent ≡ w.bag.sent

-- the network keeps a packet
pub record Keeps (bag : bags.Bag) (p : Packet) : Type 0 where
  pub place : ℕ
  pub found : lists.at_place (kept_packets bag) place ≡ Some p

-- what a server's input is known to be: beats and checks come to a leader, and a packet is one that the network keeps for this node
abbrev pub IsInputOf : worlds.World → ℕ → worlds.Host → ServerInput → Type 0
IsInputOf w k h (input.Elect clock) = servers.leads h.server ≡ false
IsInputOf w k h (input.Beat clock) = servers.leads h.server ≡ true
IsInputOf w k h (input.Check clock) = servers.leads h.server ≡ true
IsInputOf w k h (input.Packet clock p) = (p.to ≡ end.Node k) × Keeps w.bag p

-- A server that is up takes an input, a node that is down is loaded, a client takes a step, a node goes down, a clock is set, a
-- client or its watches change without a packet, or only the network's marks and links do
pub data IsCase (w : worlds.World) (p : plans.Plan) : Type 0 where
  Serving : (v : worlds.World) (k : ℕ) (h : worlds.Host) (i : ServerInput) → IsAlike w v → lists.at_place w.hosts k ≡ Some h → h.is_up ≡ true → IsInputOf w k h i → p ≡ plans.Serves v k h i → IsCase w p
  Loading : (k : ℕ) (h : worlds.Host) → lists.at_place w.hosts k ≡ Some h → h.is_up ≡ false → p ≡ plans.Loads w k h → IsCase w p
  Asking : (v : worlds.World) (c : ℕ) (s : worlds.Watcher) (next : clients.ClientStep) → IsAlike w v → lists.at_place w.seats c ≡ Some s → next.client.me ≡ s.client.me → p ≡ plans.Asks v c s next → IsCase w p
  Falling : (k : ℕ) (h : worlds.Host) → lists.at_place w.hosts k ≡ Some h → h.is_up ≡ true → p ≡ plans.Shows (worlds.with_host w k (worlds.fallen_host w k h (worlds.kept_by h) [])) [] → IsCase w p
  Setting : (k : ℕ) (h : worlds.Host) (time : ℕ) → lists.at_place w.hosts k ≡ Some h → p ≡ plans.Shows (worlds.with_host w k (record h { clock = time })) [] → IsCase w p
  Seating : (c : ℕ) (s t : worlds.Watcher) (items : List Item) → lists.at_place w.seats c ≡ Some s → t.client.me ≡ s.client.me → p ≡ plans.Shows (worlds.with_watcher w c t) items → IsCase w p
  Showing : (v : worlds.World) (items : List Item) → IsAlike w v → p ≡ plans.Shows v items → IsCase w p
