-- The state of a run: the servers with their clocks, the clients with their watches, the network, and the history.
use Rattle.std.specs.Prelude.{ℕ, suc, Bool, true, false, ◌&&◌, nat_lt, nat_le, Option, Some, None, List, [], ◌∷◌, length, map, if◌then◌else◌}
use Rattle.ax_types.specs.Places as lists
use Rattle.ax_types.specs.declared.limits.TheConstants.{MAX_LOADED, MAX_LOADED_TERM}
use Rattle.ax_types.specs.declared.entries.Act.{Act}
use Rattle.ax_types.specs.declared.entries.Entry.{Entry}
use Rattle.ax_types.specs.declared.entries.Loaded.{Loaded}
use Rattle.ax_types.specs.declared.sessions.ClientState.{ClientState}
use Rattle.ax_types.specs.declared.sessions.ClientState.TheVariants as state
use Rattle.ax_types.specs.declared.steps.WatchKind.{WatchKind}
use Rattle.spec_raft.specs.Positions as positions
use Rattle.spec_raft.specs.Majority as majorities
use Rattle.spec_node.specs.Node as raft_nodes
use Rattle.spec_node.specs.Saving as saving
use Rattle.spec_cluster.specs.Bag as bags
use Rattle.spec_server.specs.Servers as server_servers
use Rattle.spec_client.specs.Clients as client_clients

-- a node: whether it is up, its clock, its server, and of an add that failed the entries of which some may have stayed in
-- its store. Of a server that is down only what it keeps counts
pub record Host : Type 0 where
  pub is_up : Bool
  pub clock : ℕ
  pub server : server_servers.Server
  pub at_stake : List Entry

-- a client, and its watches in the order in which they were set
pub record Watcher : Type 0 where
  pub client : client_clients.Client
  pub watches : List WatchKind

-- nodes and clients by number. The history has as many places as were ever committed
pub record World : Type 0 where
  pub timeout : ℕ
  pub hosts : List Host
  pub seats : List Watcher
  pub bag : bags.Bag
  pub history : List (ℕ × Act)

-- a load above the greatest term or of more than the most entries counts as one that failed
abbrev pub is_loadable : Loaded → Bool
is_loadable content = nat_le content.term MAX_LOADED_TERM && nat_le (length content.log) MAX_LOADED

abbrev pub new_host : ℕ → ℕ → ℕ → Host
new_host nodes timeout k = record { is_up = true; clock = 0; server = server_servers.new_server k nodes timeout; at_stake = [] }

abbrev pub new_watcher : ℕ → Watcher
new_watcher c = record { client = client_clients.new_client c; watches = [] }

-- all nodes up with empty stores, no session, no packet
abbrev pub new_world : ℕ → ℕ → ℕ → World
new_world nodes clients timeout = record { timeout = timeout; hosts = map (new_host nodes timeout) (majorities.cluster_of nodes); seats = map new_watcher (majorities.cluster_of clients); bag = bags.empty_bag; history = [] }

abbrev pub nodes_of : World → ℕ
nodes_of w = length w.hosts

abbrev pub with_host : World → ℕ → Host → World
with_host w k h = record w { hosts = positions.change_place (λ old. h) w.hosts k }

abbrev pub with_watcher : World → ℕ → Watcher → World
with_watcher w c s = record w { seats = positions.change_place (λ old. s) w.seats c }

-- what a host's store keeps for sure
abbrev pub kept_by : Host → Loaded
kept_by h = raft_nodes.kept_of h.server.raft

-- what its store holds where so many of the entries at stake stayed
abbrev pub content_with : Host → ℕ → Loaded
content_with h added = saving.with_rest (kept_by h) h.at_stake added

-- a host that is down, with this in its store, and of a failed add these entries at stake
abbrev pub fallen_host : World → ℕ → Host → Loaded → List Entry → Host
fallen_host w k h kept entries = record { is_up = false; clock = h.clock; server = server_servers.server_from k (nodes_of w) w.timeout kept; at_stake = entries }

-- the numbers of the nodes that are up
abbrev pub up_nodes : World → List ℕ
up_nodes w = lists.numbers_passing (λ h. h.is_up) 1 w.hosts

abbrev pub up_in : Option Host → Bool
up_in None = false
up_in (Some h) = h.is_up

abbrev pub is_up : World → ℕ → Bool
is_up w k = up_in (lists.at_place w.hosts k)

abbrev pub state_in : Option Watcher → ClientState
state_in None = state.NoneYet
state_in (Some s) = s.client.state

abbrev pub client_state : World → ℕ → ClientState
client_state w c = state_in (lists.at_place w.seats c)

-- the packet that a flush delivers next
abbrev pub flush_next : World → Option ℕ
flush_next w = bags.next_up w.bag (up_nodes w)

-- the up leader of the greatest term, where the first of these hosts has this number; none below the term in hand
abbrev pub term_in : Host → ℕ
term_in h = h.server.raft.ballot.term

abbrev pub leader_among : ℕ → ℕ → Option ℕ → List Host → Option ℕ
leader_among k term best [] = best
leader_among k term best (h ∷ hs) =
    if h.is_up && server_servers.leads h.server && nat_lt term (term_in h) then leader_among (suc k) (term_in h) (Some k) hs
    else leader_among (suc k) term best hs

abbrev pub leader_now : World → Option ℕ
leader_now w = leader_among 1 0 None w.hosts
