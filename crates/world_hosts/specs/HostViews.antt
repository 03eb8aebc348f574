-- A node in code, as the definitions have it.
use Rattle.std.specs.Prelude.{ℕ, suc, ◌≡◌, ◌≤◌, Bool, true, false, List, [], ◌∷◌, length, map, if◌then◌else◌}
use Rattle.std.specs.List.{AllByRecursion}
use Rattle.ax_types.specs.declared.entries.Entry.{Entry}
use Rattle.ax_types.specs.declared.entries.Loaded.{Loaded}
use Rattle.spec_node.specs.Node as raft_nodes
use Rattle.spec_server.specs.Servers as servers
use Rattle.spec_world.specs.Worlds as worlds
use Rattle.world_hosts.specs.declared.host.Host.{Host}
use Rattle.world_hosts.specs.declared.host.Standing.{Standing}
use Rattle.world_hosts.specs.declared.host.Standing.TheVariants as standing

abbrev pub stands_up : Standing → Bool
stands_up (standing.Up s) = true
stands_up (standing.Down kept es) = false

-- the server of node k of so many: of one that is down what a restart makes of what it keeps
abbrev pub server_of : ℕ → ℕ → ℕ → Standing → servers.Server
server_of nodes timeout k (standing.Up s) = s.server
server_of nodes timeout k (standing.Down kept es) = servers.server_from k nodes timeout kept

abbrev pub stake_of : Standing → List Entry
stake_of (standing.Up s) = []
stake_of (standing.Down kept es) = es

-- what a node keeps for sure
abbrev pub kept_for_sure : Standing → Loaded
kept_for_sure (standing.Up s) = raft_nodes.kept_of s.server.raft
kept_for_sure (standing.Down kept es) = kept

abbrev pub host_of : ℕ → ℕ → ℕ → Host → worlds.Host
host_of nodes timeout k h = record { is_up = stands_up h.standing; clock = h.clock; server = server_of nodes timeout k h.standing; at_stake = stake_of h.standing }

abbrev pub hosts_from : ℕ → ℕ → ℕ → List Host → List worlds.Host
hosts_from nodes timeout k [] = []
hosts_from nodes timeout k (h ∷ hosts) = host_of nodes timeout k h ∷ hosts_from nodes timeout (suc k) hosts

-- the term of a node that is up and leads, 0 of another one
abbrev pub leading_term : Standing → ℕ
leading_term (standing.Up s) = if servers.leads s.server then s.server.raft.ballot.term else 0
leading_term (standing.Down kept es) = 0

-- no step of the server was left half done
abbrev pub StandsWhole : Standing → Type 0
StandsWhole (standing.Up s) = s.is_spent ≡ false
StandsWhole (standing.Down kept es) = Unit {0}

-- the server of node k of so many knows both numbers
abbrev pub KnowsNumber : ℕ → ℕ → Standing → Type 0
KnowsNumber nodes k (standing.Up s) = (s.server.raft.ballot.me ≡ k) × (s.server.raft.ballot.nodes ≡ nodes)
KnowsNumber nodes k (standing.Down kept es) = Unit {0}

abbrev pub HostsAreNumbered : ℕ → ℕ → List Host → Type 0
HostsAreNumbered nodes k [] = Unit {0}
HostsAreNumbered nodes k (h ∷ hosts) = KnowsNumber nodes k h.standing × HostsAreNumbered nodes (suc k) hosts

-- the flags tell which nodes are up, and no step was left half done
pub record IsReady (hosts : List Host) (up : List Bool) : Type 0 where
  pub flags : up ≡ map (λ h. stands_up h.standing) hosts
  pub whole : AllByRecursion (λ h. StandsWhole h.standing) hosts
  pub numbers : HostsAreNumbered (length hosts) 1 hosts

-- a cluster within its limits
pub record ClusterIsWithin (nodes timeout : ℕ) : Type 0 where
  pub nodes_most : nodes ≤ 9
  pub timeout_least : 1 ≤ timeout
  pub timeout_most : timeout ≤ 1000000000
