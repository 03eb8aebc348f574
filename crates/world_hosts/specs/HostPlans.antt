-- The nodes of a world alone, and what a step or a load of one of them does to them.
use Rattle.std.specs.Prelude.{ℕ, ◌≡◌, ◌≢◌, ◌≤◌, Bool, true, false, Option, Some, None, List, [], length}
use Rattle.ax_types.specs.declared.ids.End.{End}
use Rattle.ax_types.specs.declared.ids.End.TheVariants as end
use Rattle.ax_types.specs.declared.sessions.ServerInput.{ServerInput}
use Rattle.ax_types.specs.declared.sessions.ServerInput.TheVariants as asks
use Rattle.ax_types.specs.declared.sessions.ServerOut.{ServerOut}
use Rattle.ax_types.specs.declared.steps.StepOutcome.{StepOutcome}
use Rattle.ax_types.specs.declared.steps.StepOutcome.TheVariants as outcome
use Rattle.spec_node.specs.Saving as saving
use Rattle.spec_cluster.specs.Bag as bags
use Rattle.spec_server.specs.Servers as servers
use Rattle.spec_server.specs.ServerStep as server_steps
use Rattle.spec_world.specs.Worlds as worlds
use Rattle.spec_world.specs.Moves as moves
use Rattle.world_hosts.specs.declared.served.Served.{Served}
use Rattle.world_hosts.specs.declared.served.Served.TheVariants as serving

-- the nodes by number, and whether want of memory has left a step half done
pub record OpenHosts : Type 0 where
  pub timeout : ℕ
  pub hosts : List worlds.Host
  pub is_spent : Bool

-- a world of these nodes, without packets and clients
abbrev pub world_of_hosts : OpenHosts → worlds.World
world_of_hosts s = record { timeout = s.timeout; hosts = s.hosts; seats = []; bag = bags.empty_bag; history = [] }

abbrev pub leads_in : Option worlds.Host → Bool
leads_in None = false
leads_in (Some h) = servers.leads h.server

abbrev pub clock_in : Option worlds.Host → ℕ
clock_in None = 0
clock_in (Some h) = h.clock

-- a node that goes down with all that it keeps, and one with another clock
abbrev pub fallen_in : OpenHosts → ℕ → worlds.Host → worlds.Host
fallen_in s k h = worlds.fallen_host (world_of_hosts s) k h (worlds.kept_by h) []

abbrev pub with_clock : ℕ → worlds.Host → worlds.Host
with_clock time h = record h { clock = time }

-- a packet to node k of so many comes from another node, or from a client
abbrev pub IsFromOther : ℕ → ℕ → End → Type 0
IsFromOther k nodes (end.Node j) = (j ≢ k) × (j ≤ nodes)
IsFromOther k nodes (end.Client c) = Unit {0}

-- when the server of node k of so many may be given an input, whatever its term: a leader stands for no election, and only a
-- leader beats and checks
abbrev pub FitsServer : ℕ → ℕ → servers.Server → ServerInput → Type 0
FitsServer k nodes s (asks.Elect clock) = servers.leads s ≡ false
FitsServer k nodes s (asks.Beat clock) = servers.leads s ≡ true
FitsServer k nodes s (asks.Check clock) = servers.leads s ≡ true
FitsServer k nodes s (asks.Packet clock p) = IsFromOther k nodes p.«from»

-- node k of so many is there and up, and may be given an input
abbrev pub MayServe : ℕ → ℕ → Option worlds.Host → ServerInput → Type 0
MayServe k nodes None i = ⊥
MayServe k nodes (Some h) i = (h.is_up ≡ true) × FitsServer k nodes h.server i

-- how the stores fared in a step
abbrev pub outcome_served : Served → StepOutcome
outcome_served (serving.Fine out) = outcome.Fine
outcome_served (serving.Failed saved) = outcome.Failed saved

abbrev pub IsGivenBack : ServerOut → Served → Type 0
IsGivenBack out (serving.Fine given) = given ≡ out
IsGivenBack out (serving.Failed saved) = Unit {0}

-- a step of node k, which is h, and what was answered
pub record Serves (old : OpenHosts) (k : ℕ) (h : worlds.Host) (i : ServerInput) (new : OpenHosts) (s : Served) : Type 0 where
  pub may : moves.may_serve (length (saving.calls_of (server_steps.server_out h.server i).saves)) (outcome_served s) ≡ true
  pub given : IsGivenBack (server_steps.server_out h.server i) s
  pub after : new ≡ record old { hosts = (moves.served (world_of_hosts old) k h i (outcome_served s)).world.hosts }

abbrev pub ServesAt : OpenHosts → ℕ → Option worlds.Host → ServerInput → OpenHosts → Served → Type 0
ServesAt old k None i new s = ⊥
ServesAt old k (Some h) i new s = Serves old k h i new s

-- a load of node k, which is h
pub record Loads (old : OpenHosts) (k : ℕ) (h : worlds.Host) (new : OpenHosts) (o : StepOutcome) : Type 0 where
  pub may : moves.may_load h o ≡ true
  pub after : new ≡ record old { hosts = (moves.loaded (world_of_hosts old) k h o).world.hosts }

abbrev pub LoadsAt : OpenHosts → ℕ → Option worlds.Host → OpenHosts → StepOutcome → Type 0
LoadsAt old k None new o = ⊥
LoadsAt old k (Some h) new o = Loads old k h new o
