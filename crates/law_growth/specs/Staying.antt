-- What stays in a run.
use Rattle.std.specs.Prelude.{ℕ, ◌≡◌, Option, Some, List, [], ◌∷◌, ◌++◌, length, map}
use Rattle.std.specs.List.{AllByRecursion}
use Rattle.ax_types.specs.Places as lists
use Rattle.ax_types.specs.declared.packets.Packet.{Packet}
use Rattle.ax_types.specs.declared.steps.KeptStep.{KeptStep}
use Rattle.ax_types.specs.declared.steps.StepOutcome.{StepOutcome}
use Rattle.ax_types.specs.declared.steps.StepOutcome.TheVariants as outcome
use Rattle.spec_claims.specs.Once as once
use Rattle.spec_node.specs.Node as raft_nodes
use Rattle.spec_transitions.specs.Systems as systems
use Rattle.spec_server.specs.ServerStep as server_steps
use Rattle.spec_world.specs.Worlds as worlds
use Rattle.spec_world.specs.Plans as plans
use Rattle.spec_world.specs.Moves as moves
use Rattle.spec_run.specs.Run as runs
use Rattle.law_growth.specs.PlanCases as plan_cases

-- one world has as many servers and clients as another
pub record HasShape (w v : worlds.World) : Type 0 where
  pub timeout : v.timeout ≡ w.timeout
  pub hosts : length v.hosts ≡ length w.hosts
  pub seats : length v.seats ≡ length w.seats

-- a Raft node has this number, of so many
pub record HasNumber (nodes k : ℕ) (n : raft_nodes.Node) : Type 0 where
  pub me : n.ballot.me ≡ k
  pub size : n.ballot.nodes ≡ nodes

-- each server and each client stands at its own number, and each server knows how many they are
pub record StandAtNumbers (w : worlds.World) : Type 0 where
  pub hosts : (k : ℕ) (h : worlds.Host) → lists.at_place w.hosts k ≡ Some h → HasNumber (length w.hosts) k h.server.raft
  pub seats : (c : ℕ) (s : worlds.Watcher) → lists.at_place w.seats c ≡ Some s → s.client.me ≡ c

abbrev pub ServersStay : Type 0
ServersStay = (w : worlds.World) (k : KeptStep) → HasShape w (moves.moved w k).world

abbrev pub NumbersStay : Type 0
NumbersStay = (w : worlds.World) (k : KeptStep) → StandAtNumbers w → StandAtNumbers (moves.moved w k).world

pub record HasNumbers (nodes clients time : ℕ) (w : worlds.World) : Type 0 where
  pub timeout : w.timeout ≡ time
  pub hosts : length w.hosts ≡ nodes
  pub seats : length w.seats ≡ clients
  pub numbers : StandAtNumbers w

abbrev pub RunsHaveNumbers : Type 0
RunsHaveNumbers = (nodes clients timeout : ℕ) (steps : List KeptStep) → HasNumbers nodes clients timeout (runs.run nodes clients timeout steps).world

-- the packets that a step sends: none where a store call failed
abbrev pub sent_in : plans.Plan → StepOutcome → List Packet
sent_in (plans.Serves w k h i) (outcome.Failed saved) = []
sent_in (plans.Serves w k h i) _ = (server_steps.server_out h.server i).packets
sent_in (plans.Asks w c s next) o = map (moves.from_client c) next.out.sends
sent_in _ o = []

abbrev pub sent_by : worlds.World → KeptStep → List Packet
sent_by w k = sent_in (plans.plan w k.step) k.outcome

-- all packets that were sent in steps from a world on, in their order
abbrev pub sent_from : worlds.World → List KeptStep → List Packet
sent_from w [] = []
sent_from w (k ∷ steps) = sent_by w k ++ sent_from (moves.moved w k).world steps

abbrev pub SentGrows : Type 0
SentGrows = (w : worlds.World) (steps later : List KeptStep) → sent_from w (steps ++ later) ≡ sent_from w steps ++ sent_from (runs.ran w steps).world later

abbrev pub KeptWereSent : Type 0
KeptWereSent = (nodes clients timeout : ℕ) (steps : List KeptStep)
    → AllByRecursion (λ p. systems.Among p (sent_from (worlds.new_world nodes clients timeout) steps)) (plan_cases.kept_packets (runs.run nodes clients timeout steps).world.bag)

abbrev pub HistoryFollows : Type 0
HistoryFollows = (w : worlds.World) (k : KeptStep) → once.Begins w.history (moves.moved w k).world.history

abbrev pub HistoriesFollow : Type 0
HistoriesFollow = (w : worlds.World) (steps : List KeptStep) → once.Begins w.history (runs.ran w steps).world.history
