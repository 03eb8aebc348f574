-- What Raft tells in a run: what is committed, with the terms of those who committed it, who led, and which reads were taken and given.
use Rattle.std.specs.Prelude.{ℕ, Option, Some, None, List, [], ◌∷◌, ◌++◌, length}
use Rattle.ax_types.specs.declared.entries.Entry.{Entry}
use Rattle.ax_types.specs.declared.raft.RaftInput.{RaftInput}
use Rattle.ax_types.specs.declared.steps.KeptStep.{KeptStep}
use Rattle.ax_types.specs.declared.steps.StepOutcome.{StepOutcome}
use Rattle.ax_types.specs.declared.steps.StepOutcome.TheVariants as outcome
use Rattle.spec_node.specs.Node as raft_nodes
use Rattle.spec_node.specs.NodeStep as node_steps
use Rattle.spec_cluster.specs.Cluster as clusters
use Rattle.spec_server.specs.Servers as servers
use Rattle.spec_world.specs.Worlds as worlds
use Rattle.spec_world.specs.Plans as plans
use Rattle.spec_world.specs.Moves as moves

pub record Ledger : Type 0 where
  pub committed : List Entry
  pub terms : List ℕ
  pub leds : List clusters.Led
  pub takens : List clusters.ReadTaken
  pub givens : List clusters.ReadGiven

abbrev pub new_ledger : Ledger
new_ledger = record { committed = []; terms = []; leds = []; takens = []; givens = [] }

-- node k takes an input
abbrev pub with_input : Ledger → ℕ → raft_nodes.Node → Option RaftInput → Ledger
with_input l k n None = l
with_input l k n (Some i) = record {
  committed = clusters.entries_so_far l.committed (node_steps.stepped n i);
  terms = clusters.terms_so_far l.terms (node_steps.stepped n i);
  leds = l.leds ++ clusters.led_by k (node_steps.stepped n i) (node_steps.out n i).led;
  takens = l.takens ++ clusters.taken_by k n (length l.committed) (node_steps.out n i).reached;
  givens = l.givens ++ clusters.given_by k (node_steps.stepped n i) (node_steps.out n i).reads;
}

-- a step tells something where a server took an input of its Raft node, and no store call failed
abbrev pub ledger_in : Ledger → plans.Plan → StepOutcome → Ledger
ledger_in l (plans.Serves w k h i) (outcome.Failed saved) = l
ledger_in l (plans.Serves w k h i) _ = with_input l k h.server.raft (servers.task h.server i).input
ledger_in l _ o = l

abbrev pub ledger_by : Ledger → worlds.World → KeptStep → Ledger
ledger_by l w k = ledger_in l (plans.plan w k.step) k.outcome

abbrev pub ledger_from : Ledger → worlds.World → List KeptStep → Ledger
ledger_from l w [] = l
ledger_from l w (k ∷ steps) = ledger_from (ledger_by l w k) (moves.moved w k).world steps

-- after a run
abbrev pub ledger_of : ℕ → ℕ → ℕ → List KeptStep → Ledger
ledger_of nodes clients timeout steps = ledger_from new_ledger (worlds.new_world nodes clients timeout) steps
