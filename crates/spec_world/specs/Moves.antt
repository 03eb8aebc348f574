-- One step of a run, with how the stores fared in it: the world after it, and its items.
use Rattle.std.specs.Prelude.{ℕ, ◌-◌, Bool, true, false, ◌&&◌, nat_eq, nat_lt, nat_le, Option, Some, None, List, [], ◌∷◌, ◌++◌, length, drop, map, flat_map, slice_get, if◌then◌else◌}
use Rattle.ax_types.specs.declared.entries.Act.{Act}
use Rattle.ax_types.specs.declared.ids.End.TheVariants as end
use Rattle.ax_types.specs.declared.items.Item.{Item}
use Rattle.ax_types.specs.declared.items.Item.TheVariants as item
use Rattle.ax_types.specs.declared.packets.Packet.{Packet}
use Rattle.ax_types.specs.declared.packets.Payload.{Payload}
use Rattle.ax_types.specs.declared.sessions.ServerInput.{ServerInput}
use Rattle.ax_types.specs.declared.sessions.ServerOut.{ServerOut}
use Rattle.ax_types.specs.declared.steps.KeptStep.{KeptStep}
use Rattle.ax_types.specs.declared.steps.StepOutcome.{StepOutcome}
use Rattle.ax_types.specs.declared.steps.StepOutcome.TheVariants as outcome
use Rattle.ax_types.specs.declared.steps.WatchKind.{WatchKind}
use Rattle.spec_claims.specs.Heard as heard
use Rattle.spec_node.specs.Saving as saving
use Rattle.spec_cluster.specs.Bag as bags
use Rattle.spec_server.specs.Servers as servers
use Rattle.spec_server.specs.ServerStep as server_steps
use Rattle.spec_client.specs.Clients as clients
use Rattle.spec_world.specs.Worlds as worlds
use Rattle.spec_world.specs.Plans as plans

-- the world after a step, and the step's items
pub record Moved : Type 0 where
  pub world : worlds.World
  pub items : List Item

-- the history with the acts of the places that this node is the first to apply
abbrev pub history_with : List (ℕ × Act) → ServerOut → List (ℕ × Act)
history_with history o = history ++ drop (length history - (o.committed - length o.acts)) o.acts

-- the items of a server's step: a new leader, the greatest committed place where it rose, a read that was taken
abbrev pub leader_item : ℕ → Option ℕ → List Item
leader_item k None = []
leader_item k (Some term) = item.Leader k term ∷ []

abbrev pub commit_item : ℕ → ℕ → List Item
commit_item before committed = if nat_lt before committed then item.Commit committed ∷ [] else []

abbrev pub option_item : Option Item → List Item
option_item None = []
option_item (Some i) = i ∷ []

abbrev pub server_items : worlds.World → ℕ → ServerOut → List Item
server_items w k o = leader_item k o.led ++ commit_item (length w.history) o.committed ++ option_item o.reach

-- a server's step whose store calls succeeded
abbrev pub serves : worlds.World → ℕ → worlds.Host → ServerInput → ServerOut → Moved
serves w k h i o = record {
  world = record (worlds.with_host w k (record h { server = server_steps.server_after h.server i })) { bag = bags.with_packets w.bag o.packets; history = history_with w.history o };
  items = server_items w k o;
}

-- a node halts where a store call failed: nothing of its step counts but what was saved, and it is down
abbrev pub halts : worlds.World → ℕ → worlds.Host → List saving.Save → ℕ → Moved
halts w k h calls saved = record { world = worlds.with_host w k (worlds.fallen_host w k h (saving.kept_at_failure (worlds.kept_by h) calls saved) (saving.at_stake (slice_get calls saved))); items = item.Halted k ∷ [] }

abbrev pub served : worlds.World → ℕ → worlds.Host → ServerInput → StepOutcome → Moved
served w k h i (outcome.Failed saved) = halts w k h (saving.calls_of (server_steps.server_out h.server i).saves) saved
served w k h i _ = serves w k h i (server_steps.server_out h.server i)

-- a load that succeeded tells how many entries a failed add had left
abbrev pub loads : worlds.World → ℕ → worlds.Host → ℕ → Moved
loads w k h added = record {
  world = worlds.with_host w k (record { is_up = true; clock = h.clock; server = servers.server_from k (worlds.nodes_of w) w.timeout (worlds.content_with h added); at_stake = [] });
  items = [];
}

abbrev pub loaded : worlds.World → ℕ → worlds.Host → StepOutcome → Moved
loaded w k h (outcome.Failed saved) = record { world = w; items = item.Halted k ∷ [] }
loaded w k h outcome.Fine = loads w k h 0
loaded w k h (outcome.Loaded added) = loads w k h added

-- a client's items, with what its watches show directly below each event
abbrev pub shown_below : ℕ → List WatchKind → Item → List Item
shown_below c watches (item.Event s p prev es) = flat_map (heard.watched_by c s p es) watches
shown_below c watches i = []

abbrev pub with_shown : ℕ → List WatchKind → List Item → List Item
with_shown c watches items = flat_map (λ i. i ∷ shown_below c watches i) items

abbrev pub from_client : ℕ → (ℕ × Payload) → Packet
from_client c s = record { «from» = end.Client c; to = end.Node s.0; payload = s.1 }

abbrev pub client_served : worlds.World → ℕ → worlds.Watcher → clients.ClientStep → Moved
client_served w c s next = record {
  world = record (worlds.with_watcher w c (record s { client = next.client })) { bag = bags.with_packets w.bag (map (from_client c) next.out.sends) };
  items = with_shown c s.watches next.out.items;
}

-- a plan is carried out
abbrev pub carried : plans.Plan → StepOutcome → Moved
carried (plans.Serves w k h i) o = served w k h i o
carried (plans.Loads w k h) o = loaded w k h o
carried (plans.Asks w c s next) o = client_served w c s next
carried (plans.Shows w items) o = record { world = w; items = items }

abbrev pub moved : worlds.World → KeptStep → Moved
moved w s = carried (plans.plan w s.step) s.outcome

-- whether the stores may have fared so: a step fails at one of its store calls, a load at itself, and a load that succeeds
-- finds at most the entries at stake, and no more in all than counts
abbrev pub may_serve : ℕ → StepOutcome → Bool
may_serve calls outcome.Fine = true
may_serve calls (outcome.Failed saved) = nat_lt saved calls
may_serve calls (outcome.Loaded added) = false

abbrev pub may_load : worlds.Host → StepOutcome → Bool
may_load h outcome.Fine = false
may_load h (outcome.Failed saved) = nat_eq saved 0
may_load h (outcome.Loaded added) = nat_le added (length h.at_stake) && worlds.is_loadable (worlds.content_with h added)

abbrev pub is_fine : StepOutcome → Bool
is_fine outcome.Fine = true
is_fine _ = false

abbrev pub may_carry : plans.Plan → StepOutcome → Bool
may_carry (plans.Serves w k h i) o = may_serve (length (saving.calls_of (server_steps.server_out h.server i).saves)) o
may_carry (plans.Loads w k h) o = may_load h o
may_carry (plans.Asks w c s next) o = is_fine o
may_carry (plans.Shows w items) o = is_fine o

abbrev pub may_fare : worlds.World → KeptStep → Bool
may_fare w s = may_carry (plans.plan w s.step) s.outcome

-- how the stores fare where nothing fails
abbrev pub fares_well : plans.Plan → StepOutcome
fares_well (plans.Loads w k h) = outcome.Loaded 0
fares_well _ = outcome.Fine
