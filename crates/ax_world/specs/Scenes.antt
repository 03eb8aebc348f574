-- A run in hand, and what a step brings to its world.
use Rattle.std.specs.Option.{option_map}
use Rattle.std.specs.Prelude.{ℕ, suc, ◌≡◌, ◌≤◌, ◌<◌, ◌^◌, ◌-◌, Bool, true, false, Option, Some, None, List, [], ◌∷◌, ◌++◌, length, drop, if◌then◌else◌}
use Rattle.ax_types.specs.declared.entries.Act.{Act}
use Rattle.ax_types.specs.declared.ids.End.{End}
use Rattle.ax_types.specs.declared.ids.End.TheVariants as end
use Rattle.ax_types.specs.declared.items.Item.{Item}
use Rattle.ax_types.specs.declared.items.Item.TheVariants as item
use Rattle.ax_types.specs.declared.items.SkipReason.{SkipReason}
use Rattle.ax_types.specs.Places as lists
use Rattle.ax_types.specs.declared.packets.Packet.{Packet}
use Rattle.ax_types.specs.declared.sessions.ServerInput.{ServerInput}
use Rattle.ax_types.specs.declared.sessions.ServerOut.{ServerOut}
use Rattle.ax_types.specs.declared.steps.StepOutcome.{StepOutcome}
use Rattle.ax_types.specs.declared.steps.StepOutcome.TheVariants as outcome
use Rattle.spec_cluster.specs.Bag as bags
use Rattle.spec_world.specs.Worlds as worlds
use Rattle.spec_world.specs.Plans as plans
use Rattle.spec_world.specs.Moves as moves
use Rattle.ax_world.specs.declared.brought.Brought.{Brought}
use Rattle.ax_world.specs.declared.deliveries.Arrival.{Arrival}
use Rattle.ax_world.specs.declared.deliveries.Arrival.TheVariants as arrival

-- a world, how many calls changed its clients, and whether want of memory has left a node or a client half done
pub record OpenScene : Type 0 where
  pub world : worlds.World
  pub calls : ℕ
  pub hosts_spent : Bool
  pub seats_spent : Bool

-- nothing is left half done
pub record AreWhole (s : OpenScene) : Type 0 where
  pub hosts : s.hosts_spent ≡ false
  pub seats : s.seats_spent ≡ false

-- a further step may be made
pub record MayTakeStep (s : OpenScene) : Type 0 where
  pub hosts : s.hosts_spent ≡ false
  pub seats : s.seats_spent ≡ false
  pub room : s.calls < 2 ^ 32

-- after a step, nothing is half done, and at most one call more changed the clients
pub record StaysOpen (before after : OpenScene) : Type 0 where
  pub hosts : after.hosts_spent ≡ false
  pub seats : after.seats_spent ≡ false
  pub calls : after.calls ≤ suc before.calls

-- what a step brings that only shows items, and one whose node halts
abbrev pub only_shown : List Item → Brought
only_shown items = record { items = items; acts = []; outcome = outcome.Fine }

abbrev pub skipped : SkipReason → Brought
skipped r = only_shown (item.Skip r ∷ [])

abbrev pub halted : ℕ → ℕ → Brought
halted k saved = record { items = item.Halted k ∷ []; acts = []; outcome = outcome.Failed saved }

-- a history with more acts at its end
abbrev pub with_acts : List (ℕ × Act) → List (ℕ × Act) → List (ℕ × Act)
with_acts history [] = history
with_acts history (a ∷ acts) = history ++ a ∷ acts

-- where a step left the world so but for the history: the world after it, and its items
abbrev pub moved_with : worlds.World → Brought → moves.Moved
moved_with w b = record { world = record w { history = with_acts w.history b.acts }; items = b.items }

-- a step did what a plan asks for
pub record Does (w : worlds.World) (b : Brought) (p : plans.Plan) : Type 0 where
  pub moved : moved_with w b ≡ moves.carried p b.outcome
  pub may : moves.may_carry p b.outcome ≡ true

-- the plan of an input at a node, where there is such a node
abbrev pub serves_at : worlds.World → ℕ → Option worlds.Host → ServerInput → plans.Plan
serves_at w k None i = plans.shows_nothing w
serves_at w k (Some h) i = plans.Serves w k h i

-- the acts of the places that a server's step is the first to apply
abbrev pub first_applied : List (ℕ × Act) → ServerOut → List (ℕ × Act)
first_applied history o = drop (length history - (o.committed - length o.acts)) o.acts

-- what a server's step brings whose store calls succeeded
abbrev pub server_served : worlds.World → ℕ → ServerOut → Brought
server_served w k o = record { items = moves.server_items w k o; acts = first_applied w.history o; outcome = outcome.Fine }

-- whether all of a packet arrives, where so many bytes of it do, or all
abbrev pub is_whole : Option ℕ → (Packet → Bool)
is_whole None = λ p. true
is_whole (Some bytes) = plans.is_within bytes

abbrev pub packet_at : worlds.World → ℕ → Option Packet
packet_at w number = option_map (λ s. s.packet) (bags.kept_at w.bag number)

-- what arrives of a packet: all of it, or nothing that counts
abbrev pub arrived_whole : Option ℕ → Packet → Option Packet
arrived_whole bytes p = if is_whole bytes p then Some p else None

-- a packet can be delivered, and this arrives of it
pub record Comes (w : worlds.World) (number : ℕ) (bytes : Option ℕ) (arrived : Option Packet) : Type 0 where
  pub packet : Packet
  pub free : bags.take_refusal w.bag (worlds.up_nodes w) number ≡ None
  pub kept : packet_at w number ≡ Some packet
  pub comes : arrived ≡ arrived_whole bytes packet

-- what comes of a packet that is to be delivered
abbrev pub ArrivesAs : worlds.World → ℕ → Option ℕ → Arrival → Type 0
ArrivesAs w number bytes (arrival.Refused r) = bags.take_refusal w.bag (worlds.up_nodes w) number ≡ Some r
ArrivesAs w number bytes (arrival.Comes arrived) = Comes w number bytes arrived

-- a receiver can be reached: a node that is up, or a client
abbrev pub IsReachable : worlds.World → End → Type 0
IsReachable w (end.Node k) = worlds.up_in (lists.at_place w.hosts k) ≡ true
IsReachable w (end.Client c) = Unit {0}

abbrev pub IsReachableBy : worlds.World → Option Packet → Type 0
IsReachableBy w None = Unit {0}
IsReachableBy w (Some p) = IsReachable w p.to

-- the plan of what arrived of a packet
abbrev pub taken : worlds.World → Option Packet → plans.Plan
taken w None = plans.shows_nothing w
taken w (Some p) = plans.reaches w p p.to

-- what a start brings, by how the store fared
abbrev pub start_brought : ℕ → StepOutcome → Brought
start_brought k (outcome.Failed saved) = halted k saved
start_brought k o = record { items = []; acts = []; outcome = o }
