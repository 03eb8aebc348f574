-- What a plan of a client's step gives, where of the world only its clients count.
use Rattle.std.specs.Prelude.{ℕ, suc, Bool, List, [], map}
use Rattle.ax_types.specs.Places as lists
use Rattle.ax_types.specs.declared.ids.End.TheVariants as end
use Rattle.ax_types.specs.declared.packets.Packet.{Packet}
use Rattle.ax_types.specs.declared.packets.Payload.{Payload}
use Rattle.ax_types.specs.declared.steps.Step.{Step}
use Rattle.ax_types.specs.declared.steps.StepOutcome.TheVariants as outcome
use Rattle.spec_cluster.specs.Bag as bags
use Rattle.spec_world.specs.Worlds as worlds
use Rattle.spec_world.specs.Plans as plans
use Rattle.spec_world.specs.Moves as moves
use Rattle.world_seats.specs.declared.given.SeatStep.{SeatStep}

-- the clients by number, with how many calls changed them, and whether want of memory has left one of them half done
pub record CountedSeats : Type 0 where
  pub seats : List worlds.Watcher
  pub calls : ℕ
  pub is_spent : Bool

-- a world of these clients alone
abbrev pub world_of_seats : List worlds.Watcher → worlds.World
world_of_seats seats = record { timeout = 0; hosts = []; seats = seats; bag = bags.empty_bag; history = [] }

-- what a step asks of these clients, and a payload from a node
abbrev pub plan_at : CountedSeats → Step → plans.Plan
plan_at s st = plans.plan (world_of_seats s.seats) st

abbrev pub receipt_at : CountedSeats → ℕ → ℕ → Payload → plans.Plan
receipt_at s c k payload = plans.receives_from (world_of_seats s.seats) c payload (end.Node k) (lists.at_place s.seats c)

-- the packets that a client's plan sends
abbrev pub packets_of : plans.Plan → List Packet
packets_of (plans.Asks w c s next) = map (moves.from_client c) next.out.sends
packets_of (plans.Serves w k h i) = []
packets_of (plans.Loads w k h) = []
packets_of (plans.Shows w items) = []

-- what a client's plan gives, and the clients after it
abbrev pub seat_step_of : plans.Plan → SeatStep
seat_step_of p = record { items = (moves.carried p outcome.Fine).items; packets = packets_of p }

abbrev pub seats_after : CountedSeats → plans.Plan → CountedSeats
seats_after s p = record s { seats = (moves.carried p outcome.Fine).world.seats; calls = suc s.calls }

-- a client's plan for these clients alone, as it moves a world
abbrev pub moves_world : worlds.World → plans.Plan → moves.Moved
moves_world w p = record {
  world = record w { seats = (moves.carried p outcome.Fine).world.seats; bag = bags.with_packets w.bag (packets_of p) };
  items = (moves.carried p outcome.Fine).items;
}
