-- What a client's step brings, by what the client is.
use Rattle.std.proofs.Common.{◌≡◌, ℕ, Bool, true, false, [], ◌∷◌, ◌++◌, Option, Some, None, refl, sym}
use Rattle.std.specs.Prelude.{if◌then◌else◌, is_some}
use Rattle.std.specs.List.{list_any}
use Rattle.ax_types.specs.declared.ids.End.TheVariants as end
use Rattle.ax_types.specs.declared.items.Item.TheVariants as item
use Rattle.ax_types.specs.declared.items.SkipReason.{SkipReason}
use Rattle.ax_types.specs.declared.items.SkipReason.TheVariants as reason
use Rattle.ax_types.specs.declared.packets.Payload.{Payload}
use Rattle.ax_types.specs.declared.steps.StepOutcome.TheVariants as outcome
use Rattle.ax_types.specs.declared.steps.WatchKind.{WatchKind}
use Rattle.spec_cluster.specs.Bag as bags
use Rattle.spec_client.specs.Clients as clients
use Rattle.spec_world.specs.Worlds as worlds
use Rattle.spec_world.specs.Plans as plans
use Rattle.spec_world.specs.Moves as moves
use Rattle.world_seats.specs.SeatPlans as seat_plans
use Rattle.world_seats.specs.declared.given.SeatStep.{SeatStep}
use Rattle.ax_world.specs.declared.brought.Brought.{Brought}
use Rattle.ax_world.specs.Scenes as scenes
use Rattle.ax_world.proofs.Doing.{shows_none}

-- a plan of a client's step moves a world as it moves its clients alone, and no store is asked
pub record Lifts (w : worlds.World) (p q : plans.Plan) : Type 0 where
  pub moved : moves.carried q outcome.Fine ≡ seat_plans.moves_world w p
  pub may : moves.may_carry q outcome.Fine ≡ true

pub lifted : (w v : worlds.World) (p q : plans.Plan) (step : SeatStep) (b : Brought) → Lifts w p q → step ≡ seat_plans.seat_step_of p
    → v ≡ record w { seats = (moves.carried p outcome.Fine).world.seats; bag = bags.with_packets w.bag step.packets } → b ≡ scenes.only_shown step.items → scenes.Does v b q
lifted w v p q step b lifts given after is = rw after (rw is (rw given (record { moved = sym lifts.moved; may = lifts.may })))

asks_if_lifts : (w : worlds.World) (c : ℕ) (s : worlds.Watcher) (r : Option SkipReason) (next : clients.ClientStep)
    → Lifts w (plans.client_asks_if (seat_plans.world_of_seats w.seats) c s r next) (plans.client_asks_if w c s r next)
asks_if_lifts w c s None next = record { moved = refl; may = refl }
asks_if_lifts w c s (Some r) next = record { moved = refl; may = refl }

asks_lifts : (w : worlds.World) (c : ℕ) (s : Option worlds.Watcher) (refusal : clients.Client → Option SkipReason) (next : clients.Client → clients.ClientStep)
    → Lifts w (plans.client_asks (seat_plans.world_of_seats w.seats) c s refusal next) (plans.client_asks w c s refusal next)
asks_lifts w c None refusal next = record { moved = refl; may = refl }
asks_lifts w c (Some s) refusal next = asks_if_lifts w c s (refusal s.client) (next s.client)

calls_lifts : (w : worlds.World) (c : ℕ) (s : Option worlds.Watcher) (next : clients.Client → clients.ClientStep)
    → Lifts w (plans.calls_at (seat_plans.world_of_seats w.seats) c s next) (plans.calls_at w c s next)
calls_lifts w c None next = record { moved = refl; may = refl }
calls_lifts w c (Some s) next = by_end (clients.has_ended s.client.state)
  where
    unsent : worlds.World → plans.Plan
    unsent u = plans.Shows (worlds.with_watcher u c (record s { client = clients.unsent s.client })) (item.Unsent (clients.own_session s.client.state) (clients.unsent_number s.client) ∷ [])

    asks : worlds.World → plans.Plan
    asks u = plans.client_asks_if u c s (clients.call_refusal s.client) (next s.client)

    by_end : (b : Bool) → Lifts w (if b then unsent (seat_plans.world_of_seats w.seats) else asks (seat_plans.world_of_seats w.seats)) (if b then unsent w else asks w)
    by_end true = record { moved = refl; may = refl }
    by_end false = asks_if_lifts w c s (clients.call_refusal s.client) (next s.client)

watches_lifts : (w : worlds.World) (c : ℕ) (kind : WatchKind) (s : Option worlds.Watcher) → Lifts w (plans.watches_at (seat_plans.world_of_seats w.seats) c kind s) (plans.watches_at w c kind s)
watches_lifts w c kind None = record { moved = refl; may = refl }
watches_lifts w c kind (Some s) = by_there (list_any (plans.same_kind kind) s.watches)
  where
    skips : worlds.World → plans.Plan
    skips u = plans.skips u reason.Watched

    watches : worlds.World → plans.Plan
    watches u = plans.shows_nothing (worlds.with_watcher u c (record s { watches = s.watches ++ kind ∷ [] }))

    by_there : (b : Bool) → Lifts w (if b then skips (seat_plans.world_of_seats w.seats) else watches (seat_plans.world_of_seats w.seats)) (if b then skips w else watches w)
    by_there true = record { moved = refl; may = refl }
    by_there false = record { moved = refl; may = refl }

receives_lifts : (w : worlds.World) (c k : ℕ) (p : Payload) (s : Option worlds.Watcher)
    → Lifts w (plans.receives_from (seat_plans.world_of_seats w.seats) c p (end.Node k) s) (plans.receives_from w c p (end.Node k) s)
receives_lifts w c k p None = record { moved = refl; may = refl }
receives_lifts w c k p (Some s) = record { moved = refl; may = refl }

pub asks_some : (w v : worlds.World) (c : ℕ) (s : Option worlds.Watcher) (refusal : clients.Client → Option SkipReason) (next : clients.Client → clients.ClientStep) (step : SeatStep) (b : Brought)
    → step ≡ seat_plans.seat_step_of (plans.client_asks (seat_plans.world_of_seats w.seats) c s refusal next)
    → v ≡ record w { seats = (moves.carried (plans.client_asks (seat_plans.world_of_seats w.seats) c s refusal next) outcome.Fine).world.seats; bag = bags.with_packets w.bag step.packets }
    → b ≡ scenes.only_shown step.items → scenes.Does v b (plans.client_asks w c s refusal next)
asks_some w v c s refusal next step b given after is =
    lifted w v (plans.client_asks (seat_plans.world_of_seats w.seats) c s refusal next) (plans.client_asks w c s refusal next) step b (asks_lifts w c s refusal next) given after is

pub calls_some : (w v : worlds.World) (c : ℕ) (s : Option worlds.Watcher) (next : clients.Client → clients.ClientStep) (step : SeatStep) (b : Brought)
    → step ≡ seat_plans.seat_step_of (plans.calls_at (seat_plans.world_of_seats w.seats) c s next)
    → v ≡ record w { seats = (moves.carried (plans.calls_at (seat_plans.world_of_seats w.seats) c s next) outcome.Fine).world.seats; bag = bags.with_packets w.bag step.packets }
    → b ≡ scenes.only_shown step.items → scenes.Does v b (plans.calls_at w c s next)
calls_some w v c s next step b given after is =
    lifted w v (plans.calls_at (seat_plans.world_of_seats w.seats) c s next) (plans.calls_at w c s next) step b (calls_lifts w c s next) given after is

pub watches_some : (w v : worlds.World) (c : ℕ) (kind : WatchKind) (s : Option worlds.Watcher) (step : SeatStep) (b : Brought)
    → step ≡ seat_plans.seat_step_of (plans.watches_at (seat_plans.world_of_seats w.seats) c kind s)
    → v ≡ record w { seats = (moves.carried (plans.watches_at (seat_plans.world_of_seats w.seats) c kind s) outcome.Fine).world.seats; bag = bags.with_packets w.bag step.packets }
    → b ≡ scenes.only_shown step.items → scenes.Does v b (plans.watches_at w c kind s)
watches_some w v c kind s step b given after is =
    lifted w v (plans.watches_at (seat_plans.world_of_seats w.seats) c kind s) (plans.watches_at w c kind s) step b (watches_lifts w c kind s) given after is

pub receives_some : (w v : worlds.World) (c k : ℕ) (p : Payload) (s : Option worlds.Watcher) (step : SeatStep) (b : Brought)
    → step ≡ seat_plans.seat_step_of (plans.receives_from (seat_plans.world_of_seats w.seats) c p (end.Node k) s)
    → v ≡ record w { seats = (moves.carried (plans.receives_from (seat_plans.world_of_seats w.seats) c p (end.Node k) s) outcome.Fine).world.seats; bag = bags.with_packets w.bag step.packets }
    → b ≡ scenes.only_shown step.items → scenes.Does v b (plans.receives_from w c p (end.Node k) s)
receives_some w v c k p s step b given after is =
    lifted w v (plans.receives_from (seat_plans.world_of_seats w.seats) c p (end.Node k) s) (plans.receives_from w c p (end.Node k) s) step b (receives_lifts w c k p s) given after is

-- where there is no such client
pub asks_none : (w : worlds.World) (c : ℕ) (s : Option worlds.Watcher) (refusal : clients.Client → Option SkipReason) (next : clients.Client → clients.ClientStep) (b : Brought)
    → is_some s ≡ false → b ≡ scenes.only_shown [] → scenes.Does w b (plans.client_asks w c s refusal next)
asks_none w c None refusal next b none is = rw is (shows_none w)
asks_none w c (Some s) refusal next b none is = absurd (cc)

pub calls_none : (w : worlds.World) (c : ℕ) (s : Option worlds.Watcher) (next : clients.Client → clients.ClientStep) (b : Brought)
    → is_some s ≡ false → b ≡ scenes.only_shown [] → scenes.Does w b (plans.calls_at w c s next)
calls_none w c None next b none is = rw is (shows_none w)
calls_none w c (Some s) next b none is = absurd (cc)

pub watches_none : (w : worlds.World) (c : ℕ) (kind : WatchKind) (s : Option worlds.Watcher) (b : Brought) → is_some s ≡ false → b ≡ scenes.only_shown []
    → scenes.Does w b (plans.watches_at w c kind s)
watches_none w c kind None b none is = rw is (shows_none w)
watches_none w c kind (Some s) b none is = absurd (cc)

pub receives_none : (w : worlds.World) (c k : ℕ) (p : Payload) (s : Option worlds.Watcher) (b : Brought) → is_some s ≡ false → b ≡ scenes.only_shown []
    → scenes.Does w b (plans.receives_from w c p (end.Node k) s)
receives_none w c k p None b none is = rw is (shows_none w)
receives_none w c k p (Some s) b none is = absurd (cc)

-- a client hears no client
pub receives_from_client : (w : worlds.World) (c d : ℕ) (p : Payload) (s : Option worlds.Watcher) (b : Brought) → b ≡ scenes.only_shown [] → scenes.Does w b (plans.receives_from w c p (end.Client d) s)
receives_from_client w c d p None b is = rw is (shows_none w)
receives_from_client w c d p (Some s) b is = rw is (shows_none w)
