-- A client's plan for the clients alone is its plan for the whole world.
use Rattle.std.proofs.Common.{◌≡◌, refl, ℕ, Bool, true, false, cond, Option, Some, None, List}
use Rattle.std.specs.List.{list_any}
use Rattle.ax_types.specs.Places as lists
use Rattle.ax_types.specs.declared.ids.End.TheVariants as end
use Rattle.ax_types.specs.declared.items.Item.{Item}
use Rattle.ax_types.specs.declared.items.SkipReason.{SkipReason}
use Rattle.ax_types.specs.declared.items.SkipReason.TheVariants as reason
use Rattle.ax_types.specs.declared.ops.Level.{Level}
use Rattle.ax_types.specs.declared.ops.Op.{Op}
use Rattle.ax_types.specs.declared.ops.Query.{Query}
use Rattle.ax_types.specs.declared.packets.Payload.{Payload}
use Rattle.ax_types.specs.declared.steps.Step.TheVariants as step
use Rattle.ax_types.specs.declared.steps.StepOutcome.{StepOutcome}
use Rattle.ax_types.specs.declared.steps.WatchKind.{WatchKind}
use Rattle.spec_client.specs.Clients as clients
use Rattle.spec_world.specs.Worlds as worlds
use Rattle.spec_world.specs.Plans as plans
use Rattle.spec_world.specs.Moves as moves
use Rattle.world_seats.specs.SeatPlans as seat_plans

asks_if : (w : worlds.World) (c : ℕ) (s : worlds.Watcher) (r : Option SkipReason) (next : clients.ClientStep) (o : StepOutcome)
    → moves.carried (plans.client_asks_if w c s r next) o ≡ seat_plans.moves_world w (plans.client_asks_if (seat_plans.world_of_seats w.seats) c s r next)
asks_if w c s None next o = refl
asks_if w c s (Some r) next o = refl

asks : (w : worlds.World) (c : ℕ) (s : Option worlds.Watcher) (refusal : clients.Client → Option SkipReason) (next : clients.Client → clients.ClientStep) (o : StepOutcome)
    → moves.carried (plans.client_asks w c s refusal next) o ≡ seat_plans.moves_world w (plans.client_asks (seat_plans.world_of_seats w.seats) c s refusal next)
asks w c None refusal next o = refl
asks w c (Some s) refusal next o = asks_if w c s (refusal s.client) (next s.client) o

shows_if : (w : worlds.World) (b : Bool) (c : ℕ) (new : worlds.Watcher) (items : List Item) (p q : plans.Plan) (o : StepOutcome) → moves.carried p o ≡ seat_plans.moves_world w q
    → moves.carried (cond b (plans.Shows (worlds.with_watcher w c new) items) p) o ≡ seat_plans.moves_world w (cond b (plans.Shows (worlds.with_watcher (seat_plans.world_of_seats w.seats) c new) items) q)
shows_if w true c new items p q o e = refl
shows_if w false c new items p q o e = e

calls : (w : worlds.World) (c : ℕ) (s : Option worlds.Watcher) (next : clients.Client → clients.ClientStep) (o : StepOutcome)
    → moves.carried (plans.calls_at w c s next) o ≡ seat_plans.moves_world w (plans.calls_at (seat_plans.world_of_seats w.seats) c s next)
calls w c None next o = refl
calls w c (Some s) next o = shows_if w (clients.has_ended s.client.state) c _ _ _ _ o (asks_if w c s (clients.call_refusal s.client) (next s.client) o)

watches_if : (w : worlds.World) (b : Bool) (c : ℕ) (new : worlds.Watcher) (o : StepOutcome)
    → moves.carried (cond b (plans.skips w reason.Watched) (plans.shows_nothing (worlds.with_watcher w c new))) o ≡ seat_plans.moves_world w (cond b (plans.skips (seat_plans.world_of_seats w.seats) reason.Watched) (plans.shows_nothing (worlds.with_watcher (seat_plans.world_of_seats w.seats) c new)))
watches_if w true c new o = refl
watches_if w false c new o = refl

watches : (w : worlds.World) (c : ℕ) (kind : WatchKind) (s : Option worlds.Watcher) (o : StepOutcome)
    → moves.carried (plans.watches_at w c kind s) o ≡ seat_plans.moves_world w (plans.watches_at (seat_plans.world_of_seats w.seats) c kind s)
watches w c kind None o = refl
watches w c kind (Some s) o = watches_if w (list_any (plans.same_kind kind) s.watches) c _ o

receives : (w : worlds.World) (c k : ℕ) (p : Payload) (s : Option worlds.Watcher) (o : StepOutcome)
    → moves.carried (plans.receives_from w c p (end.Node k) s) o ≡ seat_plans.moves_world w (plans.receives_from (seat_plans.world_of_seats w.seats) c p (end.Node k) s)
receives w c k p None o = refl
receives w c k p (Some s) o = refl

pub open_lifts : (w : worlds.World) (c k : ℕ) (o : StepOutcome) → moves.carried (plans.plan w (step.Open c k)) o ≡ seat_plans.moves_world w (plans.plan (seat_plans.world_of_seats w.seats) (step.Open c k))
open_lifts w c k o = asks w c (lists.at_place w.seats c) _ _ o

pub switch_lifts : (w : worlds.World) (c k : ℕ) (o : StepOutcome) → moves.carried (plans.plan w (step.Switch c k)) o ≡ seat_plans.moves_world w (plans.plan (seat_plans.world_of_seats w.seats) (step.Switch c k))
switch_lifts w c k o = asks w c (lists.at_place w.seats c) _ _ o

pub resend_lifts : (w : worlds.World) (c : ℕ) (o : StepOutcome) → moves.carried (plans.plan w (step.Resend c)) o ≡ seat_plans.moves_world w (plans.plan (seat_plans.world_of_seats w.seats) (step.Resend c))
resend_lifts w c o = asks w c (lists.at_place w.seats c) _ _ o

pub keep_lifts : (w : worlds.World) (c : ℕ) (o : StepOutcome) → moves.carried (plans.plan w (step.Keep c)) o ≡ seat_plans.moves_world w (plans.plan (seat_plans.world_of_seats w.seats) (step.Keep c))
keep_lifts w c o = asks w c (lists.at_place w.seats c) _ _ o

pub close_lifts : (w : worlds.World) (c : ℕ) (o : StepOutcome) → moves.carried (plans.plan w (step.Close c)) o ≡ seat_plans.moves_world w (plans.plan (seat_plans.world_of_seats w.seats) (step.Close c))
close_lifts w c o = asks w c (lists.at_place w.seats c) _ _ o

pub watch_lifts : (w : worlds.World) (c : ℕ) (kind : WatchKind) (o : StepOutcome) → moves.carried (plans.plan w (step.Watch c kind)) o ≡ seat_plans.moves_world w (plans.plan (seat_plans.world_of_seats w.seats) (step.Watch c kind))
watch_lifts w c kind o = watches w c kind (lists.at_place w.seats c) o

pub call_lifts : (w : worlds.World) (c : ℕ) (name : List ℕ) (op : Op) (o : StepOutcome) → moves.carried (plans.plan w (step.Call c name op)) o ≡ seat_plans.moves_world w (plans.plan (seat_plans.world_of_seats w.seats) (step.Call c name op))
call_lifts w c name op o = calls w c (lists.at_place w.seats c) _ o

pub query_lifts : (w : worlds.World) (c : ℕ) (level : Level) (name : List ℕ) (q : Query) (o : StepOutcome)
    → moves.carried (plans.plan w (step.Query c level name q)) o ≡ seat_plans.moves_world w (plans.plan (seat_plans.world_of_seats w.seats) (step.Query c level name q))
query_lifts w c level name q o = calls w c (lists.at_place w.seats c) _ o

pub receipt_lifts : (w : worlds.World) (c k : ℕ) (p : Payload) (o : StepOutcome)
    → moves.carried (plans.receives_from w c p (end.Node k) (lists.at_place w.seats c)) o ≡ seat_plans.moves_world w (plans.receives_from (seat_plans.world_of_seats w.seats) c p (end.Node k) (lists.at_place w.seats c))
receipt_lifts w c k p o = receives w c k p (lists.at_place w.seats c) o
