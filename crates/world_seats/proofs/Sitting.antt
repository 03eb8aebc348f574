-- The clients after one of them was changed.
use Rattle.std.proofs.Common.{◌≡◌, ◌∙◌, refl, sym, ap, ℕ, zero, suc, Bool, true, false, cond, Option, Some, None, List, [], ◌∷◌, ◌≤◌, ◌<◌, ◌^◌, ◌+◌, map, length, set, get_or, arith, subst}
use Rattle.std.specs.Prelude.{slice_get, ◌++◌}
use Rattle.std.specs.List.{list_any, AllByRecursion}
use Rattle.std.proofs.lemmas.Option.{same_Some, slice_get_read}
use Rattle.ax_types.specs.Places as lists
use Rattle.ax_types.specs.declared.ids.End.TheVariants as end
use Rattle.ax_types.specs.declared.items.SkipReason.{SkipReason}
use Rattle.ax_types.specs.declared.items.SkipReason.TheVariants as reason
use Rattle.ax_types.specs.declared.packets.Payload.{Payload}
use Rattle.ax_types.specs.declared.steps.WatchKind.{WatchKind}
use Rattle.spec_raft.specs.Positions as positions
use Rattle.spec_client.specs.Clients as clients
use Rattle.spec_client.specs.Receipts as receipts
use Rattle.spec_world.specs.Worlds as worlds
use Rattle.spec_world.specs.Plans as plans
use Rattle.world_seats.specs.declared.given.SeatStep.{SeatStep}
use Rattle.world_seats.specs.SeatPlans as seat_plans
use Rattle.world_seats.specs.SeatAnswers as answers
use Rattle.world_seats.specs.Seated as seated

-- the clients of what is kept
abbrev pub watchers : List answers.CountedWatcher → List worlds.Watcher
watchers xs = map (λ (s : answers.CountedWatcher). s.watcher) xs

watchers-length : (xs : List answers.CountedWatcher) → length (watchers xs) ≡ length xs
watchers-length [] = refl
watchers-length (x ∷ xs) = ap suc (watchers-length xs)

pub get-watchers : (xs : List answers.CountedWatcher) (i : ℕ) (x : answers.CountedWatcher) → slice_get xs i ≡ Some x → slice_get (watchers xs) i ≡ Some x.watcher
get-watchers [] i x e = cc
get-watchers (y ∷ xs) zero x e = ap (λ (s : answers.CountedWatcher). Some s.watcher) (same_Some y x e)
get-watchers (y ∷ xs) (suc i) x e = get-watchers xs i x e

pub set-watchers : (xs : List answers.CountedWatcher) (i : ℕ) (x : answers.CountedWatcher) (new : worlds.Watcher) → x.watcher ≡ new → watchers (set xs i x) ≡ positions.change_place (λ old. new) (watchers xs) (suc i)
set-watchers [] i x new e = refl
set-watchers (y ∷ xs) zero x new e = ap (λ w. w ∷ watchers xs) e
set-watchers (y ∷ xs) (suc i) x new e = ap (λ ws. y.watcher ∷ ws) (set-watchers xs i x new e)

change_same : (ws : List worlds.Watcher) (i : ℕ) (w : worlds.Watcher) → slice_get ws i ≡ Some w → positions.change_place (λ old. w) ws (suc i) ≡ ws
change_same [] i w e = refl
change_same (v ∷ ws) zero w e = ap (λ x. x ∷ ws) (sym (same_Some v w e))
change_same (v ∷ ws) (suc i) w e = ap (λ x. v ∷ x) (change_same ws i w e)

-- a plan at a client gives this step, and makes this client of it
pub record IsPlanned (seats : List worlds.Watcher) (c : ℕ) (p : plans.Plan) (s : SeatStep) (new : worlds.Watcher) : Type 0 where
  pub step : s ≡ seat_plans.seat_step_of p
  pub after : (calls : ℕ) → seat_plans.seats_after (record { seats = seats; calls = calls; is_spent = false }) p ≡ record { seats = positions.change_place (λ old. new) seats c; calls = suc calls; is_spent = false }

shown_plan : (seats : List worlds.Watcher) (i : ℕ) (w : worlds.Watcher) (r : SkipReason) → slice_get seats i ≡ Some w
    → IsPlanned seats (suc i) (plans.skips (seat_plans.world_of_seats seats) r) (answers.skip_step r) w
shown_plan seats i w r e = record {
  step = refl;
  after = λ calls. ap (λ (ss : List worlds.Watcher). let x : seat_plans.CountedSeats = record { seats = ss; calls = suc calls; is_spent = false } in x) (sym (change_same seats i w e));
}

asked_if : (seats : List worlds.Watcher) (i : ℕ) (w : worlds.Watcher) (r : Option SkipReason) (next : clients.ClientStep) → slice_get seats i ≡ Some w
    → IsPlanned seats (suc i) (plans.client_asks_if (seat_plans.world_of_seats seats) (suc i) w r next) (answers.asked_step (suc i) w r next) (answers.asked_watcher w r next)
asked_if seats i w None next e = record { step = refl; after = λ calls. refl }
asked_if seats i w (Some r) next e = shown_plan seats i w r e

planned_at : (P : Option worlds.Watcher → Type 0) (o : Option worlds.Watcher) (w : worlds.Watcher) → o ≡ Some w → P (Some w) → P o
planned_at P o w e h = subst P (sym e) h

pub asked : (seats : List worlds.Watcher) (i : ℕ) (w : worlds.Watcher) (refusal : clients.Client → Option SkipReason) (next : clients.Client → clients.ClientStep) → slice_get seats i ≡ Some w
    → IsPlanned seats (suc i) (plans.client_asks (seat_plans.world_of_seats seats) (suc i) (slice_get seats i) refusal next) (answers.asked_step (suc i) w (refusal w.client) (next w.client)) (answers.asked_watcher w (refusal w.client) (next w.client))
asked seats i w refusal next e =
    planned_at (λ o. IsPlanned seats (suc i) (plans.client_asks (seat_plans.world_of_seats seats) (suc i) o refusal next) (answers.asked_step (suc i) w (refusal w.client) (next w.client)) (answers.asked_watcher w (refusal w.client) (next w.client)))
    (slice_get seats i) w e (asked_if seats i w (refusal w.client) (next w.client) e)

called_if : (seats : List worlds.Watcher) (i : ℕ) (w : worlds.Watcher) (b : Bool) (next : clients.ClientStep) → slice_get seats i ≡ Some w
    → IsPlanned seats (suc i)
    (cond b (plans.Shows (worlds.with_watcher (seat_plans.world_of_seats seats) (suc i) (record w { client = clients.unsent w.client })) (answers.unsent_step w).items) (plans.client_asks_if (seat_plans.world_of_seats seats) (suc i) w (clients.call_refusal w.client) next))
    (cond b (answers.unsent_step w) (answers.asked_step (suc i) w (clients.call_refusal w.client) next))
    (cond b (record w { client = clients.unsent w.client }) (answers.asked_watcher w (clients.call_refusal w.client) next))
called_if seats i w true next e = record { step = refl; after = λ calls. refl }
called_if seats i w false next e = asked_if seats i w (clients.call_refusal w.client) next e

pub called : (seats : List worlds.Watcher) (i : ℕ) (w : worlds.Watcher) (next : clients.Client → clients.ClientStep) → slice_get seats i ≡ Some w
    → IsPlanned seats (suc i) (plans.calls_at (seat_plans.world_of_seats seats) (suc i) (slice_get seats i) next) (answers.called_step (suc i) w (next w.client)) (answers.called_watcher w (next w.client))
called seats i w next e =
    planned_at (λ o. IsPlanned seats (suc i) (plans.calls_at (seat_plans.world_of_seats seats) (suc i) o next) (answers.called_step (suc i) w (next w.client)) (answers.called_watcher w (next w.client)))
    (slice_get seats i) w e (called_if seats i w (clients.has_ended w.client.state) (next w.client) e)

watching_if : (seats : List worlds.Watcher) (i : ℕ) (w : worlds.Watcher) (b : Bool) (kind : WatchKind) → slice_get seats i ≡ Some w
    → IsPlanned seats (suc i)
    (cond b (plans.skips (seat_plans.world_of_seats seats) reason.Watched) (plans.shows_nothing (worlds.with_watcher (seat_plans.world_of_seats seats) (suc i) (record w { watches = w.watches ++ kind ∷ [] }))))
    (cond b (answers.skip_step reason.Watched) (record { items = []; packets = [] }))
    (cond b w (record w { watches = w.watches ++ kind ∷ [] }))
watching_if seats i w true kind e = shown_plan seats i w reason.Watched e
watching_if seats i w false kind e = record { step = refl; after = λ calls. refl }

pub watching : (seats : List worlds.Watcher) (i : ℕ) (w : worlds.Watcher) (kind : WatchKind) → slice_get seats i ≡ Some w
    → IsPlanned seats (suc i) (plans.watches_at (seat_plans.world_of_seats seats) (suc i) kind (slice_get seats i)) (answers.watching_step w kind) (answers.watching w kind)
watching seats i w kind e =
    planned_at (λ o. IsPlanned seats (suc i) (plans.watches_at (seat_plans.world_of_seats seats) (suc i) kind o) (answers.watching_step w kind) (answers.watching w kind))
    (slice_get seats i) w e (watching_if seats i w (list_any (plans.same_kind kind) w.watches) kind e)

pub received : (seats : List worlds.Watcher) (i k : ℕ) (w : worlds.Watcher) (p : Payload) → slice_get seats i ≡ Some w
    → IsPlanned seats (suc i) (plans.receives_from (seat_plans.world_of_seats seats) (suc i) p (end.Node k) (slice_get seats i)) (answers.asked_step (suc i) w None (receipts.receives w.client k p)) (answers.asked_watcher w None (receipts.receives w.client k p))
received seats i k w p e =
    planned_at (λ o. IsPlanned seats (suc i) (plans.receives_from (seat_plans.world_of_seats seats) (suc i) p (end.Node k) o) (answers.asked_step (suc i) w None (receipts.receives w.client k p)) (answers.asked_watcher w None (receipts.receives w.client k p)))
    (slice_get seats i) w e (record { step = refl; after = λ calls. refl })

pub asked_at : (seats : List worlds.Watcher) (i c : ℕ) (w : worlds.Watcher) (refusal : clients.Client → Option SkipReason) (next : clients.Client → clients.ClientStep) → suc i ≡ c → slice_get seats i ≡ Some w
    → IsPlanned seats c (plans.client_asks (seat_plans.world_of_seats seats) c (lists.at_place seats c) refusal next) (answers.asked_step c w (refusal w.client) (next w.client)) (answers.asked_watcher w (refusal w.client) (next w.client))
asked_at seats i c w refusal next same e =
    subst (λ k. IsPlanned seats k (plans.client_asks (seat_plans.world_of_seats seats) k (lists.at_place seats k) refusal next) (answers.asked_step k w (refusal w.client) (next w.client)) (answers.asked_watcher w (refusal w.client) (next w.client))) same (asked seats i w refusal next e)

pub called_at : (seats : List worlds.Watcher) (i c : ℕ) (w : worlds.Watcher) (next : clients.Client → clients.ClientStep) → suc i ≡ c → slice_get seats i ≡ Some w
    → IsPlanned seats c (plans.calls_at (seat_plans.world_of_seats seats) c (lists.at_place seats c) next) (answers.called_step c w (next w.client)) (answers.called_watcher w (next w.client))
called_at seats i c w next same e =
    subst (λ k. IsPlanned seats k (plans.calls_at (seat_plans.world_of_seats seats) k (lists.at_place seats k) next) (answers.called_step k w (next w.client)) (answers.called_watcher w (next w.client))) same (called seats i w next e)

pub watching_at : (seats : List worlds.Watcher) (i c : ℕ) (w : worlds.Watcher) (kind : WatchKind) → suc i ≡ c → slice_get seats i ≡ Some w
    → IsPlanned seats c (plans.watches_at (seat_plans.world_of_seats seats) c kind (lists.at_place seats c)) (answers.watching_step w kind) (answers.watching w kind)
watching_at seats i c w kind same e =
    subst (λ k. IsPlanned seats k (plans.watches_at (seat_plans.world_of_seats seats) k kind (lists.at_place seats k)) (answers.watching_step w kind) (answers.watching w kind)) same (watching seats i w kind e)

pub received_at : (seats : List worlds.Watcher) (i c : ℕ) (k : ℕ) (w : worlds.Watcher) (p : Payload) → suc i ≡ c → slice_get seats i ≡ Some w
    → IsPlanned seats c (plans.receives_from (seat_plans.world_of_seats seats) c p (end.Node k) (lists.at_place seats c)) (answers.asked_step c w None (receipts.receives w.client k p)) (answers.asked_watcher w None (receipts.receives w.client k p))
received_at seats i c k w p same e =
    subst (λ d. IsPlanned seats d (plans.receives_from (seat_plans.world_of_seats seats) d p (end.Node k) (lists.at_place seats d)) (answers.asked_step d w None (receipts.receives w.client k p)) (answers.asked_watcher w None (receipts.receives w.client k p))) same (received seats i k w p e)

member : (P : answers.CountedWatcher → Type 0) (xs : List answers.CountedWatcher) (i : ℕ) (x : answers.CountedWatcher) → AllByRecursion P xs → slice_get xs i ≡ Some x → P x
member P [] i x h e = cc
member P (y ∷ xs) zero x h e = subst P (same_Some y x e) h.0
member P (y ∷ xs) (suc i) x h e = member P xs i x h.1 e

later : (xs : List answers.CountedWatcher) (calls : ℕ) → AllByRecursion (seated.IsSeated calls) xs → AllByRecursion (seated.IsSeated (suc calls)) xs
later [] calls h = tt
later (x ∷ xs) calls h = (record { whole = h.0.whole; within = omega (arith, h.0.within) }, later xs calls h.1)

all_set : (xs : List answers.CountedWatcher) (calls i : ℕ) (y : answers.CountedWatcher) → AllByRecursion (seated.IsSeated (suc calls)) xs → seated.IsSeated (suc calls) y → AllByRecursion (seated.IsSeated (suc calls)) (set xs i y)
all_set [] calls i y h g = tt
all_set (x ∷ xs) calls zero y h g = (g, h.1)
all_set (x ∷ xs) calls (suc i) y h g = (h.0, all_set xs calls i y h.1 g)

-- what is seen of the clients that are kept
abbrev pub seen : List answers.CountedWatcher → ℕ → Bool → seat_plans.CountedSeats
seen xs calls is_spent = record { seats = watchers xs; calls = calls; is_spent = is_spent }

-- the client at an index
pub found : (xs : List answers.CountedWatcher) (i c calls : ℕ) (is_spent : Bool) (now : seat_plans.CountedSeats) (x : answers.CountedWatcher)
    → seen xs calls is_spent ≡ now → suc i ≡ c → c ≤ length now.seats → x ≡ get_or xs i x → slice_get xs i ≡ Some x
found xs i c calls is_spent now x view same known read =
    let long : length now.seats ≡ length xs = ap (λ (s : seat_plans.CountedSeats). length s.seats) (sym view) ∙ watchers-length xs in
    slice_get_read xs (length xs) i x refl (omega (arith, same, known, long)) read

pub found_seen : (xs : List answers.CountedWatcher) (i c calls : ℕ) (is_spent : Bool) (now : seat_plans.CountedSeats) (x : answers.CountedWatcher)
    → seen xs calls is_spent ≡ now → suc i ≡ c → c ≤ length now.seats → x ≡ get_or xs i x → slice_get now.seats i ≡ Some x.watcher
found_seen xs i c calls is_spent now x view same known read =
    ap (λ (s : seat_plans.CountedSeats). slice_get s.seats i) (sym view) ∙ get-watchers xs i x (found xs i c calls is_spent now x view same known read)

after_here : (xs : List answers.CountedWatcher) (i calls : ℕ) (is_spent : Bool) (y : answers.CountedWatcher) (p : plans.Plan) (s : SeatStep) (new : worlds.Watcher)
    → is_spent ≡ false → y.watcher ≡ new → IsPlanned (watchers xs) (suc i) p s new → seen (set xs i y) (calls + 1) false ≡ seat_plans.seats_after (seen xs calls is_spent) p
after_here xs i calls is_spent y p s new whole is planned =
    ap (λ (ws : List worlds.Watcher). let z : seat_plans.CountedSeats = record { seats = ws; calls = calls + 1; is_spent = false } in z) (set-watchers xs i y new is)
    ∙ ap (λ n. let z : seat_plans.CountedSeats = record { seats = positions.change_place (λ old. new) (watchers xs) (suc i); calls = n; is_spent = false } in z) (let e : calls + 1 ≡ suc calls = omega arith in e)
    ∙ sym (planned.after calls)
    ∙ ap (λ b. seat_plans.seats_after (seen xs calls b) p) (sym whole)

-- what is seen after one of them was changed
pub after_step : (xs : List answers.CountedWatcher) (i c calls : ℕ) (is_spent : Bool) (now : seat_plans.CountedSeats) (x y : answers.CountedWatcher) (p : plans.Plan) (s : SeatStep) (new : worlds.Watcher)
    → seen xs calls is_spent ≡ now → now.is_spent ≡ false → suc i ≡ c → IsPlanned now.seats c p s new → answers.IsChanged x y new
    → seen (set xs i y) (calls + 1) false ≡ seat_plans.seats_after now p
after_step xs i c calls is_spent now x y p s new view whole same planned changed =
    let here : IsPlanned (watchers xs) (suc i) p s new =
    subst (λ k. IsPlanned (watchers xs) k p s new) (sym same) (subst (λ (n : seat_plans.CountedSeats). IsPlanned n.seats c p s new) (sym view) planned) in
    after_here xs i calls is_spent y p s new (ap (λ (n : seat_plans.CountedSeats). n.is_spent) view ∙ whole) changed.watcher here
    ∙ ap (λ (n : seat_plans.CountedSeats). seat_plans.seats_after n p) view

-- what is known of a client
pub seated_at : (xs : List answers.CountedWatcher) (i calls : ℕ) (x : answers.CountedWatcher) → seated.AreSeated xs calls false → slice_get xs i ≡ Some x → seated.IsSeated calls x
seated_at xs i calls x h at = member (seated.IsSeated calls) xs i x (h.each refl) at

-- and of all of them then
pub sat_down : (xs : List answers.CountedWatcher) (i calls : ℕ) (x y : answers.CountedWatcher) (new : worlds.Watcher) (is_spent : Bool) → seated.AreSeated xs calls false → slice_get xs i ≡ Some x → calls < 2 ^ 32
    → answers.IsChanged x y new → seated.AreSeated (set xs i y) (suc calls) is_spent
sat_down xs i calls x y new is_spent h at room changed = record {
  each = λ whole. all_set xs calls i y (later xs calls (h.each refl)) (record { whole = changed.whole; within = omega (arith, changed.calls, (seated_at xs i calls x h at).within) });
  few = omega (arith, room);
}

-- the same, by what is seen of them
pub sat_still : (xs : List answers.CountedWatcher) (i c calls : ℕ) (is_spent : Bool) (now : seat_plans.CountedSeats) (x y : answers.CountedWatcher) (new : worlds.Watcher)
    → seen xs calls is_spent ≡ now → now.is_spent ≡ false → now.calls < 2 ^ 32 → suc i ≡ c → c ≤ length now.seats → x ≡ get_or xs i x
    → seated.AreSeated xs calls is_spent → answers.IsChanged x y new → seated.AreSeated (set xs i y) (calls + 1) false
sat_still xs i c calls is_spent now x y new view whole room same known read h changed =
    let unspent : is_spent ≡ false = ap (λ (n : seat_plans.CountedSeats). n.is_spent) view ∙ whole in
    let few : calls < 2 ^ 32 = omega (arith, room, ap (λ (n : seat_plans.CountedSeats). n.calls) view) in
    let more : suc calls ≡ calls + 1 = omega arith in
    subst (λ n. seated.AreSeated (set xs i y) n false) more
    (sat_down xs i calls x y new false (subst (seated.AreSeated xs calls) unspent h) (found xs i c calls is_spent now x view same known read) few changed)
