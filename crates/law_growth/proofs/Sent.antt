-- What was sent stays, and what the network keeps was sent.
use Rattle.std.proofs.Common.{◌≡◌, ℕ, zero, suc, ◌-◌, List, [], ◌∷◌, ◌++◌, length, map, drop, refl, ap, sym, ◌∙◌, subst, append_assoc, append-nil, inl, inr}
use Rattle.std.specs.Prelude.{false}
use Rattle.std.specs.List.{AllByRecursion}
use Rattle.ax_types.specs.declared.packets.Packet.{Packet}
use Rattle.ax_types.specs.declared.steps.KeptStep.{KeptStep}
use Rattle.ax_types.specs.declared.steps.StepOutcome.{StepOutcome}
use Rattle.ax_types.specs.declared.steps.StepOutcome.TheVariants as outcome
use Rattle.spec_cluster.specs.Bag as bags
use Rattle.spec_transitions.specs.Systems as systems
use Rattle.spec_server.specs.ServerStep as server_steps
use Rattle.spec_world.specs.Worlds as worlds
use Rattle.spec_world.specs.Plans as plans
use Rattle.spec_world.specs.Moves as moves
use Rattle.spec_run.specs.Run as runs
use Rattle.law_growth.specs.PlanCases as plan_cases
use Rattle.law_growth.specs.Staying as laws
use Rattle.law_growth.proofs.Cases.{plan_case}

pub sent_grows : laws.SentGrows
sent_grows w [] later = refl
sent_grows w (k ∷ steps) later =
    ap (λ ps. laws.sent_by w k ++ ps) (sent_grows (moves.moved w k).world steps later)
    ∙ sym (append_assoc (laws.sent_by w k) (laws.sent_from (moves.moved w k).world steps) (laws.sent_from (runs.ran (moves.moved w k).world steps).world later))

-- what holds of what the network kept and of what is sent holds of what it keeps then
all_drop : {X Y : Type 0} (P : Y → Type 0) (f : X → Y) (n : ℕ) (xs : List X) → AllByRecursion P (map f xs) → AllByRecursion P (map f (drop n xs))
all_drop P f zero xs h = h
all_drop P f (suc n) [] h = tt
all_drop P f (suc n) (x ∷ xs) h = all_drop P f n xs h.1

all_push : {X Y : Type 0} (P : Y → Type 0) (f : X → Y) (xs : List X) (x : X) → AllByRecursion P (map f xs) → P (f x) → AllByRecursion P (map f (xs ++ x ∷ []))
all_push P f [] x h k = (k, tt)
all_push P f (y ∷ xs) x h k = (h.0, all_push P f xs x h.1 k)

pub all_since : {X : Type 0} (P R : X → Type 0) → ((x : X) → P x → R x) → (xs : List X) → AllByRecursion P xs → AllByRecursion R xs
all_since P R f [] h = tt
all_since P R f (x ∷ xs) h = (f x h.0, all_since P R f xs h.1)

pub all_kept : (P : Packet → Type 0) (bag : bags.Bag) (ps : List Packet) → AllByRecursion P (plan_cases.kept_packets bag) → AllByRecursion P ps → AllByRecursion P (plan_cases.kept_packets (bags.with_packets bag ps))
all_kept P bag [] h k = h
all_kept P bag (p ∷ ps) h k =
    let slots : List bags.KeptPacket = bag.kept ++ record { is_marked = false; packet = p } ∷ [] in
    let f : bags.KeptPacket → Packet = λ s. s.packet in
    all_kept P (bags.with_packet bag p) ps (all_drop P f (length slots - bags.most_kept) slots (all_push P f bag.kept (record { is_marked = false; packet = p }) h k.0)) k.1

among_left : (p : Packet) (ps qs : List Packet) → systems.Among p ps → systems.Among p (ps ++ qs)
among_left p [] qs h = absurd h
among_left p (q ∷ ps) qs (inl e) = inl e
among_left p (q ∷ ps) qs (inr h) = inr (among_left p ps qs h)

among_right : (p : Packet) (ps qs : List Packet) → systems.Among p qs → systems.Among p (ps ++ qs)
among_right p [] qs h = h
among_right p (q ∷ ps) qs h = inr (among_right p ps qs h)

all_among : (ps : List Packet) → AllByRecursion (λ p. systems.Among p ps) ps
all_among [] = tt
all_among (p ∷ ps) = (inl refl, all_since (λ q. systems.Among q ps) (λ q. systems.Among q (p ∷ ps)) (λ q h. inr h) ps (all_among ps))

-- one step
abbrev WereSent : List Packet → worlds.World → Type 0
WereSent sent w = AllByRecursion (λ p. systems.Among p sent) (plan_cases.kept_packets w.bag)

with_sent : (before : List Packet) (w v : worlds.World) (ps : List Packet) → plan_cases.IsAlike w v → WereSent before w → AllByRecursion (λ p. systems.Among p (before ++ ps)) (plan_cases.kept_packets (bags.with_packets v.bag ps))
with_sent before w v ps a h =
    let P : Packet → Type 0 = λ p. systems.Among p (before ++ ps) in
    all_kept P v.bag ps (subst (AllByRecursion P) (sym a.kept) (all_since (λ p. systems.Among p before) P (λ p k. among_left p before ps k) (plan_cases.kept_packets w.bag) h))
    (all_since (λ p. systems.Among p ps) P (λ p k. among_right p before ps k) ps (all_among ps))

none_sent : (before : List Packet) (w v : worlds.World) → plan_cases.kept_packets v.bag ≡ plan_cases.kept_packets w.bag → WereSent before w → WereSent (before ++ []) v
none_sent before w v e h = subst (λ ps. AllByRecursion (λ p. systems.Among p ps) (plan_cases.kept_packets v.bag)) (sym (append-nil before)) (subst (AllByRecursion (λ p. systems.Among p before)) (sym e) h)

carried_sent : (before : List Packet) (w : worlds.World) (p : plans.Plan) (o : StepOutcome) → plan_cases.IsCase w p → WereSent before w → WereSent (before ++ laws.sent_in p o) (moves.carried p o).world
carried_sent before w p o (plan_cases.Serving v k h i a at up known e) s = subst (λ x. WereSent (before ++ laws.sent_in x o) (moves.carried x o).world) (sym e) (served o)
  where
    served : (o : StepOutcome) → WereSent (before ++ laws.sent_in (plans.Serves v k h i) o) (moves.served v k h i o).world
    served outcome.Fine = with_sent before w v (server_steps.server_out h.server i).packets a s
    served (outcome.Loaded added) = with_sent before w v (server_steps.server_out h.server i).packets a s
    served (outcome.Failed saved) = none_sent before w v a.kept s
carried_sent before w p o (plan_cases.Loading k h at down e) s = subst (λ x. WereSent (before ++ laws.sent_in x o) (moves.carried x o).world) (sym e) (loaded o)
  where
    loaded : (o : StepOutcome) → WereSent (before ++ []) (moves.loaded w k h o).world
    loaded outcome.Fine = none_sent before w (moves.loaded w k h outcome.Fine).world refl s
    loaded (outcome.Loaded added) = none_sent before w (moves.loaded w k h (outcome.Loaded added)).world refl s
    loaded (outcome.Failed saved) = none_sent before w w refl s
carried_sent before w p o (plan_cases.Asking v c s next a at me e) h = subst (λ x. WereSent (before ++ laws.sent_in x o) (moves.carried x o).world) (sym e) (with_sent before w v (map (moves.from_client c) next.out.sends) a h)
carried_sent before w p o (plan_cases.Falling k h at up e) s = subst (λ x. WereSent (before ++ laws.sent_in x o) (moves.carried x o).world) (sym e) (none_sent before w w refl s)
carried_sent before w p o (plan_cases.Setting k h time at e) s = subst (λ x. WereSent (before ++ laws.sent_in x o) (moves.carried x o).world) (sym e) (none_sent before w w refl s)
carried_sent before w p o (plan_cases.Seating c s t items at me e) h = subst (λ x. WereSent (before ++ laws.sent_in x o) (moves.carried x o).world) (sym e) (none_sent before w w refl h)
carried_sent before w p o (plan_cases.Showing v items a e) h = subst (λ x. WereSent (before ++ laws.sent_in x o) (moves.carried x o).world) (sym e) (none_sent before w v a.kept h)

ran_sent : (before : List Packet) (w : worlds.World) (steps : List KeptStep) → WereSent before w → WereSent (before ++ laws.sent_from w steps) (runs.ran w steps).world
ran_sent before w [] h = none_sent before w w refl h
ran_sent before w (k ∷ steps) h =
    let v : worlds.World = (moves.moved w k).world in
    subst (λ ps. WereSent ps (runs.ran v steps).world) (append_assoc before (laws.sent_by w k) (laws.sent_from v steps))
    (ran_sent (before ++ laws.sent_by w k) v steps (carried_sent before w (plans.plan w k.step) k.outcome (plan_case w k.step) h))

pub kept_were_sent : laws.KeptWereSent
kept_were_sent nodes clients timeout steps = ran_sent [] (worlds.new_world nodes clients timeout) steps tt
