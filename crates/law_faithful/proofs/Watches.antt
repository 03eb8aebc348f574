-- In each step what watches show stands below its events.
use Rattle.std.proofs.Common.{◌≡◌, ℕ, zero, suc, List, [], ◌∷◌, ◌++◌, map, reverse, refl, ap, sym, ◌∙◌, subst, inl, inr, append-nil, arith}
use Rattle.std.specs.Prelude.{◌⊎◌, ◌≢◌, Bool, true, false, cond, not, nat_eq, nat_lt, filter, flat_map, option_map, Option, Some, None, if◌then◌else◌, length, slice_get}
use Rattle.std.specs.List.{AllByRecursion, list_any}
use Rattle.std.proofs.lemmas.Bool.Decides.{nat_tests}
use Rattle.std.proofs.lemmas.List.{reverse-append}
use Rattle.std.proofs.lemmas.List.Elements.{filter-append}
use Rattle.std.proofs.lemmas.Grind.{flat_map-append}
use Rattle.ax_types.specs.Places as lists
use Rattle.ax_types.specs.ItemTests as item_tests
use Rattle.ax_types.specs.declared.items.Item.{Item}
use Rattle.ax_types.specs.declared.items.Item.TheVariants as item
use Rattle.ax_types.specs.declared.items.SkipReason.TheVariants as reason
use Rattle.ax_types.specs.declared.replies.Event.{Event}
use Rattle.ax_types.specs.declared.steps.KeptStep.{KeptStep}
use Rattle.ax_types.specs.declared.steps.Step.{Step}
use Rattle.ax_types.specs.declared.steps.Step.TheVariants as step
use Rattle.ax_types.specs.declared.steps.StepOutcome.{StepOutcome}
use Rattle.ax_types.specs.declared.steps.StepOutcome.TheVariants as outcome
use Rattle.ax_types.specs.declared.steps.WatchKind.{WatchKind}
use Rattle.spec_book.specs.History as histories
use Rattle.spec_claims.specs.Transcript as transcripts
use Rattle.spec_claims.specs.Right as claims_right
use Rattle.spec_claims.specs.Heard as claims_heard
use Rattle.spec_raft.specs.Positions as positions
use Rattle.spec_raft.proofs.Placing.{at_place-changed, at_place-others}
use Rattle.ax_types.specs.declared.sessions.Held.{Held}
use Rattle.ax_types.specs.declared.sessions.ServerInput.{ServerInput}
use Rattle.spec_node.specs.Node as raft_nodes
use Rattle.spec_server.specs.Servers as servers
use Rattle.spec_server.specs.ServerStep as server_steps
use Rattle.spec_client.specs.Clients as clients
use Rattle.spec_world.specs.Worlds as worlds
use Rattle.spec_world.specs.Plans as plans
use Rattle.spec_world.specs.Moves as moves
use Rattle.spec_run.specs.Run as runs
use Rattle.law_refinement.proofs.Tests.{by_test, is_same}
use Rattle.law_reads.proofs.Takens.{map_more}
use Rattle.law_client.specs.Inputs as inputs
use Rattle.law_client.specs.Standing as standing
use Rattle.law_client.proofs.Steps.{Kept}
use Rattle.law_client.proofs.Promises.{input_keeps}
use Rattle.law_growth.specs.PlanCases as plan_cases
use Rattle.law_growth.proofs.Cases.{none_some, some_same, true_false, plan_case}
use Rattle.law_items.proofs.Quiet.{AllPlain, PlanQuiet, plan_quiet, plain_bare}
use Rattle.law_seats.specs.Seats as seats
use Rattle.law_seats.proofs.Unwatched.{unwatched_reverse, unwatched_shown}
use Rattle.law_seats.proofs.Effects.{Effect, Aside, Acts, Watches, AreAside, effect_of}
use Rattle.law_seats.proofs.Seats.{may_reach, own_unwatched}
use Rattle.law_faithful.proofs.Seating.{all_watches, UnlessWatch, watches_same}
use Rattle.law_faithful.proofs.Openings.{clients_in, its_client}

-- the kinds that a client watches, of all that are watched
abbrev pub kinds_of : ℕ → List (ℕ × WatchKind) → List WatchKind
kinds_of c watches = map (λ (w : ℕ × WatchKind). w.1) (filter (λ (w : ℕ × WatchKind). nat_eq c w.0) watches)

abbrev pub AreKnown : List (ℕ × WatchKind) → List (List WatchKind) → Type 0
AreKnown watches wss = (c : ℕ) (ws : List WatchKind) → lists.at_place wss c ≡ Some ws → kinds_of c watches ≡ ws

-- one more watch
kinds_more : (c : ℕ) (xs ys : List (ℕ × WatchKind)) → kinds_of c (xs ++ ys) ≡ kinds_of c xs ++ kinds_of c ys
kinds_more c xs ys = ap (map (λ (w : ℕ × WatchKind). w.1)) (filter-append (λ (w : ℕ × WatchKind). nat_eq c w.0) xs ys) ∙ map_more (λ (w : ℕ × WatchKind). w.1) (filter (λ (w : ℕ × WatchKind). nat_eq c w.0) xs) (filter (λ (w : ℕ × WatchKind). nat_eq c w.0) ys)

kinds_one : (c d : ℕ) (k : WatchKind) (b : Bool) → nat_eq c d ≡ b → kinds_of c ((d, k) ∷ []) ≡ cond b (k ∷ []) []
kinds_one c d k true e = ap (λ b. map (λ (w : ℕ × WatchKind). w.1) (cond b ((d, k) ∷ []) [])) e
kinds_one c d k false e = ap (λ b. map (λ (w : ℕ × WatchKind). w.1) (cond b ((d, k) ∷ []) [])) e

mapped_change : (ss : List worlds.Watcher) (c : ℕ) (t : worlds.Watcher) → all_watches (positions.change_place (λ old. t) ss c) ≡ positions.change_place (λ old. t.watches) (all_watches ss) c
mapped_change ss zero t = refl
mapped_change [] (suc c) t = refl
mapped_change (s ∷ ss) (suc zero) t = refl
mapped_change (s ∷ ss) (suc (suc c)) t = ap (λ wss. s.watches ∷ wss) (mapped_change ss (suc c) t)

map_there : (ss : List worlds.Watcher) (c : ℕ) (s : worlds.Watcher) → lists.at_place ss c ≡ Some s → lists.at_place (all_watches ss) c ≡ Some s.watches
map_there ss zero s e = none_some s e
map_there [] (suc c) s e = none_some s e
map_there (t ∷ ss) (suc zero) s e = ap (λ (x : worlds.Watcher). Some x.watches) (some_same t s e)
map_there (t ∷ ss) (suc (suc c)) s e = map_there ss (suc c) s e

none_there : (ss : List worlds.Watcher) (c : ℕ) → lists.at_place ss c ≡ None → lists.at_place (all_watches ss) c ≡ None
none_there ss zero e = refl
none_there [] (suc c) e = refl
none_there (t ∷ ss) (suc zero) e = absurd (cc (e))
none_there (t ∷ ss) (suc (suc c)) e = none_there ss (suc c) e

other_known : (watches : List (ℕ × WatchKind)) (c j : ℕ) (kind : WatchKind) (ws : List WatchKind) → nat_eq j c ≡ false → kinds_of j watches ≡ ws → kinds_of j (watches ++ (c, kind) ∷ []) ≡ ws
other_known watches c j kind ws e f = kinds_more j watches ((c, kind) ∷ []) ∙ ap (λ ks. kinds_of j watches ++ ks) (kinds_one j c kind false e) ∙ append-nil (kinds_of j watches) ∙ f

more_known : (watches : List (ℕ × WatchKind)) (ss : List worlds.Watcher) (c : ℕ) (kind : WatchKind) (s : worlds.Watcher) → lists.at_place ss c ≡ Some s → AreKnown watches (all_watches ss)
    → AreKnown (watches ++ (c, kind) ∷ []) (all_watches (positions.change_place (λ old. record s { watches = s.watches ++ kind ∷ [] }) ss c))
more_known watches ss c kind s at f j ws e = by_bool (nat_eq j c) refl (subst (λ wss. lists.at_place wss j ≡ Some ws) (mapped_change ss c (record s { watches = s.watches ++ kind ∷ [] })) e)
  where
    by_bool : (b : Bool) → nat_eq j c ≡ b → lists.at_place (positions.change_place (λ old. s.watches ++ kind ∷ []) (all_watches ss) c) j ≡ Some ws → kinds_of j (watches ++ (c, kind) ∷ []) ≡ ws
    by_bool true t g =
        let same : j ≡ c = is_same j c t in
        let here : lists.at_place (positions.change_place (λ old. s.watches ++ kind ∷ []) (all_watches ss) c) c ≡ Some (s.watches ++ kind ∷ []) =
        at_place-changed (λ old. s.watches ++ kind ∷ []) (all_watches ss) c ∙ ap (option_map (λ old. s.watches ++ kind ∷ [])) (map_there ss c s at) in
        let new : s.watches ++ kind ∷ [] ≡ ws = some_same (s.watches ++ kind ∷ []) ws (sym here ∙ ap (lists.at_place (positions.change_place (λ old. s.watches ++ kind ∷ []) (all_watches ss) c)) (sym same) ∙ g) in
        kinds_more j watches ((c, kind) ∷ []) ∙ ap (λ ks. kinds_of j watches ++ ks) (kinds_one j c kind true t)
        ∙ ap (λ ks. ks ++ kind ∷ []) (ap (λ i. kinds_of i watches) same ∙ f c s.watches (map_there ss c s at)) ∙ new
    by_bool false t g =
        let differ : c ≢ j = (λ q. let r : nat_eq j c ≡ true = grind (arith, nat_tests, q) in true_false (sym r ∙ t)) in
        other_known watches c j kind ws t (f j ws (sym (at_place-others (λ old. s.watches ++ kind ∷ []) (all_watches ss) c j differ) ∙ g))

-- after a step
abbrev KnownAfter : List (ℕ × WatchKind) → Step → moves.Moved → Type 0
KnownAfter watches s m = AreKnown (claims_heard.watches_after watches s m.items) (all_watches m.world.seats)

watch_known : (w : worlds.World) (watches : List (ℕ × WatchKind)) (c : ℕ) (kind : WatchKind) (o : Option worlds.Watcher) (r : StepOutcome) → lists.at_place w.seats c ≡ o → AreKnown watches (all_watches w.seats)
    → KnownAfter watches (step.Watch c kind) (moves.carried (plans.watches_at w c kind o) r)
watch_known w watches c kind None r at f = λ j ws e. other_known watches c j kind ws (by_bool j ws (nat_eq j c) refl e) (f j ws e)
  where
    by_bool : (j : ℕ) (ws : List WatchKind) (b : Bool) → nat_eq j c ≡ b → lists.at_place (all_watches w.seats) j ≡ Some ws → nat_eq j c ≡ false
    by_bool j ws false t e = t
    by_bool j ws true t e = none_some ws (sym (none_there w.seats c at) ∙ ap (lists.at_place (all_watches w.seats)) (sym (is_same j c t)) ∙ e)
watch_known w watches c kind (Some s) r at f =
    by_test (λ p. KnownAfter watches (step.Watch c kind) (moves.carried p r)) (list_any (plans.same_kind kind) s.watches) (plans.skips w reason.Watched) (plans.shows_nothing (worlds.with_watcher w c (record s { watches = s.watches ++ kind ∷ [] })))
    (λ e. f) (λ e. more_known watches w.seats c kind s at f)

step_known : (w : worlds.World) (watches : List (ℕ × WatchKind)) (s : Step) (r : StepOutcome) → UnlessWatch w s → AreKnown watches (all_watches w.seats) → KnownAfter watches s (moves.carried (plans.plan w s) r)
step_known w watches (step.Elect xa) r u f = subst (AreKnown watches) (sym (u r)) f
step_known w watches (step.Beat xa) r u f = subst (AreKnown watches) (sym (u r)) f
step_known w watches (step.Crash xa) r u f = subst (AreKnown watches) (sym (u r)) f
step_known w watches (step.Start xa) r u f = subst (AreKnown watches) (sym (u r)) f
step_known w watches (step.Clock xa xb) r u f = subst (AreKnown watches) (sym (u r)) f
step_known w watches (step.Expire xa) r u f = subst (AreKnown watches) (sym (u r)) f
step_known w watches (step.Cut xa xb) r u f = subst (AreKnown watches) (sym (u r)) f
step_known w watches (step.Join xa xb) r u f = subst (AreKnown watches) (sym (u r)) f
step_known w watches (step.Deliver xa) r u f = subst (AreKnown watches) (sym (u r)) f
step_known w watches (step.Drop xa) r u f = subst (AreKnown watches) (sym (u r)) f
step_known w watches (step.Short xa xb) r u f = subst (AreKnown watches) (sym (u r)) f
step_known w watches step.List r u f = subst (AreKnown watches) (sym (u r)) f
step_known w watches (step.Open xa xb) r u f = subst (AreKnown watches) (sym (u r)) f
step_known w watches (step.Switch xa xb) r u f = subst (AreKnown watches) (sym (u r)) f
step_known w watches (step.Resend xa) r u f = subst (AreKnown watches) (sym (u r)) f
step_known w watches (step.Keep xa) r u f = subst (AreKnown watches) (sym (u r)) f
step_known w watches (step.Close xa) r u f = subst (AreKnown watches) (sym (u r)) f
step_known w watches (step.Call xa xb xc) r u f = subst (AreKnown watches) (sym (u r)) f
step_known w watches (step.Query xa xb xc xd) r u f = subst (AreKnown watches) (sym (u r)) f
step_known w watches (step.Watch c kind) r u f = watch_known w watches c kind (lists.at_place w.seats c) r refl f

-- items that watches do not show, and that are no events
bare_items : (watches : List (ℕ × WatchKind)) (opened : List (ℕ × ℕ)) (xs : List Item) → AllByRecursion (λ x. claims_heard.is_watched x ≡ false) xs → AreAside xs → xs ≡ claims_heard.with_watched watches opened (seats.unwatched xs)
bare_items watches opened [] b a = refl
bare_items watches opened (x ∷ xs) b a =
    ap (λ ys. x ∷ ys) (bare_items watches opened xs b.1 a.1)
    ∙ ap (λ ys. (x ∷ ys) ++ claims_heard.with_watched watches opened (seats.unwatched xs)) (sym (nothing_below x a.0))
    ∙ ap (λ c. claims_heard.with_watched watches opened (cond (not c) (x ∷ seats.unwatched xs) (seats.unwatched xs))) (sym b.0)
  where
    nothing_below : (y : Item) → inputs.session_in y ≡ None → claims_heard.watched_below watches opened y ≡ []
    nothing_below (item.Event s p prev es) e = absurd (cc (e))
    nothing_below (item.Opened s c) e = refl
    nothing_below (item.Halted xa) e = refl
    nothing_below (item.Called xa xb xc) e = refl
    nothing_below (item.Watched xa xb xc xd xe) e = refl
    nothing_below (item.Reply xa xb xc xd) e = refl
    nothing_below (item.Read xa xb xc xd xe xf) e = refl
    nothing_below (item.Ended xa xb xc) e = refl
    nothing_below (item.Doubt xa xb) e = refl
    nothing_below (item.Lost xa xb) e = refl
    nothing_below (item.Unsent xa xb) e = refl
    nothing_below (item.Unanswered xa xb) e = refl
    nothing_below (item.Listed xa) e = refl
    nothing_below (item.Pending xa xb xc xd) e = refl
    nothing_below (item.Skip xa) e = refl
    nothing_below (item.Leader xa xb) e = refl
    nothing_below (item.Commit xa) e = refl
    nothing_below (item.Reach xa xb xc xd xe) e = refl

-- what a client's watches show
kinds_shown : (c s p : ℕ) (es : List Event) (ws : List (ℕ × WatchKind)) → flat_map (λ (w : ℕ × WatchKind). claims_heard.watched_by c s p es w.1) ws ≡ flat_map (claims_heard.watched_by c s p es) (map (λ (w : ℕ × WatchKind). w.1) ws)
kinds_shown c s p es [] = refl
kinds_shown c s p es (w ∷ ws) = ap (λ xs. claims_heard.watched_by c s p es w.1 ++ xs) (kinds_shown c s p es ws)

abbrev IsOfClient : ℕ → List (ℕ × ℕ) → Item → Type 0
IsOfClient c opened (item.Event s p prev es) = claims_heard.clients_of s opened ≡ (s, c) ∷ []
IsOfClient c opened x = Unit {0}

shown_below : (watches : List (ℕ × WatchKind)) (opened : List (ℕ × ℕ)) (c : ℕ) (ws : List WatchKind) (x : Item) → kinds_of c watches ≡ ws → IsOfClient c opened x → moves.shown_below c ws x ≡ claims_heard.watched_below watches opened x
shown_below watches opened c ws (item.Event s p prev es) k o =
    sym (ap (flat_map (λ (q : ℕ × ℕ). claims_heard.watched_of watches q.1 s p es)) o
    ∙ append-nil (claims_heard.watched_of watches c s p es)
    ∙ kinds_shown c s p es (filter (λ (w : ℕ × WatchKind). nat_eq c w.0) watches)
    ∙ ap (flat_map (claims_heard.watched_by c s p es)) k)
shown_below watches opened c ws (item.Opened s d) k o = refl
shown_below watches opened c ws (item.Halted xa) k o = refl
shown_below watches opened c ws (item.Called xa xb xc) k o = refl
shown_below watches opened c ws (item.Watched xa xb xc xd xe) k o = refl
shown_below watches opened c ws (item.Reply xa xb xc xd) k o = refl
shown_below watches opened c ws (item.Read xa xb xc xd xe xf) k o = refl
shown_below watches opened c ws (item.Ended xa xb xc) k o = refl
shown_below watches opened c ws (item.Doubt xa xb) k o = refl
shown_below watches opened c ws (item.Lost xa xb) k o = refl
shown_below watches opened c ws (item.Unsent xa xb) k o = refl
shown_below watches opened c ws (item.Unanswered xa xb) k o = refl
shown_below watches opened c ws (item.Listed xa) k o = refl
shown_below watches opened c ws (item.Pending xa xb xc xd) k o = refl
shown_below watches opened c ws (item.Skip xa) k o = refl
shown_below watches opened c ws (item.Leader xa xb) k o = refl
shown_below watches opened c ws (item.Commit xa) k o = refl
shown_below watches opened c ws (item.Reach xa xb xc xd xe) k o = refl

shown_items : (watches : List (ℕ × WatchKind)) (opened : List (ℕ × ℕ)) (c : ℕ) (ws : List WatchKind) (xs : List Item) → kinds_of c watches ≡ ws → AllByRecursion (IsOfClient c opened) xs → moves.with_shown c ws xs ≡ claims_heard.with_watched watches opened xs
shown_items watches opened c ws [] k o = refl
shown_items watches opened c ws (x ∷ xs) k o = ap (λ ys. (x ∷ ys) ++ moves.with_shown c ws xs) (shown_below watches opened c ws x k o.0) ∙ ap (λ zs. (x ∷ claims_heard.watched_below watches opened x) ++ zs) (shown_items watches opened c ws xs k o.1)

-- no watch shows an item that is of no client
abbrev AreBare : List Item → Type 0
AreBare xs = AllByRecursion (λ x. claims_heard.is_watched x ≡ false) xs

all_bare : (xs : List Item) → AllPlain xs → AreBare xs
all_bare [] h = tt
all_bare (x ∷ xs) h = (plain_bare x h.0, all_bare xs h.1)

bare_append : (xs ys : List Item) → AreBare xs → AreBare ys → AreBare (xs ++ ys)
bare_append [] ys h k = k
bare_append (x ∷ xs) ys h k = (h.0, bare_append xs ys h.1 k)

leader_bare : (k : ℕ) (o : Option ℕ) → AreBare (moves.leader_item k o)
leader_bare k None = tt
leader_bare k (Some t) = (refl, tt)

commit_bare : (p d : ℕ) → AreBare (moves.commit_item p d)
commit_bare p d = by_test AreBare (nat_lt p d) (item.Commit d ∷ []) [] (λ e. (refl, tt)) (λ e. tt)

reach_bare : (n : raft_nodes.Node) (read : Option Held) (reached : Option ℕ) → AreBare (moves.option_item (server_steps.reach_item n read reached))
reach_bare n (Some h) (Some a) = (refl, tt)
reach_bare n (Some h) None = tt
reach_bare n None (Some a) = tt
reach_bare n None None = tt

server_bare : (w : worlds.World) (k : ℕ) (x : servers.Server) (i : ServerInput) → AreBare (moves.server_items w k (server_steps.server_out x i))
server_bare w k x i =
    let t = servers.task x i in
    let g = server_steps.stage x t in
    bare_append (moves.leader_item k (server_steps.led_term g.raft g.out.led) ++ moves.commit_item (length w.history) g.out.committed) (moves.option_item (server_steps.reach_item g.raft t.read g.out.reached))
    (bare_append (moves.leader_item k (server_steps.led_term g.raft g.out.led)) (moves.commit_item (length w.history) g.out.committed) (leader_bare k (server_steps.led_term g.raft g.out.led)) (commit_bare (length w.history) g.out.committed))
    (reach_bare g.raft t.read g.out.reached)

-- a client's items without an event show nothing below
aside_shown : (c : ℕ) (ws : List WatchKind) (xs : List Item) → AllPlain xs → AreAside (moves.with_shown c ws xs) → AreBare (moves.with_shown c ws xs)
aside_shown c ws [] h a = tt
aside_shown c ws (x ∷ xs) h a = (plain_bare x h.0, go x (moves.with_shown c ws xs) a (aside_shown c ws xs h.1))
  where
    go : (y : Item) (rest : List Item) → AreAside ((y ∷ moves.shown_below c ws y) ++ rest) → (AreAside rest → AreBare rest) → AreBare (moves.shown_below c ws y ++ rest)
    go (item.Event s p prev es) rest b f = absurd (let e = b.0 in cc (e))
    go (item.Opened s d) rest b f = f b.1
    go (item.Halted xa) rest b f = f b.1
    go (item.Called xa xb xc) rest b f = f b.1
    go (item.Watched xa xb xc xd xe) rest b f = f b.1
    go (item.Reply xa xb xc xd) rest b f = f b.1
    go (item.Read xa xb xc xd xe xf) rest b f = f b.1
    go (item.Ended xa xb xc) rest b f = f b.1
    go (item.Doubt xa xb) rest b f = f b.1
    go (item.Lost xa xb) rest b f = f b.1
    go (item.Unsent xa xb) rest b f = f b.1
    go (item.Unanswered xa xb) rest b f = f b.1
    go (item.Listed xa) rest b f = f b.1
    go (item.Pending xa xb xc xd) rest b f = f b.1
    go (item.Skip xa) rest b f = f b.1
    go (item.Leader xa xb) rest b f = f b.1
    go (item.Commit xa) rest b f = f b.1
    go (item.Reach xa xb xc xd xe) rest b f = f b.1

carried_bare : (w : worlds.World) (p : plans.Plan) (o : StepOutcome) → plan_cases.IsCase w p → PlanQuiet p → AreAside (moves.carried p o).items → AreBare (moves.carried p o).items
carried_bare w p o (plan_cases.Serving v k x i a at up known e) q = subst (λ z. AreAside (moves.carried z o).items → AreBare (moves.carried z o).items) (sym e) (served o)
  where
    served : (o : StepOutcome) → AreAside (moves.served v k x i o).items → AreBare (moves.served v k x i o).items
    served outcome.Fine b = server_bare v k x.server i
    served (outcome.Loaded added) b = server_bare v k x.server i
    served (outcome.Failed saved) b = (refl, tt)
carried_bare w p o (plan_cases.Loading k x at down e) q = subst (λ z. AreAside (moves.carried z o).items → AreBare (moves.carried z o).items) (sym e) (loaded o)
  where
    loaded : (o : StepOutcome) → AreAside (moves.loaded w k x o).items → AreBare (moves.loaded w k x o).items
    loaded outcome.Fine b = tt
    loaded (outcome.Loaded added) b = tt
    loaded (outcome.Failed saved) b = (refl, tt)
carried_bare w p o (plan_cases.Asking v c s next a at me e) q = subst (λ z. AreAside (moves.carried z o).items → AreBare (moves.carried z o).items) (sym e) (aside_shown c s.watches next.out.items (subst PlanQuiet e q))
carried_bare w p o (plan_cases.Falling k x at up e) q = subst (λ z. AreAside (moves.carried z o).items → AreBare (moves.carried z o).items) (sym e) (λ b. tt)
carried_bare w p o (plan_cases.Setting k x t at e) q = subst (λ z. AreAside (moves.carried z o).items → AreBare (moves.carried z o).items) (sym e) (λ b. tt)
carried_bare w p o (plan_cases.Seating c s t its at me e) q = subst (λ z. AreAside (moves.carried z o).items → AreBare (moves.carried z o).items) (sym e) (λ b. all_bare its (subst PlanQuiet e q))
carried_bare w p o (plan_cases.Showing v its a e) q = subst (λ z. AreAside (moves.carried z o).items → AreBare (moves.carried z o).items) (sym e) (λ b. all_bare its (subst PlanQuiet e q))

-- the items of a step
own_client : (h : histories.History) (c : ℕ) (early items own : List Item) → transcripts.EachItem (claims_right.IsRight h) (early ++ items) → seats.unwatched items ≡ own
    → (xs : List Item) → AllByRecursion (λ x. standing.IsOfOwn c h (reverse own ++ seats.unwatched (reverse early)) (inputs.session_in x)) xs → AllByRecursion (IsOfClient c (flat_map claims_heard.opened_by (early ++ items))) xs
own_client h c early items own right bare [] o = tt
own_client h c early items own right bare (x ∷ xs) o = (one x o.0, own_client h c early items own right bare xs o.1)
  where
    all_below : reverse own ++ seats.unwatched (reverse early) ≡ seats.unwatched (reverse (early ++ items))
    all_below =
        ap (λ ys. reverse ys ++ seats.unwatched (reverse early)) (sym bare) ∙ ap (λ ys. ys ++ seats.unwatched (reverse early)) (sym (unwatched_reverse items))
        ∙ sym (filter-append (λ y. not (claims_heard.is_watched y)) (reverse items) (reverse early)) ∙ ap seats.unwatched (sym (reverse-append early items))

    one : (y : Item) → standing.IsOfOwn c h (reverse own ++ seats.unwatched (reverse early)) (inputs.session_in y) → IsOfClient c (flat_map claims_heard.opened_by (early ++ items)) y
    one (item.Event s p prev es) k = its_client h s c (λ y. not (claims_heard.is_watched y)) (early ++ items) right (subst (transcripts.StandsIn (item.Opened s c)) all_below k.there)
    one (item.Opened s d) k = tt
    one (item.Halted xa) k = tt
    one (item.Called xa xb xc) k = tt
    one (item.Watched xa xb xc xd xe) k = tt
    one (item.Reply xa xb xc xd) k = tt
    one (item.Read xa xb xc xd xe xf) k = tt
    one (item.Ended xa xb xc) k = tt
    one (item.Doubt xa xb) k = tt
    one (item.Lost xa xb) k = tt
    one (item.Unsent xa xb) k = tt
    one (item.Unanswered xa xb) k = tt
    one (item.Listed xa) k = tt
    one (item.Pending xa xb xc xd) k = tt
    one (item.Skip xa) k = tt
    one (item.Leader xa xb) k = tt
    one (item.Commit xa) k = tt
    one (item.Reach xa xb xc xd xe) k = tt

step_items : (h : histories.History) (w : worlds.World) (early : List Item) (k : KeptStep) (watches : List (ℕ × WatchKind)) (m : moves.Moved) → m ≡ moves.moved w k → Effect w m → seats.AllStand h w (reverse early) → seats.AreTrueKept h w (reverse early)
    → transcripts.EachItem (claims_right.IsRight h) (early ++ m.items) → AreKnown watches (all_watches w.seats)
    → m.items ≡ claims_heard.with_watched watches (flat_map claims_heard.opened_by (early ++ m.items)) (seats.unwatched m.items)
step_items h w early k watches m is (Aside same a) stand told right known =
    bare_items watches (flat_map claims_heard.opened_by (early ++ m.items)) m.items (subst (λ (x : moves.Moved). AreAside x.items → AreBare x.items) (sym is) (carried_bare w (plans.plan w k.step) k.outcome (plan_case w k.step) (plan_quiet w k.step)) a) a
step_items h w early k watches m is (Watches c s ws at same none) stand told right known =
    none ∙ ap (λ ys. claims_heard.with_watched watches (flat_map claims_heard.opened_by (early ++ m.items)) (seats.unwatched ys)) (sym none)
step_items h w early k watches m is (Acts c s i at may same shown) stand told right known =
    let next = inputs.client_stepped s.client i in
    let own = next.out.items in
    let me : s.client.me ≡ c = stand.numbers c s at in
    let r : Kept h s.client (seats.unwatched (reverse early)) next = input_keeps h s.client (seats.unwatched (reverse early)) i (stand.stand c s at) (may_reach h w (reverse early) c s i at me may told) in
    let owner : AllByRecursion (λ x. standing.IsOfOwn c h (reverse own ++ seats.unwatched (reverse early)) (inputs.session_in x)) own =
    subst (λ d. AllByRecursion (λ x. standing.IsOfOwn d h (reverse own ++ seats.unwatched (reverse early)) (inputs.session_in x)) own) (r.me ∙ me) r.owner in
    let clear : AllByRecursion (λ x. claims_heard.is_watched x ≡ false) own = own_unwatched c h (reverse own ++ seats.unwatched (reverse early)) own owner in
    let bare : seats.unwatched m.items ≡ own = ap seats.unwatched shown ∙ unwatched_shown c s.watches own clear in
    shown ∙ shown_items watches (flat_map claims_heard.opened_by (early ++ m.items)) c s.watches own (known c s.watches (map_there w.seats c s at)) (own_client h c early m.items own right bare own owner)
    ∙ ap (claims_heard.with_watched watches (flat_map claims_heard.opened_by (early ++ m.items))) (sym bare)

-- one step
pub record StepWatched (w : worlds.World) (early : List Item) (k : KeptStep) (watches : List (ℕ × WatchKind)) (opened : List (ℕ × ℕ)) : Type 0 where
  pub items : (moves.moved w k).items ≡ claims_heard.with_watched watches (opened ++ flat_map claims_heard.opened_by (moves.moved w k).items) (filter (λ x. not (claims_heard.is_watched x)) (moves.moved w k).items)
  pub known : AreKnown (claims_heard.watches_after watches k.step (moves.moved w k).items) (all_watches (moves.moved w k).world.seats)
  pub opened_then : opened ++ flat_map claims_heard.opened_by (moves.moved w k).items ≡ flat_map claims_heard.opened_by (early ++ (moves.moved w k).items)

pub step_watched : (h : histories.History) (w : worlds.World) (early : List Item) (k : KeptStep) (watches : List (ℕ × WatchKind)) (opened : List (ℕ × ℕ)) → seats.AllStand h w (reverse early) → seats.AreTrueKept h w (reverse early)
    → transcripts.EachItem (claims_right.IsRight h) (early ++ (moves.moved w k).items) → AreKnown watches (all_watches w.seats) → opened ≡ flat_map claims_heard.opened_by early → StepWatched w early k watches opened
step_watched h w early k watches opened stand told right known was_open =
    let m : moves.Moved = moves.moved w k in
    let now_open : opened ++ flat_map claims_heard.opened_by m.items ≡ flat_map claims_heard.opened_by (early ++ m.items) = ap (λ os. os ++ flat_map claims_heard.opened_by m.items) was_open ∙ sym (flat_map-append claims_heard.opened_by early m.items) in
    record {
      items = step_items h w early k watches m refl (effect_of w k) stand told right known ∙ ap (λ os. claims_heard.with_watched watches os (seats.unwatched m.items)) (sym now_open);
      known = step_known w watches k.step k.outcome (watches_same w k.step) known;
      opened_then = now_open;
    }
