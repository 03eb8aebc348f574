-- What a step does at the seats: nothing, one input of one client, or one more watch.
use Rattle.std.proofs.Common.{◌≡◌, ℕ, zero, suc, List, [], ◌∷◌, ◌++◌, map, length, take, refl, ap, sym, ◌∙◌, subst, inl, inr}
use Rattle.std.specs.Prelude.{Bool, true, ◌-◌, slice_get, nat_lt, Option, Some, None, if◌then◌else◌}
use Rattle.std.specs.List.{AllByRecursion, list_any}
use Rattle.ax_types.specs.Places as lists
use Rattle.ax_types.specs.declared.ids.End.{End}
use Rattle.ax_types.specs.declared.ids.End.TheVariants as end
use Rattle.ax_types.specs.declared.items.Item.{Item}
use Rattle.ax_types.specs.declared.items.Item.TheVariants as item
use Rattle.ax_types.specs.declared.items.SkipReason.{SkipReason}
use Rattle.ax_types.specs.declared.items.SkipReason.TheVariants as reason
use Rattle.ax_types.specs.declared.packets.Packet.{Packet}
use Rattle.ax_types.specs.declared.sessions.Held.{Held}
use Rattle.ax_types.specs.declared.sessions.ServerInput.{ServerInput}
use Rattle.ax_types.specs.declared.sessions.ServerInput.TheVariants as input
use Rattle.ax_types.specs.declared.steps.KeptStep.{KeptStep}
use Rattle.ax_types.specs.declared.steps.Step.{Step}
use Rattle.ax_types.specs.declared.steps.Step.TheVariants as step
use Rattle.ax_types.specs.declared.steps.StepOutcome.{StepOutcome}
use Rattle.ax_types.specs.declared.steps.StepOutcome.TheVariants as outcome
use Rattle.ax_types.specs.declared.steps.WatchKind.{WatchKind}
use Rattle.spec_raft.specs.Positions as positions
use Rattle.spec_node.specs.Node as nodes
use Rattle.spec_cluster.specs.Bag as bags
use Rattle.spec_server.specs.Servers as servers
use Rattle.spec_server.specs.ServerStep as server_steps
use Rattle.spec_client.specs.Clients as clients
use Rattle.spec_world.specs.Worlds as worlds
use Rattle.spec_world.specs.Plans as plans
use Rattle.spec_world.specs.Moves as moves
use Rattle.law_growth.specs.PlanCases as plan_cases
use Rattle.law_release.proofs.Tests.{by_test}
use Rattle.law_client.specs.Inputs as inputs
use Rattle.law_client.proofs.Lists.{IsAmong, some_same, all_append}

-- items of no session
abbrev pub AreAside : List Item → Type 0
AreAside items = AllByRecursion (λ x. inputs.session_in x ≡ None) items

-- an input that may come: a payload of a packet that the network keeps for the client
abbrev pub MayCome : worlds.World → ℕ → inputs.Input → Type 0
MayCome w c (inputs.Receives node p) = ((q : Packet) × IsAmong q (plan_cases.kept_packets w.bag) × (q.payload ≡ p) × (q.to ≡ end.Client c))
MayCome w c i = Unit {0}

pub data Effect (w : worlds.World) (m : moves.Moved) : Type 0 where
  Aside : m.world.seats ≡ w.seats → AreAside m.items → Effect w m
  Acts : (c : ℕ) (s : worlds.Watcher) (i : inputs.Input) → lists.at_place w.seats c ≡ Some s → MayCome w c i
      → m.world.seats ≡ positions.change_place (λ old. record s { client = (inputs.client_stepped s.client i).client }) w.seats c
      → m.items ≡ moves.with_shown c s.watches (inputs.client_stepped s.client i).out.items → Effect w m
  Watches : (c : ℕ) (s : worlds.Watcher) (watches : List WatchKind) → lists.at_place w.seats c ≡ Some s
      → m.world.seats ≡ positions.change_place (λ old. record s { watches = watches }) w.seats c → m.items ≡ [] → Effect w m

abbrev Planned : worlds.World → plans.Plan → Type 0
Planned w p = (o : StepOutcome) → Effect w (moves.carried p o)

shows : (w v : worlds.World) (items : List Item) → v.seats ≡ w.seats → AreAside items → Planned w (plans.Shows v items)
shows w v items same a o = Aside same a

reach_aside : (n : nodes.Node) (read : Option Held) (reached : Option ℕ) → AreAside (moves.option_item (server_steps.reach_item n read reached))
reach_aside n (Some h) (Some a) = (refl, tt)
reach_aside n (Some h) None = tt
reach_aside n None (Some a) = tt
reach_aside n None None = tt

led_aside : (k : ℕ) (t : Option ℕ) → AreAside (moves.leader_item k t)
led_aside k None = tt
led_aside k (Some t) = (refl, tt)

commit_aside : (before after : ℕ) → AreAside (moves.commit_item before after)
commit_aside before after = by_test AreAside (nat_lt before after) (item.Commit after ∷ []) [] (λ e. (refl, tt)) (λ e. tt)

three_aside : (a b c : List Item) → AreAside a → AreAside b → AreAside c → AreAside (a ++ b ++ c)
three_aside a b c x y z = all_append (λ i. inputs.session_in i ≡ None) (a ++ b) c (all_append (λ i. inputs.session_in i ≡ None) a b x y) z

server_aside : (w : worlds.World) (k : ℕ) (s : servers.Server) (i : ServerInput) → AreAside (moves.server_items w k (server_steps.server_out s i))
server_aside w k s i =
    let t = servers.task s i in
    let g = server_steps.stage s t in
    three_aside (moves.leader_item k (server_steps.led_term g.raft g.out.led)) (moves.commit_item (length w.history) g.out.committed) (moves.option_item (server_steps.reach_item g.raft t.read g.out.reached))
    (led_aside k (server_steps.led_term g.raft g.out.led)) (commit_aside (length w.history) g.out.committed) (reach_aside g.raft t.read g.out.reached)

serves : (w v : worlds.World) (k : ℕ) (h : worlds.Host) (i : ServerInput) → v.seats ≡ w.seats → Planned w (plans.Serves v k h i)
serves w v k h i same outcome.Fine = Aside same (server_aside v k h.server i)
serves w v k h i same (outcome.Loaded added) = Aside same (server_aside v k h.server i)
serves w v k h i same (outcome.Failed saved) = Aside same (refl, tt)

loads : (w : worlds.World) (k : ℕ) (h : worlds.Host) → Planned w (plans.Loads w k h)
loads w k h outcome.Fine = Aside refl tt
loads w k h (outcome.Loaded added) = Aside refl tt
loads w k h (outcome.Failed saved) = Aside refl (refl, tt)

skips : (w : worlds.World) (r : SkipReason) → Planned w (plans.skips w r)
skips w r = shows w w (item.Skip r ∷ []) refl (refl, tt)

elects : (w : worlds.World) (k : ℕ) (o : Option worlds.Host) → Planned w (plans.elects w k o)
elects w k None = shows w w [] refl tt
elects w k (Some h) =
    by_test (Planned w) h.is_up (if servers.leads h.server then plans.skips w reason.IsLeader else plans.Serves w k h (input.Elect h.clock)) (plans.skips w reason.NodeDown)
    (λ e. by_test (Planned w) (servers.leads h.server) (plans.skips w reason.IsLeader) (plans.Serves w k h (input.Elect h.clock)) (λ f. skips w reason.IsLeader) (λ f. serves w w k h (input.Elect h.clock) refl))
    (λ e. skips w reason.NodeDown)

leads : (w : worlds.World) (k : ℕ) (o : Option worlds.Host) (i : ℕ → ServerInput) → Planned w (plans.led_step w k o i)
leads w k None i = shows w w [] refl tt
leads w k (Some h) i =
    by_test (Planned w) h.is_up (if servers.leads h.server then plans.Serves w k h (i h.clock) else plans.skips w reason.NotLeader) (plans.skips w reason.NodeDown)
    (λ e. by_test (Planned w) (servers.leads h.server) (plans.Serves w k h (i h.clock)) (plans.skips w reason.NotLeader) (λ f. serves w w k h (i h.clock) refl) (λ f. skips w reason.NotLeader))
    (λ e. skips w reason.NodeDown)

crashes : (w : worlds.World) (k : ℕ) (o : Option worlds.Host) → Planned w (plans.crashes w k o)
crashes w k None = shows w w [] refl tt
crashes w k (Some h) =
    let v = worlds.with_host w k (worlds.fallen_host w k h (worlds.kept_by h) []) in
    by_test (Planned w) h.is_up (plans.shows_nothing v) (plans.skips w reason.NodeDown) (λ e. shows w v [] refl tt) (λ e. skips w reason.NodeDown)

starts : (w : worlds.World) (k : ℕ) (o : Option worlds.Host) → Planned w (plans.starts w k o)
starts w k None = shows w w [] refl tt
starts w k (Some h) = by_test (Planned w) h.is_up (plans.skips w reason.NodeUp) (plans.Loads w k h) (λ e. skips w reason.NodeUp) (λ e. loads w k h)

sets_clock : (w : worlds.World) (k time : ℕ) (o : Option worlds.Host) → Planned w (plans.sets_clock w k time o)
sets_clock w k time None = shows w w [] refl tt
sets_clock w k time (Some h) = shows w (worlds.with_host w k (record h { clock = time })) [] refl tt

-- a client's input
acts : (w v : worlds.World) (c : ℕ) (s : worlds.Watcher) (i : inputs.Input) → v.seats ≡ w.seats → lists.at_place w.seats c ≡ Some s → MayCome w c i → Planned w (plans.Asks v c s (inputs.client_stepped s.client i))
acts w v c s i same is may o = Acts c s i is may (ap (λ seats. positions.change_place (λ old. record s { client = (inputs.client_stepped s.client i).client }) seats c) same) refl

-- a client's step that may be refused
asks_if : (w : worlds.World) (c : ℕ) (s : worlds.Watcher) (i : inputs.Input) (r : Option SkipReason) (next : clients.ClientStep) → lists.at_place w.seats c ≡ Some s → MayCome w c i
    → (r ≡ None → inputs.client_stepped s.client i ≡ next) → Planned w (plans.client_asks_if w c s r next)
asks_if w c s i (Some r) next is may f = skips w r
asks_if w c s i None next is may f = subst (λ n. Planned w (plans.Asks w c s n)) (f refl) (acts w w c s i refl is may)

asks : (w : worlds.World) (c : ℕ) (o : Option worlds.Watcher) (i : inputs.Input) (refusal : clients.Client → Option SkipReason) (next : clients.Client → clients.ClientStep) → lists.at_place w.seats c ≡ o → MayCome w c i
    → ((x : clients.Client) → refusal x ≡ None → inputs.client_stepped x i ≡ next x) → Planned w (plans.client_asks w c o refusal next)
asks w c None i refusal next is may f = shows w w [] refl tt
asks w c (Some s) i refusal next is may f = asks_if w c s i (refusal s.client) (next s.client) is may (f s.client)

calls : (w : worlds.World) (c : ℕ) (o : Option worlds.Watcher) (i : inputs.Input) (next : clients.Client → clients.ClientStep) → lists.at_place w.seats c ≡ o → MayCome w c i
    → ((x : clients.Client) → inputs.client_stepped x i ≡ inputs.calls_or_not x (next x)) → Planned w (plans.calls_at w c o next)
calls w c None i next is may f = shows w w [] refl tt
calls w c (Some s) i next is may f =
    let x = s.client in
    let unsent = plans.Shows (worlds.with_watcher w c (record s { client = clients.unsent x })) (item.Unsent (clients.own_session x.state) (clients.unsent_number x) ∷ []) in
    by_test (Planned w) (clients.has_ended x.state) unsent (plans.client_asks_if w c s (clients.call_refusal x) (next x))
    (λ e o.
    let is_unsent : inputs.client_stepped x i ≡ inputs.uses_number x = f x ∙ ap (λ (b : Bool). if b then inputs.uses_number x else inputs.unless (clients.call_refusal x) x (next x)) e in
    Acts c s i is may (ap (λ n. positions.change_place (λ old. record s { client = n.client }) w.seats c) (sym is_unsent)) (ap (λ n. moves.with_shown c s.watches n.out.items) (sym is_unsent)))
    (λ e. asks_if w c s i (clients.call_refusal x) (next x) is may
    (λ r. f x ∙ ap (λ (b : Bool). if b then inputs.uses_number x else inputs.unless (clients.call_refusal x) x (next x)) e ∙ ap (λ q. inputs.unless q x (next x)) r))

watches : (w : worlds.World) (c : ℕ) (kind : WatchKind) (o : Option worlds.Watcher) → lists.at_place w.seats c ≡ o → Planned w (plans.watches_at w c kind o)
watches w c kind None is = shows w w [] refl tt
watches w c kind (Some s) is =
    by_test (Planned w) (list_any (plans.same_kind kind) s.watches) (plans.skips w reason.Watched) (plans.shows_nothing (worlds.with_watcher w c (record s { watches = s.watches ++ kind ∷ [] }))) (λ e. skips w reason.Watched)
    (λ e o. Watches c s (s.watches ++ kind ∷ []) is refl refl)

-- a packet is delivered
reaches_node : (w v : worlds.World) (k : ℕ) (p : Packet) (o : Option worlds.Host) → v.seats ≡ w.seats → Planned w (plans.reaches_node v k p o)
reaches_node w v k p None same = shows w v [] same tt
reaches_node w v k p (Some h) same = serves w v k h (input.Packet h.clock p) same

receives : (w v : worlds.World) (c : ℕ) (q : Packet) (a : End) (o : Option worlds.Watcher) → v.seats ≡ w.seats → lists.at_place w.seats c ≡ o → IsAmong q (plan_cases.kept_packets w.bag) → q.to ≡ end.Client c
    → Planned w (plans.receives_from v c q.payload a o)
receives w v c q a None same is among to = shows w v [] same tt
receives w v c q (end.Node k) (Some s) same is among to = acts w v c s (inputs.Receives k q.payload) same is (q, among, refl, to)
receives w v c q (end.Client d) (Some s) same is among to = shows w v [] same tt

reaches : (w v : worlds.World) (q : Packet) (e : End) → v.seats ≡ w.seats → IsAmong q (plan_cases.kept_packets w.bag) → q.to ≡ e → Planned w (plans.reaches v q e)
reaches w v q (end.Node k) same among to = reaches_node w v k q (lists.at_place v.hosts k) same
reaches w v q (end.Client c) same among to = receives w v c q q.«from» (lists.at_place v.seats c) same (ap (λ seats. lists.at_place seats c) (sym same)) among to

pub among_at : (bag : bags.Bag) (number : ℕ) (s : bags.KeptPacket) → bags.kept_at bag number ≡ Some s → IsAmong s.packet (plan_cases.kept_packets bag)
among_at bag number s e = at_among bag.kept (number - bags.gone bag) e
  where
    get_among : (xs : List bags.KeptPacket) (k : ℕ) → slice_get xs k ≡ Some s → IsAmong s.packet (map (λ (x : bags.KeptPacket). x.packet) xs)
    get_among [] k f = absurd (cc)
    get_among (x ∷ xs) zero f = inl (ap (λ (y : bags.KeptPacket). y.packet) (some_same x s f))
    get_among (x ∷ xs) (suc k) f = inr (get_among xs k f)

    at_among : (xs : List bags.KeptPacket) (k : ℕ) → lists.at_place xs k ≡ Some s → IsAmong s.packet (map (λ (x : bags.KeptPacket). x.packet) xs)
    at_among xs zero f = absurd (cc)
    at_among xs (suc k) f = get_among xs k f

delivers_slot : (w : worlds.World) (number : ℕ) (o : Option bags.KeptPacket) (is_whole : Packet → Bool) → bags.kept_at w.bag number ≡ o → Planned w (plans.delivers_slot w number o is_whole)
delivers_slot w number None is_whole is = shows w w [] refl tt
delivers_slot w number (Some s) is_whole is =
    let m = record w { bag = bags.with_mark w.bag number } in
    by_test (Planned w) (is_whole s.packet) (plans.reaches m s.packet s.packet.to) (plans.shows_nothing m) (λ e. reaches w m s.packet s.packet.to refl (among_at w.bag number s is) refl) (λ e. shows w m [] refl tt)

delivers : (w : worlds.World) (number : ℕ) (is_whole : Packet → Bool) (r : Option SkipReason) → Planned w (plans.delivers_if w number is_whole r)
delivers w number is_whole (Some r) = skips w r
delivers w number is_whole None = delivers_slot w number (bags.kept_at w.bag number) is_whole refl

drops : (w : worlds.World) (number : ℕ) (r : Option SkipReason) → Planned w (plans.drops w number r)
drops w number (Some r) = skips w r
drops w number None = shows w (record w { bag = bags.with_mark w.bag number }) [] refl tt

pending_aside : (bag : bags.Bag) → AreAside (bags.pending_items bag)
pending_aside bag = each (take bags.most_shown (bags.unmarked bag))
  where
    each : (xs : List (ℕ × Packet)) → AreAside (map bags.pending_item xs)
    each [] = tt
    each (x ∷ xs) = (refl, each xs)

unless_none : (r : Option SkipReason) (c : clients.Client) (next : clients.ClientStep) → r ≡ None → inputs.unless r c next ≡ next
unless_none r c next e = ap (λ q. inputs.unless q c next) e

pub planned : (w : worlds.World) (s : Step) → Planned w (plans.plan w s)
planned w (step.Elect k) = elects w k (lists.at_place w.hosts k)
planned w (step.Beat k) = leads w k (lists.at_place w.hosts k) input.Beat
planned w (step.Crash k) = crashes w k (lists.at_place w.hosts k)
planned w (step.Start k) = starts w k (lists.at_place w.hosts k)
planned w (step.Clock k time) = sets_clock w k time (lists.at_place w.hosts k)
planned w (step.Expire k) = leads w k (lists.at_place w.hosts k) input.Check
planned w (step.Cut a b) = shows w (record w { bag = bags.with_cut w.bag a b }) [] refl tt
planned w (step.Join a b) = shows w (record w { bag = bags.with_join w.bag a b }) [] refl tt
planned w (step.Deliver number) = delivers w number (λ p. true) (bags.take_refusal w.bag (worlds.up_nodes w) number)
planned w (step.Drop number) = drops w number (bags.mark_refusal w.bag number)
planned w (step.Short number bytes) = delivers w number (plans.is_within bytes) (bags.take_refusal w.bag (worlds.up_nodes w) number)
planned w step.List = shows w w (item.Listed (bags.pending_count w.bag) ∷ bags.pending_items w.bag) refl (refl, pending_aside w.bag)
planned w (step.Open c k) = asks w c (lists.at_place w.seats c) (inputs.Opens k) clients.open_refusal (λ x. clients.opens x k) refl tt (λ x e. unless_none (clients.open_refusal x) x (clients.opens x k) e)
planned w (step.Switch c k) = asks w c (lists.at_place w.seats c) (inputs.Switches k) plans.never (λ x. clients.switches x k) refl tt (λ x e. refl)
planned w (step.Resend c) = asks w c (lists.at_place w.seats c) inputs.Resends clients.resend_refusal clients.resends refl tt (λ x e. unless_none (clients.resend_refusal x) x (clients.resends x) e)
planned w (step.Keep c) = asks w c (lists.at_place w.seats c) inputs.Keeps clients.keep_refusal clients.keeps refl tt (λ x e. unless_none (clients.keep_refusal x) x (clients.keeps x) e)
planned w (step.Close c) = asks w c (lists.at_place w.seats c) inputs.Closes clients.close_refusal clients.closes refl tt (λ x e. unless_none (clients.close_refusal x) x (clients.closes x) e)
planned w (step.Watch c kind) = watches w c kind (lists.at_place w.seats c) refl
planned w (step.Call c name o) = calls w c (lists.at_place w.seats c) (inputs.Calls name o) (λ x. clients.makes_call x name o) refl tt (λ x. refl)
planned w (step.Query c l name q) = calls w c (lists.at_place w.seats c) (inputs.Queries l name q) (λ x. clients.queries x l name q) refl tt (λ x. refl)

pub effect_of : (w : worlds.World) (k : KeptStep) → Effect w (moves.moved w k)
effect_of w k = planned w k.step k.outcome
