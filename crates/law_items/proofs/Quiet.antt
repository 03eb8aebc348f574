-- Items that are of no node: those of clients, of the network, of halts and skips.
use Rattle.std.proofs.Common.{◌≡◌, ℕ, List, [], ◌∷◌, ◌++◌, map, take, refl, sym}
use Rattle.std.specs.Prelude.{◌≤◌, Bool, true, false, ◌&&◌, Option, Some, None, is_some, flat_map, filter, if◌then◌else◌}
use Rattle.std.specs.List.{AllByRecursion, list_any}
use Rattle.ax_types.specs.Places as lists
use Rattle.ax_types.specs.declared.entries.Batch.{Batch}
use Rattle.ax_types.specs.declared.replies.Event.{Event}
use Rattle.ax_types.specs.declared.ids.End.{End}
use Rattle.ax_types.specs.declared.ids.End.TheVariants as end
use Rattle.ax_types.specs.declared.items.Item.{Item}
use Rattle.ax_types.specs.declared.items.Item.TheVariants as item
use Rattle.ax_types.specs.declared.items.SkipReason.{SkipReason}
use Rattle.ax_types.specs.declared.items.SkipReason.TheVariants as reason
use Rattle.ax_types.specs.declared.ops.WindowCall.{WindowCall}
use Rattle.ax_types.specs.declared.ops.WindowCall.TheVariants as call
use Rattle.ax_types.specs.declared.packets.Packet.{Packet}
use Rattle.ax_types.specs.declared.packets.Payload.{Payload}
use Rattle.ax_types.specs.declared.packets.Payload.TheVariants as payload
use Rattle.ax_types.specs.declared.replies.How.{How}
use Rattle.ax_types.specs.declared.sessions.Got.{Got}
use Rattle.ax_types.specs.declared.sessions.Heard.{Heard}
use Rattle.ax_types.specs.declared.sessions.Heard.TheVariants as heard
use Rattle.ax_types.specs.declared.sessions.ServerInput.{ServerInput}
use Rattle.ax_types.specs.declared.sessions.ServerInput.TheVariants as input
use Rattle.ax_types.specs.declared.steps.Step.{Step}
use Rattle.ax_types.specs.declared.steps.Step.TheVariants as step
use Rattle.ax_types.specs.declared.steps.WatchKind.{WatchKind}
use Rattle.spec_claims.specs.Transcript as transcripts
use Rattle.spec_claims.specs.Right as claims_right
use Rattle.spec_claims.specs.Heard as claims_heard
use Rattle.spec_cluster.specs.Bag as bags
use Rattle.spec_cluster.specs.Cluster as clusters
use Rattle.spec_sequencer.specs.Sequencers as sequencers
use Rattle.spec_server.specs.Servers as servers
use Rattle.spec_client.specs.Clients as clients
use Rattle.spec_client.specs.Receipts as receipts
use Rattle.spec_world.specs.Worlds as worlds
use Rattle.spec_world.specs.Plans as plans
use Rattle.spec_world.specs.Moves as moves
use Rattle.law_refinement.proofs.Tests.{by_test}
use Rattle.law_growth.proofs.Cases.{true_false}
use Rattle.law_items.specs.Ordered as laws

abbrev pub IsQuiet : Item → Type 0
IsQuiet x = laws.is_of_nodes x ≡ false

abbrev pub AllQuiet : List Item → Type 0
AllQuiet items = AllByRecursion IsQuiet items

-- a read that was reached is one of those taken, when so many places were committed as the items above it say
pub record WasTaken (takens : List clusters.ReadTaken) (t a : ℕ) (above : List Item) : Type 0 where
  pub place : ℕ
  pub taken : clusters.ReadTaken
  pub found : lists.at_place takens place ≡ Some taken
  pub term : taken.term ≡ t
  pub arrival : taken.arrival ≡ a
  pub covers : transcripts.greatest_commit above ≤ taken.committed

abbrev pub CoversItem : List clusters.ReadTaken → Item → List Item → Type 0
CoversItem takens (item.Reach k t a s n) above = WasTaken takens t a above
CoversItem takens x above = Unit {0}

-- such an item counts for nothing
pub record Counts (x : Item) : Type 0 where
  pub commit : (xs : List Item) → transcripts.greatest_commit (x ∷ xs) ≡ transcripts.greatest_commit xs
  pub leader : (t : ℕ) → claims_right.is_leader_in t x ≡ false
  pub reach : (t : ℕ) → claims_right.is_reach_in t x ≡ false
  pub order : (xs : List Item) → laws.IsInOrder xs x
  pub cover : (takens : List clusters.ReadTaken) (xs : List Item) → CoversItem takens x xs

pub quiet : (x : Item) → IsQuiet x → Counts x
quiet (item.Leader xa xb) e = true_false e
quiet (item.Commit xa) e = true_false e
quiet (item.Reach xa xb xc xd xe) e = true_false e
quiet (item.Halted xa) e = record { commit = λ xs. refl; leader = λ t. refl; reach = λ t. refl; order = λ xs. tt; cover = λ ts xs. tt }
quiet (item.Opened xa xb) e = record { commit = λ xs. refl; leader = λ t. refl; reach = λ t. refl; order = λ xs. tt; cover = λ ts xs. tt }
quiet (item.Called xa xb xc) e = record { commit = λ xs. refl; leader = λ t. refl; reach = λ t. refl; order = λ xs. tt; cover = λ ts xs. tt }
quiet (item.Event xa xb xc xd) e = record { commit = λ xs. refl; leader = λ t. refl; reach = λ t. refl; order = λ xs. tt; cover = λ ts xs. tt }
quiet (item.Watched xa xb xc xd xe) e = record { commit = λ xs. refl; leader = λ t. refl; reach = λ t. refl; order = λ xs. tt; cover = λ ts xs. tt }
quiet (item.Reply xa xb xc xd) e = record { commit = λ xs. refl; leader = λ t. refl; reach = λ t. refl; order = λ xs. tt; cover = λ ts xs. tt }
quiet (item.Read xa xb xc xd xe xf) e = record { commit = λ xs. refl; leader = λ t. refl; reach = λ t. refl; order = λ xs. tt; cover = λ ts xs. tt }
quiet (item.Ended xa xb xc) e = record { commit = λ xs. refl; leader = λ t. refl; reach = λ t. refl; order = λ xs. tt; cover = λ ts xs. tt }
quiet (item.Doubt xa xb) e = record { commit = λ xs. refl; leader = λ t. refl; reach = λ t. refl; order = λ xs. tt; cover = λ ts xs. tt }
quiet (item.Lost xa xb) e = record { commit = λ xs. refl; leader = λ t. refl; reach = λ t. refl; order = λ xs. tt; cover = λ ts xs. tt }
quiet (item.Unsent xa xb) e = record { commit = λ xs. refl; leader = λ t. refl; reach = λ t. refl; order = λ xs. tt; cover = λ ts xs. tt }
quiet (item.Unanswered xa xb) e = record { commit = λ xs. refl; leader = λ t. refl; reach = λ t. refl; order = λ xs. tt; cover = λ ts xs. tt }
quiet (item.Listed xa) e = record { commit = λ xs. refl; leader = λ t. refl; reach = λ t. refl; order = λ xs. tt; cover = λ ts xs. tt }
quiet (item.Pending xa xb xc xd) e = record { commit = λ xs. refl; leader = λ t. refl; reach = λ t. refl; order = λ xs. tt; cover = λ ts xs. tt }
quiet (item.Skip xa) e = record { commit = λ xs. refl; leader = λ t. refl; reach = λ t. refl; order = λ xs. tt; cover = λ ts xs. tt }

quiet_append : (xs ys : List Item) → AllQuiet xs → AllQuiet ys → AllQuiet (xs ++ ys)
quiet_append [] ys h k = k
quiet_append (x ∷ xs) ys h k = (h.0, quiet_append xs ys h.1 k)

quiet_map : {X : Type 0} (f : X → Item) (xs : List X) → ((x : X) → IsQuiet (f x)) → AllQuiet (map f xs)
quiet_map f [] h = tt
quiet_map f (x ∷ xs) h = (h x, quiet_map f xs h)

-- items that are neither of nodes nor of watches
abbrev pub IsPlain : Item → Type 0
IsPlain x = laws.is_plain x ≡ true

abbrev pub AllPlain : List Item → Type 0
AllPlain items = AllByRecursion IsPlain items

plain_quiet : (x : Item) → IsPlain x → IsQuiet x
plain_quiet (item.Leader xa xb) e = true_false (sym e)
plain_quiet (item.Commit xa) e = true_false (sym e)
plain_quiet (item.Reach xa xb xc xd xe) e = true_false (sym e)
plain_quiet (item.Halted xa) e = refl
plain_quiet (item.Opened xa xb) e = refl
plain_quiet (item.Called xa xb xc) e = refl
plain_quiet (item.Event xa xb xc xd) e = refl
plain_quiet (item.Watched xa xb xc xd xe) e = refl
plain_quiet (item.Reply xa xb xc xd) e = refl
plain_quiet (item.Read xa xb xc xd xe xf) e = refl
plain_quiet (item.Ended xa xb xc) e = refl
plain_quiet (item.Doubt xa xb) e = refl
plain_quiet (item.Lost xa xb) e = refl
plain_quiet (item.Unsent xa xb) e = refl
plain_quiet (item.Unanswered xa xb) e = refl
plain_quiet (item.Listed xa) e = refl
plain_quiet (item.Pending xa xb xc xd) e = refl
plain_quiet (item.Skip xa) e = refl

pub all_quiet : (xs : List Item) → AllPlain xs → AllQuiet xs
all_quiet [] h = tt
all_quiet (x ∷ xs) h = (plain_quiet x h.0, all_quiet xs h.1)

pub plain_bare : (x : Item) → IsPlain x → claims_heard.is_watched x ≡ false
plain_bare (item.Halted xa) e = refl
plain_bare (item.Opened xa xb) e = refl
plain_bare (item.Called xa xb xc) e = refl
plain_bare (item.Event xa xb xc xd) e = refl
plain_bare (item.Watched xa xb xc xd xe) e = true_false (sym e)
plain_bare (item.Reply xa xb xc xd) e = refl
plain_bare (item.Read xa xb xc xd xe xf) e = refl
plain_bare (item.Ended xa xb xc) e = refl
plain_bare (item.Doubt xa xb) e = refl
plain_bare (item.Lost xa xb) e = refl
plain_bare (item.Unsent xa xb) e = refl
plain_bare (item.Unanswered xa xb) e = refl
plain_bare (item.Listed xa) e = refl
plain_bare (item.Pending xa xb xc xd) e = refl
plain_bare (item.Skip xa) e = refl
plain_bare (item.Leader xa xb) e = refl
plain_bare (item.Commit xa) e = refl
plain_bare (item.Reach xa xb xc xd xe) e = refl

all_append : (xs ys : List Item) → AllPlain xs → AllPlain ys → AllPlain (xs ++ ys)
all_append [] ys h k = k
all_append (x ∷ xs) ys h k = (h.0, all_append xs ys h.1 k)

all_map : {X : Type 0} (f : X → Item) (xs : List X) → ((x : X) → IsPlain (f x)) → AllPlain (map f xs)
all_map f [] h = tt
all_map f (x ∷ xs) h = (h x, all_map f xs h)

-- items of clients
abbrev StepQuiet : clients.ClientStep → Type 0
StepQuiet next = AllPlain next.out.items

answer : (session : ℕ) (g : Got) (r : clients.Request) (w : WindowCall) → IsPlain (receipts.answer_item session g r w)
answer session g r (call.Command name o) = refl
answer session g r (call.Query l name q) = refl

answer_for : (session : ℕ) (g : Got) (o : Option clients.Request) → AllPlain (receipts.item_for session g o)
answer_for session g None = tt
answer_for session g (Some r) = (answer session g r r.call, tt)

answers : (c : clients.Client) (gots : List (ℕ × Got)) → AllPlain (receipts.items_of c gots)
answers c [] = tt
answers c (g ∷ gots) = all_append (receipts.item_for (clients.own_session c.state) g.1 (receipts.request c.requests g.0)) (receipts.items_of c gots) (answer_for (clients.own_session c.state) g.1 (receipts.request c.requests g.0)) (answers c gots)

releases : (c : clients.Client) (first : List Item) → AllPlain first → StepQuiet (receipts.releases c first)
releases c first h = all_append first (receipts.items_of c (sequencers.release_of c.sequencer).items) h (answers c (sequencers.release_of c.sequencer).items)

gets : (c : clients.Client) (u : Option sequencers.Unanswered) (g : Got) → StepQuiet (receipts.gets c u g)
gets c None g = tt
gets c (Some u) g = let d : clients.Client = record c { sequencer = sequencers.with_answer c.sequencer u.number g } in by_test StepQuiet (is_some u.got) (clients.ignores c) (receipts.releases d []) (λ e. tt) (λ e. releases d [] tt)

batch : (c : clients.Client) (node : ℕ) (b : Batch) (h : Heard) → StepQuiet (receipts.takes_batch c node b h)
batch c node b heard.Old = tt
batch c node b heard.Taken = releases (record c { sequencer = sequencers.with_heard c.sequencer b }) (item.Event (clients.own_session c.state) b.place b.prev b.events ∷ []) (refl, tt)
batch c node b (heard.Missing h) = tt

lost : (session : ℕ) (u : sequencers.Unanswered) → IsPlain (receipts.outcome_at_end session u)
lost session u = by_test IsPlain (sequencers.is_query u) (item.Lost session u.number) (item.Doubt session u.number) (λ e. refl) (λ e. refl)

receives : (c : clients.Client) (node : ℕ) (p : Payload) → StepQuiet (receipts.receives c node p)
receives c node (payload.Opened opening session) = by_test StepQuiet (clients.is_opening c.state && sequencers.accepts c.switch opening) (receipts.takes_opened c session) (clients.ignores c) (λ e. (refl, tt)) (λ e. tt)
receives c node (payload.Reply session seq place events reply) =
    let g : Got = record { place = place; events = events; reach = None; reply = reply } in
    by_test StepQuiet (receipts.is_own_live c session) (receipts.gets c (receipts.asked_command c.sequencer.calls seq) g) (clients.ignores c) (λ e. gets c (receipts.asked_command c.sequencer.calls seq) g) (λ e. tt)
receives c node (payload.Answer session number l place events term arrival reply) =
    let g : Got = record { place = place; events = events; reach = receipts.reach_of l term arrival; reply = reply } in
    by_test StepQuiet (receipts.is_own_live c session) (receipts.gets c (receipts.asked_query c.sequencer.calls number l) g) (clients.ignores c) (λ e. gets c (receipts.asked_query c.sequencer.calls number l) g) (λ e. tt)
receives c node (payload.Gap session last) = by_test StepQuiet (receipts.is_own_live c session) (clients.client_step c [] (clients.to_server c (receipts.gap_of c last))) (clients.ignores c) (λ e. tt) (λ e. tt)
receives c node (payload.Batch session place prev events) =
    let b : Batch = record { place = place; prev = prev; events = events } in
    by_test StepQuiet (receipts.is_own c session) (receipts.takes_batch c node b (sequencers.heard_of c.sequencer b)) (clients.ignores c) (λ e. batch c node b (sequencers.heard_of c.sequencer b)) (λ e. tt)
receives c node (payload.Ended session place h) = by_test StepQuiet (receipts.is_own c session) (receipts.takes_end c session place h) (clients.ignores c)
    (λ e. (refl, all_map (receipts.outcome_at_end session) c.sequencer.calls (lost session))) (λ e. tt)
receives c node (payload.Vote a b d) = tt
receives c node (payload.VoteReply a b) = tt
receives c node (payload.Append a b d e f g) = tt
receives c node (payload.AppendReply a b d e) = tt
receives c node (payload.Register a b) = tt
receives c node (payload.Keep a b d e) = tt
receives c node (payload.Command a b d e f) = tt
receives c node (payload.Close a b) = tt
receives c node (payload.Query a b d e f g h i) = tt
receives c node (payload.Connect a b d) = tt
receives c node (payload.Reset a b d) = tt

-- with what its watches show
watched : (c s p : ℕ) (es : List Event) (kinds : List WatchKind) → AllQuiet (flat_map (claims_heard.watched_by c s p es) kinds)
watched c s p es [] = tt
watched c s p es (k ∷ kinds) = quiet_append (claims_heard.watched_by c s p es k) (flat_map (claims_heard.watched_by c s p es) kinds) (quiet_map (λ e. item.Watched c k s p e) (filter (claims_heard.holds k) es) (λ e. refl)) (watched c s p es kinds)

shown : (c : ℕ) (kinds : List WatchKind) (x : Item) → AllQuiet (moves.shown_below c kinds x)
shown c kinds (item.Leader xa xb) = tt
shown c kinds (item.Commit xa) = tt
shown c kinds (item.Reach xa xb xc xd xe) = tt
shown c kinds (item.Halted xa) = tt
shown c kinds (item.Opened xa xb) = tt
shown c kinds (item.Called xa xb xc) = tt
shown c kinds (item.Event xa xb xc xd) = watched c xa xb xd kinds
shown c kinds (item.Watched xa xb xc xd xe) = tt
shown c kinds (item.Reply xa xb xc xd) = tt
shown c kinds (item.Read xa xb xc xd xe xf) = tt
shown c kinds (item.Ended xa xb xc) = tt
shown c kinds (item.Doubt xa xb) = tt
shown c kinds (item.Lost xa xb) = tt
shown c kinds (item.Unsent xa xb) = tt
shown c kinds (item.Unanswered xa xb) = tt
shown c kinds (item.Listed xa) = tt
shown c kinds (item.Pending xa xb xc xd) = tt
shown c kinds (item.Skip xa) = tt

pub with_shown : (c : ℕ) (kinds : List WatchKind) (items : List Item) → AllPlain items → AllQuiet (moves.with_shown c kinds items)
with_shown c kinds [] h = tt
with_shown c kinds (x ∷ items) h = quiet_append (x ∷ moves.shown_below c kinds x) (moves.with_shown c kinds items) (plain_quiet x h.0, shown c kinds x) (with_shown c kinds items h.1)

-- what a step asks for shows no item of a node but a server's
abbrev pub PlanQuiet : plans.Plan → Type 0
PlanQuiet (plans.Serves w k h i) = Unit {0}
PlanQuiet (plans.Loads w k h) = Unit {0}
PlanQuiet (plans.Asks w c s next) = StepQuiet next
PlanQuiet (plans.Shows w items) = AllPlain items

elects : (w : worlds.World) (k : ℕ) (o : Option worlds.Host) → PlanQuiet (plans.elects w k o)
elects w k None = tt
elects w k (Some h) =
    by_test PlanQuiet h.is_up (if servers.leads h.server then plans.skips w reason.IsLeader else plans.Serves w k h (input.Elect h.clock)) (plans.skips w reason.NodeDown)
    (λ up. by_test PlanQuiet (servers.leads h.server) (plans.skips w reason.IsLeader) (plans.Serves w k h (input.Elect h.clock)) (λ l. (refl, tt)) (λ l. tt)) (λ down. (refl, tt))

led : (w : worlds.World) (k : ℕ) (o : Option worlds.Host) (i : ℕ → ServerInput) → PlanQuiet (plans.led_step w k o i)
led w k None i = tt
led w k (Some h) i =
    by_test PlanQuiet h.is_up (if servers.leads h.server then plans.Serves w k h (i h.clock) else plans.skips w reason.NotLeader) (plans.skips w reason.NodeDown)
    (λ up. by_test PlanQuiet (servers.leads h.server) (plans.Serves w k h (i h.clock)) (plans.skips w reason.NotLeader) (λ l. tt) (λ l. (refl, tt))) (λ down. (refl, tt))

crashes : (w : worlds.World) (k : ℕ) (o : Option worlds.Host) → PlanQuiet (plans.crashes w k o)
crashes w k None = tt
crashes w k (Some h) = by_test PlanQuiet h.is_up (plans.shows_nothing (worlds.with_host w k (worlds.fallen_host w k h (worlds.kept_by h) []))) (plans.skips w reason.NodeDown) (λ up. tt) (λ down. (refl, tt))

starts : (w : worlds.World) (k : ℕ) (o : Option worlds.Host) → PlanQuiet (plans.starts w k o)
starts w k None = tt
starts w k (Some h) = by_test PlanQuiet h.is_up (plans.skips w reason.NodeUp) (plans.Loads w k h) (λ up. (refl, tt)) (λ down. tt)

sets_clock : (w : worlds.World) (k time : ℕ) (o : Option worlds.Host) → PlanQuiet (plans.sets_clock w k time o)
sets_clock w k time None = tt
sets_clock w k time (Some h) = tt

reaches_node : (w : worlds.World) (k : ℕ) (p : Packet) (o : Option worlds.Host) → PlanQuiet (plans.reaches_node w k p o)
reaches_node w k p None = tt
reaches_node w k p (Some h) = tt

receives_from : (w : worlds.World) (c : ℕ) (p : Payload) (a : End) (o : Option worlds.Watcher) → PlanQuiet (plans.receives_from w c p a o)
receives_from w c p a None = tt
receives_from w c p (end.Node k) (Some s) = receives s.client k p
receives_from w c p (end.Client d) (Some s) = tt

reaches : (w : worlds.World) (p : Packet) (a : End) → PlanQuiet (plans.reaches w p a)
reaches w p (end.Node k) = reaches_node w k p (lists.at_place w.hosts k)
reaches w p (end.Client c) = receives_from w c p.payload p.«from» (lists.at_place w.seats c)

delivers_slot : (w : worlds.World) (number : ℕ) (o : Option bags.KeptPacket) (is_whole : Packet → Bool) → PlanQuiet (plans.delivers_slot w number o is_whole)
delivers_slot w number None is_whole = tt
delivers_slot w number (Some s) is_whole = let m : worlds.World = record w { bag = bags.with_mark w.bag number } in by_test PlanQuiet (is_whole s.packet) (plans.reaches m s.packet s.packet.to) (plans.shows_nothing m) (λ e. reaches m s.packet s.packet.to) (λ e. tt)

delivers : (w : worlds.World) (number : ℕ) (is_whole : Packet → Bool) (r : Option SkipReason) → PlanQuiet (plans.delivers_if w number is_whole r)
delivers w number is_whole (Some r) = (refl, tt)
delivers w number is_whole None = delivers_slot w number (bags.kept_at w.bag number) is_whole

drops : (w : worlds.World) (number : ℕ) (r : Option SkipReason) → PlanQuiet (plans.drops w number r)
drops w number (Some r) = (refl, tt)
drops w number None = tt

asks_if : (w : worlds.World) (c : ℕ) (s : worlds.Watcher) (r : Option SkipReason) (next : clients.ClientStep) → StepQuiet next → PlanQuiet (plans.client_asks_if w c s r next)
asks_if w c s (Some r) next h = (refl, tt)
asks_if w c s None next h = h

asks : (w : worlds.World) (c : ℕ) (o : Option worlds.Watcher) (refusal : clients.Client → Option SkipReason) (next : clients.Client → clients.ClientStep) → ((x : clients.Client) → StepQuiet (next x)) → PlanQuiet (plans.client_asks w c o refusal next)
asks w c None refusal next h = tt
asks w c (Some s) refusal next h = asks_if w c s (refusal s.client) (next s.client) (h s.client)

calls : (w : worlds.World) (c : ℕ) (o : Option worlds.Watcher) (next : clients.Client → clients.ClientStep) → ((x : clients.Client) → StepQuiet (next x)) → PlanQuiet (plans.calls_at w c o next)
calls w c None next h = tt
calls w c (Some s) next h =
    by_test PlanQuiet (clients.has_ended s.client.state)
    (plans.Shows (worlds.with_watcher w c (record s { client = clients.unsent s.client })) (item.Unsent (clients.own_session s.client.state) (clients.unsent_number s.client) ∷ []))
    (plans.client_asks_if w c s (clients.call_refusal s.client) (next s.client)) (λ e. (refl, tt)) (λ e. asks_if w c s (clients.call_refusal s.client) (next s.client) (h s.client))

watches : (w : worlds.World) (c : ℕ) (kind : WatchKind) (o : Option worlds.Watcher) → PlanQuiet (plans.watches_at w c kind o)
watches w c kind None = tt
watches w c kind (Some s) = by_test PlanQuiet (list_any (plans.same_kind kind) s.watches) (plans.skips w reason.Watched) (plans.shows_nothing (worlds.with_watcher w c (record s { watches = s.watches ++ kind ∷ [] }))) (λ e. (refl, tt)) (λ e. tt)

pub plan_quiet : (w : worlds.World) (s : Step) → PlanQuiet (plans.plan w s)
plan_quiet w (step.Elect k) = elects w k (lists.at_place w.hosts k)
plan_quiet w (step.Beat k) = led w k (lists.at_place w.hosts k) input.Beat
plan_quiet w (step.Crash k) = crashes w k (lists.at_place w.hosts k)
plan_quiet w (step.Start k) = starts w k (lists.at_place w.hosts k)
plan_quiet w (step.Clock k time) = sets_clock w k time (lists.at_place w.hosts k)
plan_quiet w (step.Expire k) = led w k (lists.at_place w.hosts k) input.Check
plan_quiet w (step.Cut a b) = tt
plan_quiet w (step.Join a b) = tt
plan_quiet w (step.Deliver number) = delivers w number (λ p. true) (bags.take_refusal w.bag (worlds.up_nodes w) number)
plan_quiet w (step.Drop number) = drops w number (bags.mark_refusal w.bag number)
plan_quiet w (step.Short number bytes) = delivers w number (plans.is_within bytes) (bags.take_refusal w.bag (worlds.up_nodes w) number)
plan_quiet w step.List = (refl, all_map bags.pending_item (take bags.most_shown (bags.unmarked w.bag)) (λ p. refl))
plan_quiet w (step.Open c k) = asks w c (lists.at_place w.seats c) clients.open_refusal (λ x. clients.opens x k) (λ x. tt)
plan_quiet w (step.Switch c k) = asks w c (lists.at_place w.seats c) plans.never (λ x. clients.switches x k) (λ x. tt)
plan_quiet w (step.Resend c) = asks w c (lists.at_place w.seats c) clients.resend_refusal clients.resends (λ x. tt)
plan_quiet w (step.Keep c) = asks w c (lists.at_place w.seats c) clients.keep_refusal clients.keeps (λ x. tt)
plan_quiet w (step.Close c) = asks w c (lists.at_place w.seats c) clients.close_refusal clients.closes (λ x. tt)
plan_quiet w (step.Watch c kind) = watches w c kind (lists.at_place w.seats c)
plan_quiet w (step.Call c name o) = calls w c (lists.at_place w.seats c) (λ x. clients.makes_call x name o) (λ x. (refl, tt))
plan_quiet w (step.Query c level name q) = calls w c (lists.at_place w.seats c) (λ x. clients.queries x level name q) (λ x. (refl, tt))
