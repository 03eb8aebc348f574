-- No step but the setting of a watch changes what clients watch.
use Rattle.std.proofs.Common.{◌≡◌, ℕ, zero, suc, List, [], ◌∷◌, ◌++◌, map, refl, ap, sym, ◌∙◌}
use Rattle.std.specs.Prelude.{Bool, true, ◌-◌, Option, Some, None, if◌then◌else◌}
use Rattle.ax_types.specs.Places as lists
use Rattle.ax_types.specs.declared.ids.End.{End}
use Rattle.ax_types.specs.declared.ids.End.TheVariants as end
use Rattle.ax_types.specs.declared.items.Item.{Item}
use Rattle.ax_types.specs.declared.items.Item.TheVariants as item
use Rattle.ax_types.specs.declared.items.SkipReason.{SkipReason}
use Rattle.ax_types.specs.declared.items.SkipReason.TheVariants as reason
use Rattle.ax_types.specs.declared.packets.Packet.{Packet}
use Rattle.ax_types.specs.declared.packets.Payload.{Payload}
use Rattle.ax_types.specs.declared.sessions.ServerInput.{ServerInput}
use Rattle.ax_types.specs.declared.sessions.ServerInput.TheVariants as input
use Rattle.ax_types.specs.declared.steps.Step.{Step}
use Rattle.ax_types.specs.declared.steps.Step.TheVariants as step
use Rattle.ax_types.specs.declared.steps.StepOutcome.{StepOutcome}
use Rattle.ax_types.specs.declared.steps.StepOutcome.TheVariants as outcome
use Rattle.ax_types.specs.declared.steps.WatchKind.{WatchKind}
use Rattle.spec_raft.specs.Positions as positions
use Rattle.spec_cluster.specs.Bag as bags
use Rattle.spec_server.specs.Servers as servers
use Rattle.spec_client.specs.Clients as clients
use Rattle.spec_client.specs.Receipts as receipts
use Rattle.spec_world.specs.Worlds as worlds
use Rattle.spec_world.specs.Plans as plans
use Rattle.spec_world.specs.Moves as moves
use Rattle.law_refinement.proofs.Tests.{by_test}
use Rattle.law_growth.proofs.Cases.{none_some, some_same}

-- what each client watches
abbrev pub all_watches : List worlds.Watcher → List (List WatchKind)
all_watches seats = map (λ (s : worlds.Watcher). s.watches) seats

abbrev pub WatchSame : worlds.World → plans.Plan → Type 0
WatchSame w p = (o : StepOutcome) → all_watches (moves.carried p o).world.seats ≡ all_watches w.seats

same_place : (seats : List worlds.Watcher) (c : ℕ) (s t : worlds.Watcher) → lists.at_place seats c ≡ Some s → t.watches ≡ s.watches → all_watches (positions.change_place (λ old. t) seats c) ≡ all_watches seats
same_place seats zero s t e f = refl
same_place [] (suc c) s t e f = refl
same_place (x ∷ seats) (suc zero) s t e f = ap (λ ws. ws ∷ all_watches seats) (f ∙ ap (λ (y : worlds.Watcher). y.watches) (sym (some_same x s e)))
same_place (x ∷ seats) (suc (suc c)) s t e f = ap (λ wss. x.watches ∷ wss) (same_place seats (suc c) s t e f)

shows : (w v : worlds.World) (items : List Item) → v.seats ≡ w.seats → WatchSame w (plans.Shows v items)
shows w v items e o = ap all_watches e

skips : (w : worlds.World) (r : SkipReason) → WatchSame w (plans.skips w r)
skips w r o = refl

serves : (w v : worlds.World) (k : ℕ) (h : worlds.Host) (i : ServerInput) → v.seats ≡ w.seats → WatchSame w (plans.Serves v k h i)
serves w v k h i e outcome.Fine = ap all_watches e
serves w v k h i e (outcome.Loaded added) = ap all_watches e
serves w v k h i e (outcome.Failed saved) = ap all_watches e

loads : (w : worlds.World) (k : ℕ) (h : worlds.Host) → WatchSame w (plans.Loads w k h)
loads w k h outcome.Fine = refl
loads w k h (outcome.Loaded added) = refl
loads w k h (outcome.Failed saved) = refl

acts : (w v : worlds.World) (c : ℕ) (s : worlds.Watcher) (next : clients.ClientStep) → v.seats ≡ w.seats → lists.at_place v.seats c ≡ Some s → WatchSame w (plans.Asks v c s next)
acts w v c s next e at o = same_place v.seats c s (record s { client = next.client }) at refl ∙ ap all_watches e

elects : (w : worlds.World) (k : ℕ) (o : Option worlds.Host) → WatchSame w (plans.elects w k o)
elects w k None = shows w w [] refl
elects w k (Some h) =
    by_test (WatchSame w) h.is_up (if servers.leads h.server then plans.skips w reason.IsLeader else plans.Serves w k h (input.Elect h.clock)) (plans.skips w reason.NodeDown)
    (λ e. by_test (WatchSame w) (servers.leads h.server) (plans.skips w reason.IsLeader) (plans.Serves w k h (input.Elect h.clock)) (λ f. skips w reason.IsLeader) (λ f. serves w w k h (input.Elect h.clock) refl))
    (λ e. skips w reason.NodeDown)

leads : (w : worlds.World) (k : ℕ) (o : Option worlds.Host) (i : ℕ → ServerInput) → WatchSame w (plans.led_step w k o i)
leads w k None i = shows w w [] refl
leads w k (Some h) i =
    by_test (WatchSame w) h.is_up (if servers.leads h.server then plans.Serves w k h (i h.clock) else plans.skips w reason.NotLeader) (plans.skips w reason.NodeDown)
    (λ e. by_test (WatchSame w) (servers.leads h.server) (plans.Serves w k h (i h.clock)) (plans.skips w reason.NotLeader) (λ f. serves w w k h (i h.clock) refl) (λ f. skips w reason.NotLeader))
    (λ e. skips w reason.NodeDown)

crashes : (w : worlds.World) (k : ℕ) (o : Option worlds.Host) → WatchSame w (plans.crashes w k o)
crashes w k None = shows w w [] refl
crashes w k (Some h) =
    let v = worlds.with_host w k (worlds.fallen_host w k h (worlds.kept_by h) []) in
    by_test (WatchSame w) h.is_up (plans.shows_nothing v) (plans.skips w reason.NodeDown) (λ e. shows w v [] refl) (λ e. skips w reason.NodeDown)

starts : (w : worlds.World) (k : ℕ) (o : Option worlds.Host) → WatchSame w (plans.starts w k o)
starts w k None = shows w w [] refl
starts w k (Some h) = by_test (WatchSame w) h.is_up (plans.skips w reason.NodeUp) (plans.Loads w k h) (λ e. skips w reason.NodeUp) (λ e. loads w k h)

sets_clock : (w : worlds.World) (k time : ℕ) (o : Option worlds.Host) → WatchSame w (plans.sets_clock w k time o)
sets_clock w k time None = shows w w [] refl
sets_clock w k time (Some h) = shows w (worlds.with_host w k (record h { clock = time })) [] refl

asks_if : (w : worlds.World) (c : ℕ) (s : worlds.Watcher) (r : Option SkipReason) (next : clients.ClientStep) → lists.at_place w.seats c ≡ Some s → WatchSame w (plans.client_asks_if w c s r next)
asks_if w c s (Some r) next at = skips w r
asks_if w c s None next at = acts w w c s next refl at

asks : (w : worlds.World) (c : ℕ) (o : Option worlds.Watcher) (refusal : clients.Client → Option SkipReason) (next : clients.Client → clients.ClientStep) → lists.at_place w.seats c ≡ o → WatchSame w (plans.client_asks w c o refusal next)
asks w c None refusal next at = shows w w [] refl
asks w c (Some s) refusal next at = asks_if w c s (refusal s.client) (next s.client) at

calls : (w : worlds.World) (c : ℕ) (o : Option worlds.Watcher) (next : clients.Client → clients.ClientStep) → lists.at_place w.seats c ≡ o → WatchSame w (plans.calls_at w c o next)
calls w c None next at = shows w w [] refl
calls w c (Some s) next at =
    let x = s.client in
    let unsent = plans.Shows (worlds.with_watcher w c (record s { client = clients.unsent x })) (item.Unsent (clients.own_session x.state) (clients.unsent_number x) ∷ []) in
    by_test (WatchSame w) (clients.has_ended x.state) unsent (plans.client_asks_if w c s (clients.call_refusal x) (next x)) (λ e o. same_place w.seats c s (record s { client = clients.unsent x }) at refl) (λ e. asks_if w c s (clients.call_refusal x) (next x) at)

reaches_node : (w v : worlds.World) (k : ℕ) (p : Packet) (o : Option worlds.Host) → v.seats ≡ w.seats → WatchSame w (plans.reaches_node v k p o)
reaches_node w v k p None e = shows w v [] e
reaches_node w v k p (Some h) e = serves w v k h (input.Packet h.clock p) e

receives : (w v : worlds.World) (c : ℕ) (p : Payload) (a : End) (o : Option worlds.Watcher) → v.seats ≡ w.seats → lists.at_place v.seats c ≡ o → WatchSame w (plans.receives_from v c p a o)
receives w v c p a None e at = shows w v [] e
receives w v c p (end.Node k) (Some s) e at = acts w v c s (receipts.receives s.client k p) e at
receives w v c p (end.Client d) (Some s) e at = shows w v [] e

reaches : (w v : worlds.World) (p : Packet) (a : End) → v.seats ≡ w.seats → WatchSame w (plans.reaches v p a)
reaches w v p (end.Node k) e = reaches_node w v k p (lists.at_place v.hosts k) e
reaches w v p (end.Client c) e = receives w v c p.payload p.«from» (lists.at_place v.seats c) e refl

delivers_slot : (w : worlds.World) (number : ℕ) (o : Option bags.KeptPacket) (is_whole : Packet → Bool) → WatchSame w (plans.delivers_slot w number o is_whole)
delivers_slot w number None is_whole = shows w w [] refl
delivers_slot w number (Some s) is_whole =
    let m : worlds.World = record w { bag = bags.with_mark w.bag number } in
    by_test (WatchSame w) (is_whole s.packet) (plans.reaches m s.packet s.packet.to) (plans.shows_nothing m) (λ e. reaches w m s.packet s.packet.to refl) (λ e. shows w m [] refl)

delivers : (w : worlds.World) (number : ℕ) (is_whole : Packet → Bool) (r : Option SkipReason) → WatchSame w (plans.delivers_if w number is_whole r)
delivers w number is_whole (Some r) = skips w r
delivers w number is_whole None = delivers_slot w number (bags.kept_at w.bag number) is_whole

drops : (w : worlds.World) (number : ℕ) (r : Option SkipReason) → WatchSame w (plans.drops w number r)
drops w number (Some r) = skips w r
drops w number None = shows w (record w { bag = bags.with_mark w.bag number }) [] refl

abbrev pub UnlessWatch : worlds.World → Step → Type 0
UnlessWatch w (step.Watch c kind) = Unit {0}
UnlessWatch w s = WatchSame w (plans.plan w s)

pub watches_same : (w : worlds.World) (s : Step) → UnlessWatch w s
watches_same w (step.Elect k) = elects w k (lists.at_place w.hosts k)
watches_same w (step.Beat k) = leads w k (lists.at_place w.hosts k) input.Beat
watches_same w (step.Crash k) = crashes w k (lists.at_place w.hosts k)
watches_same w (step.Start k) = starts w k (lists.at_place w.hosts k)
watches_same w (step.Clock k time) = sets_clock w k time (lists.at_place w.hosts k)
watches_same w (step.Expire k) = leads w k (lists.at_place w.hosts k) input.Check
watches_same w (step.Cut a b) = shows w (record w { bag = bags.with_cut w.bag a b }) [] refl
watches_same w (step.Join a b) = shows w (record w { bag = bags.with_join w.bag a b }) [] refl
watches_same w (step.Deliver number) = delivers w number (λ p. true) (bags.take_refusal w.bag (worlds.up_nodes w) number)
watches_same w (step.Drop number) = drops w number (bags.mark_refusal w.bag number)
watches_same w (step.Short number bytes) = delivers w number (plans.is_within bytes) (bags.take_refusal w.bag (worlds.up_nodes w) number)
watches_same w step.List = shows w w (item.Listed (bags.pending_count w.bag) ∷ bags.pending_items w.bag) refl
watches_same w (step.Open c k) = asks w c (lists.at_place w.seats c) clients.open_refusal (λ x. clients.opens x k) refl
watches_same w (step.Switch c k) = asks w c (lists.at_place w.seats c) plans.never (λ x. clients.switches x k) refl
watches_same w (step.Resend c) = asks w c (lists.at_place w.seats c) clients.resend_refusal clients.resends refl
watches_same w (step.Keep c) = asks w c (lists.at_place w.seats c) clients.keep_refusal clients.keeps refl
watches_same w (step.Close c) = asks w c (lists.at_place w.seats c) clients.close_refusal clients.closes refl
watches_same w (step.Watch c kind) = tt
watches_same w (step.Call c name o) = calls w c (lists.at_place w.seats c) (λ x. clients.makes_call x name o) refl
watches_same w (step.Query c l name q) = calls w c (lists.at_place w.seats c) (λ x. clients.queries x l name q) refl
