-- The world after a step, plan by plan: what is under way and in logs.
use Rattle.std.proofs.Common.{◌≡◌, ℕ, zero, suc, List, [], ◌∷◌, ◌++◌, map, length, take, refl, ap, sym, ◌∙◌, subst}
use Rattle.std.specs.Prelude.{Bool, true, Option, Some, None, slice_get, if◌then◌else◌}
use Rattle.std.specs.List.{AllByRecursion, list_any}
use Rattle.ax_types.specs.Places as lists
use Rattle.ax_types.specs.declared.entries.Loaded.{Loaded}
use Rattle.ax_types.specs.declared.ids.End.{End}
use Rattle.ax_types.specs.declared.ids.End.TheVariants as end
use Rattle.ax_types.specs.declared.items.Item.TheVariants as item
use Rattle.ax_types.specs.declared.items.SkipReason.{SkipReason}
use Rattle.ax_types.specs.declared.items.SkipReason.TheVariants as reason
use Rattle.ax_types.specs.declared.packets.Packet.{Packet}
use Rattle.ax_types.specs.declared.packets.Payload.{Payload}
use Rattle.ax_types.specs.declared.raft.RaftInput.{RaftInput}
use Rattle.ax_types.specs.declared.sessions.ServerInput.{ServerInput}
use Rattle.ax_types.specs.declared.sessions.ServerInput.TheVariants as input
use Rattle.ax_types.specs.declared.steps.Step.{Step}
use Rattle.ax_types.specs.declared.steps.Step.TheVariants as step
use Rattle.ax_types.specs.declared.steps.StepOutcome.{StepOutcome}
use Rattle.ax_types.specs.declared.steps.StepOutcome.TheVariants as outcome
use Rattle.ax_types.specs.declared.steps.WatchKind.{WatchKind}
use Rattle.spec_raft.specs.Positions as positions
use Rattle.spec_node.specs.Node as nodes
use Rattle.spec_node.specs.NodeStep as node_steps
use Rattle.spec_node.specs.Saving as saving
use Rattle.spec_cluster.specs.Bag as bags
use Rattle.spec_server.specs.Servers as servers
use Rattle.spec_server.specs.ServerStep as server_steps
use Rattle.spec_client.specs.Clients as clients
use Rattle.spec_world.specs.Worlds as worlds
use Rattle.spec_world.specs.Plans as plans
use Rattle.spec_world.specs.Moves as moves
use Rattle.law_told.proofs.Lists.{take_all}
use Rattle.law_growth.specs.PlanCases as plan_cases
use Rattle.law_growth.proofs.Sent.{all_kept}
use Rattle.law_origin.proofs.Each.{each_take, each_at, each_change, each_append}
use Rattle.law_origin.proofs.Rules.{did_brings, halted_log}
use Rattle.law_release.proofs.Tests.{by_test}
use Rattle.law_client.specs.Inputs as inputs
use Rattle.law_client.proofs.Lists.{IsAmong}
use Rattle.law_seats.proofs.Effects.{MayCome, among_at}
use Rattle.law_asked.specs.Asked as asked
use Rattle.law_asked.proofs.Serving.{PacketSays, EntrySays, InputSays, InputMay, ServerSays, server_says, blank_says}

all_before : {X : Type 0} (P : X → Type 0) (xs ys : List X) → AllByRecursion P (xs ++ ys) → AllByRecursion P xs × AllByRecursion P ys
all_before P [] ys a = (tt, a)
all_before P (x ∷ xs) ys a = let b = all_before P xs ys a.1 in ((a.0, b.0), b.1)

take_nothing : {X : Type 0} (n : ℕ) → take n (let none : List X = [] in none) ≡ []
take_nothing zero = refl
take_nothing (suc n) = refl

-- what a failed step leaves in the store, and what may be there besides
record LeftSays (S : ℕ → Payload → Type 0) (kept : Loaded) (calls : List saving.Save) (saved : ℕ) : Type 0 where
  log : asked.EntriesSay S (saving.kept_at_failure kept calls saved).log
  rest : asked.EntriesSay S (saving.at_stake (slice_get calls saved))

left_says : (S : ℕ → Payload → Type 0) (n : nodes.Node) (i : Option RaftInput) (saved : ℕ) → asked.EntriesSay S n.log → InputMay S n i
    → LeftSays S (nodes.kept_of n) (saving.calls_of (server_steps.raft_out n i).saves) saved
left_says S n None saved log may = record { log = subst (λ calls. asked.EntriesSay S (saving.all_saved (nodes.kept_of n) calls).log) (sym (take_nothing saved)) log; rest = tt }
left_says S n (Some i) saved log may =
    let calls = saving.calls_of (node_steps.out n i).saves in
    let stake = saving.at_stake (slice_get calls saved) in
    let both = all_before (EntrySays S) (saving.kept_at_failure (nodes.kept_of n) calls saved).log (take (length stake) stake)
    (halted_log (EntrySays S) n i saved (length stake) log (did_brings (EntrySays S) n i (blank_says S) log may.0)) in
    record { log = both.0; rest = subst (AllByRecursion (EntrySays S)) (take_all stake) both.1 }

kept_all : (S : ℕ → Payload → Type 0) (bag : bags.Bag) (ps : List Packet) → AllByRecursion (PacketSays S) (plan_cases.kept_packets bag) → AllByRecursion (PacketSays S) ps
    → AllByRecursion (PacketSays S) (plan_cases.kept_packets (bags.with_packets bag ps))
kept_all S bag ps a b = all_kept (PacketSays S) bag ps a b

host_changed : (S : ℕ → Payload → Type 0) (hosts : List worlds.Host) (k : ℕ) (x : worlds.Host) → AllByRecursion (asked.HostSays S) hosts → asked.HostSays S x
    → AllByRecursion (asked.HostSays S) (positions.change_place (λ old. x) hosts k)
host_changed S hosts k x a s = each_change (asked.HostSays S) (λ old. x) hosts k (λ y b. s) a

pub alike_said : (S : ℕ → Payload → Type 0) (w v : worlds.World) → plan_cases.IsAlike w v → asked.AllSaid S w → asked.AllSaid S v
alike_said S w v alike a = record {
  packets = subst (AllByRecursion (PacketSays S)) (sym alike.kept) a.packets;
  hosts = subst (AllByRecursion (asked.HostSays S)) (sym alike.hosts) a.hosts;
}

-- a server's step
pub input_says : (S : ℕ → Payload → Type 0) (w : worlds.World) (k : ℕ) (x : worlds.Host) (i : ServerInput) → plan_cases.IsInputOf w k x i → asked.AllSaid S w → InputSays S i
input_says S w k x (input.Packet clock p) is a = each_at (PacketSays S) (plan_cases.kept_packets w.bag) is.1.place p a.packets is.1.found
input_says S w k x (input.Elect clock) is a = tt
input_says S w k x (input.Beat clock) is a = tt
input_says S w k x (input.Check clock) is a = tt

fine_said : (S : ℕ → Payload → Type 0) (v : worlds.World) (k : ℕ) (x : worlds.Host) (i : ServerInput) → asked.AllSaid S v → asked.HostSays S x → ServerSays S x.server i
    → asked.AllSaid S (moves.serves v k x i (server_steps.server_out x.server i)).world
fine_said S v k x i a h s = record {
  packets = kept_all S v.bag (server_steps.server_out x.server i).packets a.packets s.packets;
  hosts = host_changed S v.hosts k (record x { server = server_steps.server_after x.server i }) a.hosts (record { log = s.log; at_stake = h.at_stake });
}

served_said : (S : ℕ → Payload → Type 0) (v : worlds.World) (k : ℕ) (x : worlds.Host) (i : ServerInput) (o : StepOutcome) → asked.AllSaid S v → asked.HostSays S x → ServerSays S x.server i
    → asked.AllSaid S (moves.served v k x i o).world
served_said S v k x i outcome.Fine a h s = fine_said S v k x i a h s
served_said S v k x i (outcome.Loaded added) a h s = fine_said S v k x i a h s
served_said S v k x i (outcome.Failed saved) a h s =
    let l = left_says S x.server.raft (servers.task x.server i).input saved h.log s.add in
    let calls = saving.calls_of (server_steps.server_out x.server i).saves in
    record {
      packets = a.packets;
      hosts = host_changed S v.hosts k (worlds.fallen_host v k x (saving.kept_at_failure (worlds.kept_by x) calls saved) (saving.at_stake (slice_get calls saved))) a.hosts (record { log = l.log; at_stake = l.rest });
    }

loads_said : (S : ℕ → Payload → Type 0) (w : worlds.World) (k : ℕ) (x : worlds.Host) (added : ℕ) → asked.AllSaid S w → asked.HostSays S x → asked.AllSaid S (moves.loads w k x added).world
loads_said S w k x added a h = record {
  packets = a.packets;
  hosts = host_changed S w.hosts k _ a.hosts (record { log = each_append (EntrySays S) x.server.raft.log (take added x.at_stake) h.log (each_take (EntrySays S) added x.at_stake h.at_stake); at_stake = tt });
}

loaded_said : (S : ℕ → Payload → Type 0) (w : worlds.World) (k : ℕ) (x : worlds.Host) (o : StepOutcome) → asked.AllSaid S w → asked.HostSays S x → asked.AllSaid S (moves.loaded w k x o).world
loaded_said S w k x outcome.Fine a h = loads_said S w k x 0 a h
loaded_said S w k x (outcome.Loaded added) a h = loads_said S w k x added a h
loaded_said S w k x (outcome.Failed saved) a h = a

from_client_says : (S : ℕ → Payload → Type 0) (c : ℕ) (sends : List (ℕ × Payload)) → AllByRecursion (λ (x : ℕ × Payload). asked.PayloadSays S x.1) sends → AllByRecursion (PacketSays S) (map (moves.from_client c) sends)
from_client_says S c [] a = tt
from_client_says S c (x ∷ sends) a = (a.0, from_client_says S c sends a.1)

-- what a plan lets a client send
abbrev pub SendsSay : (ℕ → Payload → Type 0) → plans.Plan → Type 0
SendsSay S (plans.Asks v c s next) = AllByRecursion (λ (x : ℕ × Payload). asked.PayloadSays S x.1) next.out.sends
SendsSay S p = Unit {0}

pub host_at : (S : ℕ → Payload → Type 0) (w : worlds.World) (k : ℕ) (x : worlds.Host) → lists.at_place w.hosts k ≡ Some x → asked.AllSaid S w → asked.HostSays S x
host_at S w k x is a = each_at (asked.HostSays S) w.hosts k x a.hosts is

pub carried_said : (S : ℕ → Payload → Type 0) (w : worlds.World) (p : plans.Plan) (o : StepOutcome) → plan_cases.IsCase w p → asked.AllSaid S w → SendsSay S p → asked.AllSaid S (moves.carried p o).world
carried_said S w p o (plan_cases.Serving v k x i alike is up comes e) a sends =
    let h : asked.HostSays S x = host_at S w k x is a in
    subst (λ q. asked.AllSaid S (moves.carried q o).world) (sym e)
    (served_said S v k x i o (alike_said S w v alike a) h (server_says S x.server i h.log (input_says S w k x i comes a)))
carried_said S w p o (plan_cases.Loading k x is down e) a sends = subst (λ q. asked.AllSaid S (moves.carried q o).world) (sym e) (loaded_said S w k x o a (host_at S w k x is a))
carried_said S w p o (plan_cases.Asking v c s next alike is me e) a sends =
    let b : asked.AllSaid S v = alike_said S w v alike a in
    let said : AllByRecursion (λ (x : ℕ × Payload). asked.PayloadSays S x.1) next.out.sends = subst (SendsSay S) e sends in
    subst (λ q. asked.AllSaid S (moves.carried q o).world) (sym e)
    (record { packets = kept_all S v.bag (map (moves.from_client c) next.out.sends) b.packets (from_client_says S c next.out.sends said); hosts = b.hosts })
carried_said S w p o (plan_cases.Falling k x is up e) a sends =
    let h : asked.HostSays S x = host_at S w k x is a in
    subst (λ q. asked.AllSaid S (moves.carried q o).world) (sym e)
    (record { packets = a.packets; hosts = host_changed S w.hosts k (worlds.fallen_host w k x (worlds.kept_by x) []) a.hosts (record { log = h.log; at_stake = tt }) })
carried_said S w p o (plan_cases.Setting k x time is e) a sends =
    let h : asked.HostSays S x = host_at S w k x is a in
    subst (λ q. asked.AllSaid S (moves.carried q o).world) (sym e)
    (record { packets = a.packets; hosts = host_changed S w.hosts k (record x { clock = time }) a.hosts (record { log = h.log; at_stake = h.at_stake }) })
carried_said S w p o (plan_cases.Seating c s t items is me e) a sends = subst (λ q. asked.AllSaid S (moves.carried q o).world) (sym e) (record { packets = a.packets; hosts = a.hosts })
carried_said S w p o (plan_cases.Showing v items alike e) a sends = subst (λ q. asked.AllSaid S (moves.carried q o).world) (sym e) (alike_said S w v alike a)

-- whose input a client's plan is
abbrev pub AskedBy : worlds.World → plans.Plan → Type 0
AskedBy w (plans.Asks v c s next) = ((i : inputs.Input) × (next ≡ inputs.client_stepped s.client i) × MayCome w c i) × (v.seats ≡ w.seats) × (lists.at_place w.seats c ≡ Some s)
AskedBy w p = Unit {0}

elects_by : (w : worlds.World) (k : ℕ) (o : Option worlds.Host) → AskedBy w (plans.elects w k o)
elects_by w k None = tt
elects_by w k (Some h) =
    by_test (AskedBy w) h.is_up (if servers.leads h.server then plans.skips w reason.IsLeader else plans.Serves w k h (input.Elect h.clock)) (plans.skips w reason.NodeDown)
    (λ e. by_test (AskedBy w) (servers.leads h.server) (plans.skips w reason.IsLeader) (plans.Serves w k h (input.Elect h.clock)) (λ f. tt) (λ f. tt)) (λ e. tt)

leads_by : (w : worlds.World) (k : ℕ) (o : Option worlds.Host) (i : ℕ → ServerInput) → AskedBy w (plans.led_step w k o i)
leads_by w k None i = tt
leads_by w k (Some h) i =
    by_test (AskedBy w) h.is_up (if servers.leads h.server then plans.Serves w k h (i h.clock) else plans.skips w reason.NotLeader) (plans.skips w reason.NodeDown)
    (λ e. by_test (AskedBy w) (servers.leads h.server) (plans.Serves w k h (i h.clock)) (plans.skips w reason.NotLeader) (λ f. tt) (λ f. tt)) (λ e. tt)

crashes_by : (w : worlds.World) (k : ℕ) (o : Option worlds.Host) → AskedBy w (plans.crashes w k o)
crashes_by w k None = tt
crashes_by w k (Some h) = by_test (AskedBy w) h.is_up (plans.shows_nothing (worlds.with_host w k (worlds.fallen_host w k h (worlds.kept_by h) []))) (plans.skips w reason.NodeDown) (λ e. tt) (λ e. tt)

starts_by : (w : worlds.World) (k : ℕ) (o : Option worlds.Host) → AskedBy w (plans.starts w k o)
starts_by w k None = tt
starts_by w k (Some h) = by_test (AskedBy w) h.is_up (plans.skips w reason.NodeUp) (plans.Loads w k h) (λ e. tt) (λ e. tt)

clock_by : (w : worlds.World) (k time : ℕ) (o : Option worlds.Host) → AskedBy w (plans.sets_clock w k time o)
clock_by w k time None = tt
clock_by w k time (Some h) = tt

asks_if_by : (w : worlds.World) (c : ℕ) (s : worlds.Watcher) (i : inputs.Input) (r : Option SkipReason) (next : clients.ClientStep) → lists.at_place w.seats c ≡ Some s → MayCome w c i
    → (r ≡ None → next ≡ inputs.client_stepped s.client i) → AskedBy w (plans.client_asks_if w c s r next)
asks_if_by w c s i (Some r) next is may f = tt
asks_if_by w c s i None next is may f = ((i, f refl, may), refl, is)

asks_by : (w : worlds.World) (c : ℕ) (o : Option worlds.Watcher) (i : inputs.Input) (refusal : clients.Client → Option SkipReason) (next : clients.Client → clients.ClientStep) → lists.at_place w.seats c ≡ o → MayCome w c i
    → ((x : clients.Client) → refusal x ≡ None → next x ≡ inputs.client_stepped x i) → AskedBy w (plans.client_asks w c o refusal next)
asks_by w c None i refusal next is may f = tt
asks_by w c (Some s) i refusal next is may f = asks_if_by w c s i (refusal s.client) (next s.client) is may (f s.client)

calls_by : (w : worlds.World) (c : ℕ) (o : Option worlds.Watcher) (i : inputs.Input) (next : clients.Client → clients.ClientStep) → lists.at_place w.seats c ≡ o → MayCome w c i
    → ((x : clients.Client) → inputs.client_stepped x i ≡ inputs.calls_or_not x (next x)) → AskedBy w (plans.calls_at w c o next)
calls_by w c None i next is may f = tt
calls_by w c (Some s) i next is may f =
    let x = s.client in
    let unsent = plans.Shows (worlds.with_watcher w c (record s { client = clients.unsent x })) (item.Unsent (clients.own_session x.state) (clients.unsent_number x) ∷ []) in
    by_test (AskedBy w) (clients.has_ended x.state) unsent (plans.client_asks_if w c s (clients.call_refusal x) (next x)) (λ e. tt)
    (λ e. asks_if_by w c s i (clients.call_refusal x) (next x) is may
    (λ r. sym (f x ∙ ap (λ (b : Bool). if b then inputs.uses_number x else inputs.unless (clients.call_refusal x) x (next x)) e ∙ ap (λ q. inputs.unless q x (next x)) r)))

watches_by : (w : worlds.World) (c : ℕ) (kind : WatchKind) (o : Option worlds.Watcher) → AskedBy w (plans.watches_at w c kind o)
watches_by w c kind None = tt
watches_by w c kind (Some s) =
    by_test (AskedBy w) (list_any (plans.same_kind kind) s.watches) (plans.skips w reason.Watched) (plans.shows_nothing (worlds.with_watcher w c (record s { watches = s.watches ++ kind ∷ [] }))) (λ e. tt) (λ e. tt)

node_by : (w v : worlds.World) (k : ℕ) (p : Packet) (o : Option worlds.Host) → AskedBy w (plans.reaches_node v k p o)
node_by w v k p None = tt
node_by w v k p (Some h) = tt

receives_by : (w v : worlds.World) (c : ℕ) (q : Packet) (a : End) (o : Option worlds.Watcher) → v.seats ≡ w.seats → lists.at_place w.seats c ≡ o → IsAmong q (plan_cases.kept_packets w.bag) → q.to ≡ end.Client c
    → AskedBy w (plans.receives_from v c q.payload a o)
receives_by w v c q a None same is among to = tt
receives_by w v c q (end.Node k) (Some s) same is among to = ((inputs.Receives k q.payload, refl, (q, among, refl, to)), same, is)
receives_by w v c q (end.Client d) (Some s) same is among to = tt

reaches_by : (w v : worlds.World) (q : Packet) (e : End) → v.seats ≡ w.seats → IsAmong q (plan_cases.kept_packets w.bag) → q.to ≡ e → AskedBy w (plans.reaches v q e)
reaches_by w v q (end.Node k) same among to = node_by w v k q (lists.at_place v.hosts k)
reaches_by w v q (end.Client c) same among to = receives_by w v c q q.«from» (lists.at_place v.seats c) same (ap (λ seats. lists.at_place seats c) (sym same)) among to

slot_by : (w : worlds.World) (number : ℕ) (o : Option bags.KeptPacket) (is_whole : Packet → Bool) → bags.kept_at w.bag number ≡ o → AskedBy w (plans.delivers_slot w number o is_whole)
slot_by w number None is_whole is = tt
slot_by w number (Some s) is_whole is =
    let m = record w { bag = bags.with_mark w.bag number } in
    by_test (AskedBy w) (is_whole s.packet) (plans.reaches m s.packet s.packet.to) (plans.shows_nothing m) (λ e. reaches_by w m s.packet s.packet.to refl (among_at w.bag number s is) refl) (λ e. tt)

delivers_by : (w : worlds.World) (number : ℕ) (is_whole : Packet → Bool) (r : Option SkipReason) → AskedBy w (plans.delivers_if w number is_whole r)
delivers_by w number is_whole (Some r) = tt
delivers_by w number is_whole None = slot_by w number (bags.kept_at w.bag number) is_whole refl

drops_by : (w : worlds.World) (number : ℕ) (r : Option SkipReason) → AskedBy w (plans.drops w number r)
drops_by w number (Some r) = tt
drops_by w number None = tt

unless_none : (r : Option SkipReason) (c : clients.Client) (next : clients.ClientStep) → r ≡ None → next ≡ inputs.unless r c next
unless_none r c next e = sym (ap (λ q. inputs.unless q c next) e)

pub asked_by : (w : worlds.World) (s : Step) → AskedBy w (plans.plan w s)
asked_by w (step.Elect k) = elects_by w k (lists.at_place w.hosts k)
asked_by w (step.Beat k) = leads_by w k (lists.at_place w.hosts k) input.Beat
asked_by w (step.Crash k) = crashes_by w k (lists.at_place w.hosts k)
asked_by w (step.Start k) = starts_by w k (lists.at_place w.hosts k)
asked_by w (step.Clock k time) = clock_by w k time (lists.at_place w.hosts k)
asked_by w (step.Expire k) = leads_by w k (lists.at_place w.hosts k) input.Check
asked_by w (step.Cut a b) = tt
asked_by w (step.Join a b) = tt
asked_by w (step.Deliver number) = delivers_by w number (λ p. true) (bags.take_refusal w.bag (worlds.up_nodes w) number)
asked_by w (step.Drop number) = drops_by w number (bags.mark_refusal w.bag number)
asked_by w (step.Short number bytes) = delivers_by w number (plans.is_within bytes) (bags.take_refusal w.bag (worlds.up_nodes w) number)
asked_by w step.List = tt
asked_by w (step.Open c k) = asks_by w c (lists.at_place w.seats c) (inputs.Opens k) clients.open_refusal (λ x. clients.opens x k) refl tt (λ x e. unless_none (clients.open_refusal x) x (clients.opens x k) e)
asked_by w (step.Switch c k) = asks_by w c (lists.at_place w.seats c) (inputs.Switches k) plans.never (λ x. clients.switches x k) refl tt (λ x e. refl)
asked_by w (step.Resend c) = asks_by w c (lists.at_place w.seats c) inputs.Resends clients.resend_refusal clients.resends refl tt (λ x e. unless_none (clients.resend_refusal x) x (clients.resends x) e)
asked_by w (step.Keep c) = asks_by w c (lists.at_place w.seats c) inputs.Keeps clients.keep_refusal clients.keeps refl tt (λ x e. unless_none (clients.keep_refusal x) x (clients.keeps x) e)
asked_by w (step.Close c) = asks_by w c (lists.at_place w.seats c) inputs.Closes clients.close_refusal clients.closes refl tt (λ x e. unless_none (clients.close_refusal x) x (clients.closes x) e)
asked_by w (step.Watch c kind) = watches_by w c kind (lists.at_place w.seats c)
asked_by w (step.Call c name o) = calls_by w c (lists.at_place w.seats c) (inputs.Calls name o) (λ x. clients.makes_call x name o) refl tt (λ x. refl)
asked_by w (step.Query c l name q) = calls_by w c (lists.at_place w.seats c) (inputs.Queries l name q) (λ x. clients.queries x l name q) refl tt (λ x. refl)
