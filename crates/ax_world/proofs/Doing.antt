-- What a node's step brings, by what the node is.
use Rattle.std.proofs.Common.{◌≡◌, ℕ, zero, suc, Bool, true, false, [], ◌∷◌, ◌++◌, List, Option, Some, None, refl, sym, ap, subst}
use Rattle.std.specs.Prelude.{if◌then◌else◌, is_some, slice_get}
use Rattle.ax_types.specs.Places as lists
use Rattle.ax_types.specs.declared.entries.Act.{Act}
use Rattle.ax_types.specs.declared.items.SkipReason.{SkipReason}
use Rattle.ax_types.specs.declared.items.SkipReason.TheVariants as reason
use Rattle.ax_types.specs.declared.packets.Packet.{Packet}
use Rattle.ax_types.specs.declared.sessions.ServerInput.{ServerInput}
use Rattle.ax_types.specs.declared.sessions.ServerInput.TheVariants as input
use Rattle.ax_types.specs.declared.sessions.ServerOut.{ServerOut}
use Rattle.ax_types.specs.declared.steps.StepOutcome.{StepOutcome}
use Rattle.ax_types.specs.declared.steps.StepOutcome.TheVariants as outcome
use Rattle.spec_raft.specs.Positions as positions
use Rattle.spec_cluster.specs.Bag as bags
use Rattle.spec_server.specs.Servers as servers
use Rattle.spec_server.specs.ServerStep as server_steps
use Rattle.spec_world.specs.Worlds as worlds
use Rattle.spec_world.specs.Plans as plans
use Rattle.spec_world.specs.Moves as moves
use Rattle.world_hosts.specs.HostPlans as host_plans
use Rattle.world_hosts.specs.StoresMatch as matching
use Rattle.world_hosts.specs.declared.served.Served.TheVariants as serving
use Rattle.ax_world.specs.declared.brought.Brought.{Brought}
use Rattle.ax_world.specs.Scenes as scenes

append_none : {X : Type 0} (xs : List X) → xs ++ [] ≡ xs
append_none [] = refl
append_none (x ∷ xs) = ap (λ ys. x ∷ ys) (append_none xs)

pub with_acts_is : (h more : List (ℕ × Act)) → scenes.with_acts h more ≡ h ++ more
with_acts_is h [] = sym (append_none h)
with_acts_is h (a ∷ more) = refl

-- the nodes of a world
abbrev pub open_of : worlds.World → Bool → host_plans.OpenHosts
open_of w spent = record { timeout = w.timeout; hosts = w.hosts; is_spent = spent }

-- a plan that only shows items
pub shows : (w : worlds.World) (r : SkipReason) → scenes.Does w (scenes.skipped r) (plans.skips w r)
shows w r = record { moved = refl; may = refl }

pub shows_none : (w : worlds.World) → scenes.Does w (scenes.only_shown []) (plans.shows_nothing w)
shows_none w = record { moved = refl; may = refl }

-- an election
pub elect_none : (w : worlds.World) (k : ℕ) (h : Option worlds.Host) (b : Brought) → is_some h ≡ false → b ≡ scenes.only_shown [] → scenes.Does w b (plans.elects w k h)
elect_none w k None b none is = rw is (shows_none w)
elect_none w k (Some h) b none is = absurd (cc)

pub elect_down : (w : worlds.World) (k : ℕ) (h : Option worlds.Host) (b : Brought) → is_some h ≡ true → worlds.up_in h ≡ false → b ≡ scenes.skipped reason.NodeDown
    → scenes.Does w b (plans.elects w k h)
elect_down w k None b there down is = absurd (cc)
elect_down w k (Some h) b there down is = rw is (rw down (shows w reason.NodeDown))

pub elect_leads : (w : worlds.World) (k : ℕ) (h : Option worlds.Host) (b : Brought) → worlds.up_in h ≡ true → host_plans.leads_in h ≡ true → b ≡ scenes.skipped reason.IsLeader
    → scenes.Does w b (plans.elects w k h)
elect_leads w k None b up leads is = absurd (cc)
elect_leads w k (Some h) b up leads is = rw is (rw up (rw leads (shows w reason.IsLeader)))

pub elect_serves : (w v : worlds.World) (k : ℕ) (h : Option worlds.Host) (clock : ℕ) (b : Brought) → worlds.up_in h ≡ true → host_plans.leads_in h ≡ false → clock ≡ host_plans.clock_in h
    → scenes.Does v b (scenes.serves_at w k h (input.Elect clock)) → scenes.Does v b (plans.elects w k h)
elect_serves w v k None clock b up leads at does = absurd (cc)
elect_serves w v k (Some h) clock b up leads at does =
    subst (λ (u : Bool). scenes.Does v b (if u then (if servers.leads h.server then plans.skips w reason.IsLeader else plans.Serves w k h (input.Elect h.clock)) else plans.skips w reason.NodeDown)) (sym up)
    (subst (λ (l : Bool). scenes.Does v b (if l then plans.skips w reason.IsLeader else plans.Serves w k h (input.Elect h.clock))) (sym leads)
    (subst (λ n. scenes.Does v b (plans.Serves w k h (input.Elect n))) at does))

-- a leader's step
pub led_none : (w : worlds.World) (k : ℕ) (h : Option worlds.Host) (i : ℕ → ServerInput) (b : Brought) → is_some h ≡ false → b ≡ scenes.only_shown [] → scenes.Does w b (plans.led_step w k h i)
led_none w k None i b none is = rw is (shows_none w)
led_none w k (Some h) i b none is = absurd (cc)

pub led_down : (w : worlds.World) (k : ℕ) (h : Option worlds.Host) (i : ℕ → ServerInput) (b : Brought) → is_some h ≡ true → worlds.up_in h ≡ false → b ≡ scenes.skipped reason.NodeDown
    → scenes.Does w b (plans.led_step w k h i)
led_down w k None i b there down is = absurd (cc)
led_down w k (Some h) i b there down is = rw is (rw down (shows w reason.NodeDown))

pub led_follows : (w : worlds.World) (k : ℕ) (h : Option worlds.Host) (i : ℕ → ServerInput) (b : Brought) → worlds.up_in h ≡ true → host_plans.leads_in h ≡ false → b ≡ scenes.skipped reason.NotLeader
    → scenes.Does w b (plans.led_step w k h i)
led_follows w k None i b up leads is = absurd (cc)
led_follows w k (Some h) i b up leads is = rw is (rw up (rw leads (shows w reason.NotLeader)))

pub led_serves : (w v : worlds.World) (k : ℕ) (h : Option worlds.Host) (i : ℕ → ServerInput) (clock : ℕ) (b : Brought) → worlds.up_in h ≡ true → host_plans.leads_in h ≡ true
    → clock ≡ host_plans.clock_in h → scenes.Does v b (scenes.serves_at w k h (i clock)) → scenes.Does v b (plans.led_step w k h i)
led_serves w v k None i clock b up leads at does = absurd (cc)
led_serves w v k (Some h) i clock b up leads at does =
    subst (λ (u : Bool). scenes.Does v b (if u then (if servers.leads h.server then plans.Serves w k h (i h.clock) else plans.skips w reason.NotLeader) else plans.skips w reason.NodeDown)) (sym up)
    (subst (λ (l : Bool). scenes.Does v b (if l then plans.Serves w k h (i h.clock) else plans.skips w reason.NotLeader)) (sym leads)
    (subst (λ n. scenes.Does v b (plans.Serves w k h (i n))) at does))

pub beat_serves : (w v : worlds.World) (k : ℕ) (h : Option worlds.Host) (clock : ℕ) (b : Brought) → worlds.up_in h ≡ true → host_plans.leads_in h ≡ true
    → clock ≡ host_plans.clock_in h → scenes.Does v b (scenes.serves_at w k h (input.Beat clock)) → scenes.Does v b (plans.led_step w k h input.Beat)
beat_serves w v k h clock b up leads at does = led_serves w v k h input.Beat clock b up leads at does

pub check_serves : (w v : worlds.World) (k : ℕ) (h : Option worlds.Host) (clock : ℕ) (b : Brought) → worlds.up_in h ≡ true → host_plans.leads_in h ≡ true
    → clock ≡ host_plans.clock_in h → scenes.Does v b (scenes.serves_at w k h (input.Check clock)) → scenes.Does v b (plans.led_step w k h input.Check)
check_serves w v k h clock b up leads at does = led_serves w v k h input.Check clock b up leads at does

-- a node that is up may be given an input
pub may_elect : (k nodes : ℕ) (h : Option worlds.Host) (clock : ℕ) → worlds.up_in h ≡ true → host_plans.leads_in h ≡ false → host_plans.MayServe k nodes h (input.Elect clock)
may_elect k nodes None clock up leads = absurd (cc)
may_elect k nodes (Some h) clock up leads = (up, leads)

pub may_beat : (k nodes : ℕ) (h : Option worlds.Host) (clock : ℕ) → worlds.up_in h ≡ true → host_plans.leads_in h ≡ true → host_plans.MayServe k nodes h (input.Beat clock)
may_beat k nodes None clock up leads = absurd (cc)
may_beat k nodes (Some h) clock up leads = (up, leads)

pub may_check : (k nodes : ℕ) (h : Option worlds.Host) (clock : ℕ) → worlds.up_in h ≡ true → host_plans.leads_in h ≡ true → host_plans.MayServe k nodes h (input.Check clock)
may_check k nodes None clock up leads = absurd (cc)
may_check k nodes (Some h) clock up leads = (up, leads)

pub may_take : (k nodes : ℕ) (h : Option worlds.Host) (clock : ℕ) (p : Packet) → worlds.up_in h ≡ true → host_plans.IsFromOther k nodes p.«from» → host_plans.MayServe k nodes h (input.Packet clock p)
may_take k nodes None clock p up other = absurd (cc)
may_take k nodes (Some h) clock p up other = (up, other)

-- a packet at a node
pub reach_serves : (w v : worlds.World) (k : ℕ) (p : Packet) (h : Option worlds.Host) (clock : ℕ) (b : Brought) → clock ≡ host_plans.clock_in h
    → scenes.Does v b (scenes.serves_at w k h (input.Packet clock p)) → scenes.Does v b (plans.reaches_node w k p h)
reach_serves w v k p None clock b at does = does
reach_serves w v k p (Some h) clock b at does = subst (λ n. scenes.Does v b (plans.Serves w k h (input.Packet n p))) at does

-- a crash and a clock
pub crash_none : (w : worlds.World) (k : ℕ) (h : Option worlds.Host) (b : Brought) → is_some h ≡ false → b ≡ scenes.only_shown [] → scenes.Does w b (plans.crashes w k h)
crash_none w k None b none is = rw is (shows_none w)
crash_none w k (Some h) b none is = absurd (cc)

pub crash_down : (w : worlds.World) (k : ℕ) (h : Option worlds.Host) (b : Brought) → is_some h ≡ true → worlds.up_in h ≡ false → b ≡ scenes.skipped reason.NodeDown
    → scenes.Does w b (plans.crashes w k h)
crash_down w k None b there down is = absurd (cc)
crash_down w k (Some h) b there down is = rw is (rw down (shows w reason.NodeDown))

change_same : {X : Type 0} (f : X → X) (xs : List X) (k : ℕ) (x : X) → lists.at_place xs k ≡ Some x → positions.change_place f xs k ≡ positions.change_place (λ old. f x) xs k
change_same f xs zero x at = refl
change_same f [] (suc k) x at = refl
change_same f (y ∷ xs) (suc zero) x at = let same : y ≡ x = cc in ap (λ z. f z ∷ xs) same
change_same f (y ∷ xs) (suc (suc k)) x at = ap (λ zs. y ∷ zs) (change_same f xs (suc k) x at)

pub crash_falls : (w v : worlds.World) (spent : Bool) (k : ℕ) (h : Option worlds.Host) (b : Brought) → lists.at_place w.hosts k ≡ h → worlds.up_in h ≡ true
    → v ≡ record w { hosts = positions.change_place (host_plans.fallen_in (open_of w spent) k) w.hosts k } → b ≡ scenes.only_shown [] → scenes.Does v b (plans.crashes w k h)
crash_falls w v spent k None b at up after is = absurd (cc)
crash_falls w v spent k (Some h) b at up after is = rw after (rw is (rw up (rw (change_same (host_plans.fallen_in (open_of w spent) k) w.hosts k h at) (record { moved = refl; may = refl }))))

pub clock_none : (w : worlds.World) (k time : ℕ) (h : Option worlds.Host) (b : Brought) → is_some h ≡ false → b ≡ scenes.only_shown [] → scenes.Does w b (plans.sets_clock w k time h)
clock_none w k time None b none is = rw is (shows_none w)
clock_none w k time (Some h) b none is = absurd (cc)

pub clock_sets : (w v : worlds.World) (k time : ℕ) (h : Option worlds.Host) (b : Brought) → lists.at_place w.hosts k ≡ h → is_some h ≡ true
    → v ≡ record w { hosts = positions.change_place (host_plans.with_clock time) w.hosts k } → b ≡ scenes.only_shown [] → scenes.Does v b (plans.sets_clock w k time h)
clock_sets w v k time None b at there after is = absurd (cc)
clock_sets w v k time (Some h) b at there after is = rw after (rw is (rw (change_same (host_plans.with_clock time) w.hosts k h at) (record { moved = refl; may = refl })))

-- a start
pub start_none : (w : worlds.World) (k : ℕ) (h : Option worlds.Host) (b : Brought) → is_some h ≡ false → b ≡ scenes.only_shown [] → scenes.Does w b (plans.starts w k h)
start_none w k None b none is = rw is (shows_none w)
start_none w k (Some h) b none is = absurd (cc)

pub start_up : (w : worlds.World) (k : ℕ) (h : Option worlds.Host) (b : Brought) → worlds.up_in h ≡ true → b ≡ scenes.skipped reason.NodeUp → scenes.Does w b (plans.starts w k h)
start_up w k None b up is = absurd (cc)
start_up w k (Some h) b up is = rw is (rw up (shows w reason.NodeUp))

-- a step of a node's server
fine_at : (w : worlds.World) (k : ℕ) (h : worlds.Host) (i : ServerInput)
    → scenes.moved_with (record w { hosts = (moves.served (host_plans.world_of_hosts (open_of w false)) k h i outcome.Fine).world.hosts; bag = bags.with_packets w.bag (server_steps.server_out h.server i).packets })
    (scenes.server_served w k (server_steps.server_out h.server i)) ≡ moves.carried (plans.Serves w k h i) outcome.Fine
fine_at w k h i = rw (with_acts_is w.history (scenes.first_applied w.history (server_steps.server_out h.server i))) refl

pub served_fine : (w v : worlds.World) (spent : Bool) (n : host_plans.OpenHosts) (k : ℕ) (h : Option worlds.Host) (i : ServerInput) (out : ServerOut) (b : Brought)
    → host_plans.ServesAt (open_of w spent) k h i n (serving.Fine out) → v ≡ record w { timeout = n.timeout; hosts = n.hosts; bag = bags.with_packets w.bag out.packets }
    → b ≡ scenes.server_served w k out → scenes.Does v b (scenes.serves_at w k h i)
served_fine w v spent n k None i out b s after is = absurd s
served_fine w v spent n k (Some h) i out b s after is = rw after (rw is (rw s.given (rw s.after (record { moved = fine_at w k h i; may = refl }))))

pub served_failed : (w v : worlds.World) (spent : Bool) (n : host_plans.OpenHosts) (k : ℕ) (h : Option worlds.Host) (i : ServerInput) (saved : ℕ) (b : Brought)
    → host_plans.ServesAt (open_of w spent) k h i n (serving.Failed saved) → v ≡ record w { timeout = n.timeout; hosts = n.hosts }
    → b ≡ scenes.halted k saved → scenes.Does v b (scenes.serves_at w k h i)
served_failed w v spent n k None i saved b s after is = absurd s
served_failed w v spent n k (Some h) i saved b s after is = rw after (rw is (rw s.after (record { moved = refl; may = s.may })))

pub start_loads : (w v : worlds.World) (spent : Bool) (n : host_plans.OpenHosts) (k : ℕ) (h : Option worlds.Host) (o : StepOutcome) (b : Brought) → worlds.up_in h ≡ false
    → host_plans.LoadsAt (open_of w spent) k h n o → v ≡ record w { timeout = n.timeout; hosts = n.hosts } → b ≡ scenes.start_brought k o → scenes.Does v b (plans.starts w k h)
start_loads w v spent n k None o b down l after is = absurd l
start_loads w v spent n k (Some h) outcome.Fine b down l after is = absurd (let may : false ≡ true = l.may in cc)
start_loads w v spent n k (Some h) (outcome.Failed saved) b down l after is = rw after (rw is (rw l.after (rw down (record { moved = refl; may = l.may }))))
start_loads w v spent n k (Some h) (outcome.Loaded added) b down l after is = rw after (rw is (rw l.after (rw down (record { moved = refl; may = l.may }))))

-- where all stores tell their content, that of a node does
telling_got : (hosts : List worlds.Host) (states : List matching.StoreState) (i : ℕ) → matching.StoresMatch hosts states → matching.AreTelling states
    → is_some (slice_get hosts i) ≡ true → matching.IsTelling (slice_get states i)
telling_got [] states i fit tell there = absurd (cc)
telling_got (h ∷ hosts) [] i fit tell there = absurd fit
telling_got (h ∷ hosts) (s ∷ states) zero fit tell there = tell.0
telling_got (h ∷ hosts) (s ∷ states) (suc i) fit tell there = telling_got hosts states i fit.1 tell.1 there

pub telling_at : (hosts : List worlds.Host) (states : List matching.StoreState) (k : ℕ) → matching.StoresMatch hosts states → matching.AreTelling states
    → is_some (lists.at_place hosts k) ≡ true → matching.IsTelling (lists.at_place states k)
telling_at hosts states zero fit tell there = absurd (cc)
telling_at hosts states (suc i) fit tell there = telling_got hosts states i fit tell there
