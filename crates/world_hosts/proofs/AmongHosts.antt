-- A step and a load of one node among all.
use Rattle.std.proofs.Common.{◌≡◌, ℕ, suc, ◌<◌, Bool, true, false, Option, Some, None, List, length, set, ap, sym, ◌∙◌, subst}
use Rattle.std.specs.Prelude.{slice_get, Result, Ok, Err, OnErr}
use Rattle.ax_types.specs.Places as lists
use Rattle.ax_types.specs.declared.sessions.ServerInput.{ServerInput}
use Rattle.ax_types.specs.declared.steps.StepOutcome.{StepOutcome}
use Rattle.spec_world.specs.Worlds as worlds
use Rattle.store_journal.specs.StoreTold as stores
use Rattle.net_bag.proofs.Flags.{get-set_same}
use Rattle.world_hosts.specs.HostPlans as plans
use Rattle.world_hosts.specs.HostViews as views
use Rattle.world_hosts.specs.HostSteps as host_steps
use Rattle.world_hosts.specs.StoresMatch as matching
use Rattle.world_hosts.specs.declared.host.Host.{Host}
use Rattle.world_hosts.specs.declared.served.Served.{Served}
use Rattle.world_hosts.proofs.HostLists as places
use Rattle.world_hosts.proofs.ServedHosts.{serves, may_serve, whole_after, number_after}
use Rattle.world_hosts.proofs.LoadedHosts.{loads, whole_loaded, number_loaded}

pub may_be_up : (k n : ℕ) (o : Option worlds.Host) (i : ServerInput) → plans.MayServe k n o i → worlds.up_in o ≡ true
may_be_up k n None i m = absurd m
may_be_up k n (Some h) i m = m.0

-- the node at hand may serve
may_here : (t k i : ℕ) (hs : List Host) (spent : Bool) (h : Host) (now : plans.OpenHosts) (input : ServerInput) → places.view_of t hs spent ≡ now → suc i ≡ k → slice_get hs i ≡ Some h
    → plans.MayServe k (length now.hosts) (lists.at_place now.hosts k) input → plans.MayServe k (length hs) (Some (views.host_of (length hs) t k h)) input
may_here t k i hs spent h now input v e g m =
    subst (λ n. plans.MayServe k n (Some (views.host_of (length hs) t k h)) input) (places.length_hosts (length hs) t 1 hs)
    (subst (λ o. plans.MayServe k (length (views.hosts_from (length hs) t 1 hs)) o input) (places.host_at (length hs) t k i hs h e g)
    (subst (λ (s : plans.OpenHosts). plans.MayServe k (length s.hosts) (lists.at_place s.hosts k) input) (sym v) m))

pub may_there : (t k i : ℕ) (hs : List Host) (up : List Bool) (spent : Bool) (h : Host) (now : plans.OpenHosts) (input : ServerInput) → places.view_of t hs spent ≡ now → suc i ≡ k → slice_get hs i ≡ Some h → views.IsReady hs up
    → plans.MayServe k (length now.hosts) (lists.at_place now.hosts k) input → host_steps.MayBeServed h.standing input
may_there t k i hs up spent h now input v e g r m =
    may_serve (length hs) t k h input (places.whole_at hs i h r.whole g) (places.number_at (length hs) k i hs h e r.numbers g) (may_here t k i hs spent h now input v e g m)

-- the hosts after its step
pub serves_there : (t k i : ℕ) (hs : List Host) (spent : Bool) (h new : Host) (now : plans.OpenHosts) (input : ServerInput) (r : Served) → places.view_of t hs spent ≡ now → spent ≡ false → suc i ≡ k → slice_get hs i ≡ Some h
    → views.stands_up h.standing ≡ true → host_steps.ServesAs h input new r → plans.ServesAt now k (lists.at_place now.hosts k) input (places.view_of t (set hs i new) false) r
serves_there t k i hs spent h new now input r v w e g u s =
    subst (λ (o : plans.OpenHosts). plans.ServesAt o k (lists.at_place o.hosts k) input (places.view_of t (set hs i new) false) r) (sym (ap (λ b. places.view_of t hs b) w) ∙ v)
    (subst (λ o. plans.ServesAt (places.view_of t hs false) k o input (places.view_of t (set hs i new) false) r) (sym (places.host_at (length hs) t k i hs h e g))
    (subst (λ o. plans.Serves (places.view_of t hs false) k (views.host_of (length hs) t k h) input o r) (sym (places.changed_view t hs false k i new e))
    (serves (length hs) t k (views.hosts_from (length hs) t 1 hs) h new input r (places.length_hosts (length hs) t 1 hs) u s)))

-- the flag of a node that was changed
pub flag_of : (i : ℕ) (hs : List Host) (new seen : Host) (b : Bool) → i < length hs → slice_get (set hs i new) i ≡ Some seen → b ≡ views.stands_up seen.standing → b ≡ views.stands_up new.standing
flag_of i hs new seen b w g e = e ∙ ap (λ (x : Host). views.stands_up x.standing) (places.same_some seen new (sym g ∙ get-set_same hs i new w))

pub ready_served : (k i : ℕ) (hs : List Host) (up : List Bool) (h new : Host) (input : ServerInput) (r : Served) (b : Bool) → suc i ≡ k → slice_get hs i ≡ Some h → views.IsReady hs up → views.stands_up h.standing ≡ true
    → host_steps.ServesAs h input new r → b ≡ views.stands_up new.standing → views.IsReady (set hs i new) (set up i b)
ready_served k i hs up h new input r b e g ready u s f =
    places.ready_set k i hs up new b e ready f (whole_after h new input r s) (number_after (length hs) k h new input r u (places.number_at (length hs) k i hs h e ready.numbers g) s)

-- the hosts after its load
pub loads_there : (t k i : ℕ) (hs : List Host) (spent : Bool) (h new : Host) (now : plans.OpenHosts) (told : stores.Told) (o : StepOutcome) → places.view_of t hs spent ≡ now → spent ≡ false → suc i ≡ k → slice_get hs i ≡ Some h
    → views.stands_up h.standing ≡ false → matching.Tells told → host_steps.LoadsAs (length hs) t k told h new o → plans.LoadsAt now k (lists.at_place now.hosts k) (places.view_of t (set hs i new) false) o
loads_there t k i hs spent h new now told o v w e g d tells s =
    subst (λ (x : plans.OpenHosts). plans.LoadsAt x k (lists.at_place x.hosts k) (places.view_of t (set hs i new) false) o) (sym (ap (λ b. places.view_of t hs b) w) ∙ v)
    (subst (λ x. plans.LoadsAt (places.view_of t hs false) k x (places.view_of t (set hs i new) false) o) (sym (places.host_at (length hs) t k i hs h e g))
    (subst (λ x. plans.Loads (places.view_of t hs false) k (views.host_of (length hs) t k h) x o) (sym (places.changed_view t hs false k i new e))
    (loads (length hs) t k (views.hosts_from (length hs) t 1 hs) h new o told (places.length_hosts (length hs) t 1 hs) d (places.host_at (length hs) t k i hs h e g) tells s)))

pub ready_loaded : (t k i : ℕ) (hs : List Host) (up : List Bool) (h new : Host) (told : stores.Told) (o : StepOutcome) (b : Bool) → suc i ≡ k → views.IsReady hs up → views.stands_up h.standing ≡ false
    → host_steps.LoadsAs (length hs) t k told h new o → b ≡ views.stands_up new.standing → views.IsReady (set hs i new) (set up i b)
ready_loaded t k i hs up h new told o b e ready d s f =
    places.ready_set k i hs up new b e ready f (whole_loaded (length hs) t k told h new o d s) (number_loaded (length hs) t k told h new o d s)

-- what holds, at an Err
pub on_err_here : {A E : Type 0} (r : Result A E) (Q : Type 0) → Q → OnErr r Q
on_err_here (Ok x) Q q = tt
on_err_here (Err e) Q q = q
