-- The nodes in code at their places, as the hosts of the definitions.
use Rattle.std.proofs.Common.{◌≡◌, ℕ, zero, suc, ◌+◌, ◌≤◌, Bool, true, false, Some, List, [], ◌∷◌, length, map, set, refl, ap, sym, ◌∙◌, subst, arith}
use Rattle.std.specs.Prelude.{slice_get, if◌then◌else◌}
use Rattle.std.specs.List.{AllByRecursion}
use Rattle.std.proofs.lemmas.List.{length-map, length-set, map-set}
use Rattle.ax_types.specs.Places as lists
use Rattle.spec_raft.specs.Positions as positions
use Rattle.spec_node.specs.Node as raft_nodes
use Rattle.spec_server.specs.Servers as servers
use Rattle.spec_world.specs.Worlds as worlds
use Rattle.net_bag.specs.Reasons as reasons
use Rattle.world_hosts.specs.HostPlans as plans
use Rattle.world_hosts.specs.HostViews as views
use Rattle.world_hosts.specs.declared.host.Host.{Host}
use Rattle.world_hosts.specs.declared.host.Standing.{Standing}
use Rattle.world_hosts.specs.declared.host.Standing.TheVariants as standing

pub same_some : {X : Type 0} (x y : X) → Some x ≡ Some y → x ≡ y
same_some x y g = cc

pub length_hosts : (n t k : ℕ) (hs : List Host) → length (views.hosts_from n t k hs) ≡ length hs
length_hosts n t k [] = refl
length_hosts n t k (h ∷ hs) = ap suc (length_hosts n t (suc k) hs)

get_from : (n t k i j : ℕ) (hs : List Host) (h : Host) → j ≡ k + i → slice_get hs i ≡ Some h → slice_get (views.hosts_from n t k hs) i ≡ Some (views.host_of n t j h)
get_from n t k i j [] h e g = cc
get_from n t k zero j (x ∷ hs) h e g = ap (λ y. Some (views.host_of n t k y)) (same_some x h g) ∙ ap (λ m. Some (views.host_of n t m h)) (omega (arith, e))
get_from n t k (suc i) j (x ∷ hs) h e g = get_from n t (suc k) i j hs h (omega (arith, e)) g

set_from : (n t k i j : ℕ) (hs : List Host) (h : Host) → j ≡ k + i → views.hosts_from n t k (set hs i h) ≡ positions.change_place (λ old. views.host_of n t j h) (views.hosts_from n t k hs) (suc i)
set_from n t k i j [] h e = refl
set_from n t k zero j (x ∷ hs) h e = ap (λ m. views.host_of n t m h ∷ views.hosts_from n t (suc k) hs) (omega (arith, e))
set_from n t k (suc i) j (x ∷ hs) h e = ap (λ ys. views.host_of n t k x ∷ ys) (set_from n t (suc k) i j hs h (omega (arith, e)))

-- node k stands at its place
pub host_at : (n t k i : ℕ) (hs : List Host) (h : Host) → suc i ≡ k → slice_get hs i ≡ Some h → lists.at_place (views.hosts_from n t 1 hs) k ≡ Some (views.host_of n t k h)
host_at n t k i hs h e g = subst (λ p. lists.at_place (views.hosts_from n t 1 hs) p ≡ Some (views.host_of n t k h)) e (get_from n t 1 i k hs h (omega (arith, e)) g)

-- and is changed there
pub host_set : (n t k i : ℕ) (hs : List Host) (h : Host) → suc i ≡ k → views.hosts_from n t 1 (set hs i h) ≡ positions.change_place (λ old. views.host_of n t k h) (views.hosts_from n t 1 hs) k
host_set n t k i hs h e = subst (λ p. views.hosts_from n t 1 (set hs i h) ≡ positions.change_place (λ old. views.host_of n t k h) (views.hosts_from n t 1 hs) p) e (set_from n t 1 i k hs h (omega (arith, e)))

-- a change at a place
pub change_same : {X : Type 0} (f g : X → X) (xs : List X) (k : ℕ) (x : X) → lists.at_place xs k ≡ Some x → f x ≡ g x → positions.change_place f xs k ≡ positions.change_place g xs k
change_same f g xs zero x a e = refl
change_same f g [] (suc p) x a e = refl
change_same f g (y ∷ xs) (suc zero) x a e = ap (λ z. z ∷ xs) (subst (λ z. f z ≡ g z) (sym (same_some y x a)) e)
change_same f g (y ∷ xs) (suc (suc p)) x a e = ap (λ zs. y ∷ zs) (change_same f g xs (suc p) x a e)

-- the flags
pub flags_set : (hs : List Host) (up : List Bool) (i : ℕ) (h : Host) (b : Bool) → up ≡ map (λ x. views.stands_up x.standing) hs → b ≡ views.stands_up h.standing
    → set up i b ≡ map (λ x. views.stands_up x.standing) (set hs i h)
flags_set hs up i h b e f = ap (λ us. set us i b) e ∙ ap (λ c. set (map (λ (x : Host). views.stands_up x.standing) hs) i c) f ∙ sym (map-set (λ (x : Host). views.stands_up x.standing) hs i h)

up_from : (n t k : ℕ) (hs : List Host) → lists.numbers_passing (λ b. b) k (map (λ x. views.stands_up x.standing) hs) ≡ lists.numbers_passing (λ (h : worlds.Host). h.is_up) k (views.hosts_from n t k hs)
up_from n t k [] = refl
up_from n t k (h ∷ hs) = ap (λ ns. if views.stands_up h.standing then k ∷ ns else ns) (up_from n t (suc k) hs)

pub nodes_up_are : (n t : ℕ) (hs : List Host) (up : List Bool) → up ≡ map (λ x. views.stands_up x.standing) hs → reasons.nodes_up up ≡ lists.numbers_passing (λ (h : worlds.Host). h.is_up) 1 (views.hosts_from n t 1 hs)
nodes_up_are n t hs up e = ap reasons.nodes_up e ∙ up_from n t 1 hs

-- what holds of all but one holds of all where it holds of the new one
pub whole_set : (hs : List Host) (i : ℕ) (h : Host) → AllByRecursion (λ x. views.StandsWhole x.standing) hs → views.StandsWhole h.standing → AllByRecursion (λ x. views.StandsWhole x.standing) (set hs i h)
whole_set [] i h a w = a
whole_set (x ∷ hs) zero h a w = (w, a.1)
whole_set (x ∷ hs) (suc i) h a w = (a.0, whole_set hs i h a.1 w)

pub whole_at : (hs : List Host) (i : ℕ) (h : Host) → AllByRecursion (λ x. views.StandsWhole x.standing) hs → slice_get hs i ≡ Some h → views.StandsWhole h.standing
whole_at [] i h a g = cc
whole_at (x ∷ hs) zero h a g = subst (λ (y : Host). views.StandsWhole y.standing) (same_some x h g) a.0
whole_at (x ∷ hs) (suc i) h a g = whole_at hs i h a.1 g

numbered_from : (n k i j : ℕ) (hs : List Host) (h : Host) → j ≡ k + i → views.HostsAreNumbered n k hs → slice_get hs i ≡ Some h → views.KnowsNumber n j h.standing
numbered_from n k i j [] h e a g = cc
numbered_from n k zero j (x ∷ hs) h e a g = subst (λ m. views.KnowsNumber n m h.standing) (omega (arith, e)) (subst (λ (y : Host). views.KnowsNumber n k y.standing) (same_some x h g) a.0)
numbered_from n k (suc i) j (x ∷ hs) h e a g = numbered_from n (suc k) i j hs h (omega (arith, e)) a.1 g

pub number_at : (n k i : ℕ) (hs : List Host) (h : Host) → suc i ≡ k → views.HostsAreNumbered n 1 hs → slice_get hs i ≡ Some h → views.KnowsNumber n k h.standing
number_at n k i hs h e a g = numbered_from n 1 i k hs h (omega (arith, e)) a g

numbered_set_from : (n k i j : ℕ) (hs : List Host) (h : Host) → j ≡ k + i → views.HostsAreNumbered n k hs → views.KnowsNumber n j h.standing → views.HostsAreNumbered n k (set hs i h)
numbered_set_from n k i j [] h e a w = a
numbered_set_from n k zero j (x ∷ hs) h e a w = (subst (λ m. views.KnowsNumber n m h.standing) (omega (arith, e)) w, a.1)
numbered_set_from n k (suc i) j (x ∷ hs) h e a w = (a.0, numbered_set_from n (suc k) i j hs h (omega (arith, e)) a.1 w)

pub numbered_set : (n k i : ℕ) (hs : List Host) (h : Host) → suc i ≡ k → views.HostsAreNumbered n 1 hs → views.KnowsNumber n k h.standing → views.HostsAreNumbered n 1 (set hs i h)
numbered_set n k i hs h e a w = numbered_set_from n 1 i k hs h (omega (arith, e)) a w

-- the flags and the servers after a change of one node
pub ready_set : (k i : ℕ) (hs : List Host) (up : List Bool) (h : Host) (b : Bool) → suc i ≡ k → views.IsReady hs up → b ≡ views.stands_up h.standing → views.StandsWhole h.standing → views.KnowsNumber (length hs) k h.standing
    → views.IsReady (set hs i h) (set up i b)
ready_set k i hs up h b e r f w n = record {
  flags = flags_set hs up i h b r.flags f;
  whole = whole_set hs i h r.whole w;
  numbers = subst (λ m. views.HostsAreNumbered m 1 (set hs i h)) (sym (length-set hs i h)) (numbered_set (length hs) k i hs h e r.numbers n);
}

-- the one that leads, over those that are left
pub leads_same : (n t k : ℕ) (st : Standing) → servers.leads (views.server_of 0 0 0 st) ≡ servers.leads (views.server_of n t k st)
leads_same n t k (standing.Up s) = refl
leads_same n t k (standing.Down kept es) = refl

map_same : {X : Type 0} (f : Host → X) (hs : List Host) (i : ℕ) (h new : Host) → slice_get hs i ≡ Some h → f new ≡ f h → map f (set hs i new) ≡ map f hs
map_same f [] i h new g e = refl
map_same f (x ∷ hs) zero h new g e = ap (λ y. y ∷ map f hs) (e ∙ ap f (sym (same_some x h g)))
map_same f (x ∷ hs) (suc i) h new g e = ap (λ ys. f x ∷ ys) (map_same f hs i h new g e)

-- a node whose clock alone changes
pub ready_same : (i : ℕ) (hs : List Host) (up : List Bool) (h new : Host) → slice_get hs i ≡ Some h → new.standing ≡ h.standing → views.IsReady hs up → views.IsReady (set hs i new) up
ready_same i hs up h new g e r = record {
  flags = r.flags ∙ sym (map_same (λ (x : Host). views.stands_up x.standing) hs i h new g (ap views.stands_up e));
  whole = whole_set hs i new r.whole (subst views.StandsWhole (sym e) (whole_at hs i h r.whole g));
  numbers = subst (λ m. views.HostsAreNumbered m 1 (set hs i new)) (sym (length-set hs i new))
      (numbered_set (length hs) (suc i) i hs new refl r.numbers (subst (views.KnowsNumber (length hs) (suc i)) (sym e) (number_at (length hs) (suc i) i hs h refl r.numbers g)));
}

pub within_set : (t i : ℕ) (hs : List Host) (h : Host) → views.ClusterIsWithin (length hs) t → views.ClusterIsWithin (length (set hs i h)) t
within_set t i hs h w = subst (λ n. views.ClusterIsWithin n t) (sym (length-set hs i h)) w

-- the hosts as contracts see them
abbrev pub view_of : ℕ → List Host → Bool → plans.OpenHosts
view_of t hs spent = record { timeout = t; hosts = views.hosts_from (length hs) t 1 hs; is_spent = spent }

-- after a change of one node
pub changed_view : (t : ℕ) (hs : List Host) (spent : Bool) (k i : ℕ) (h : Host) → suc i ≡ k → view_of t (set hs i h) spent ≡ record { timeout = t; hosts = positions.change_place (λ old. views.host_of (length hs) t k h) (views.hosts_from (length hs) t 1 hs) k; is_spent = spent }
changed_view t hs spent k i h e =
    ap (λ (xs : List worlds.Host). let o : plans.OpenHosts = record { timeout = t; hosts = xs; is_spent = spent } in o)
    (ap (λ n. views.hosts_from n t 1 (set hs i h)) (length-set hs i h) ∙ host_set (length hs) t k i hs h e)

pub view_after : (t : ℕ) (hs : List Host) (spent : Bool) (k i : ℕ) (h new : Host) (F : plans.OpenHosts → worlds.Host → worlds.Host) (now : plans.OpenHosts)
    → view_of t hs spent ≡ now → suc i ≡ k → slice_get hs i ≡ Some h → views.host_of (length hs) t k new ≡ F (view_of t hs spent) (views.host_of (length hs) t k h)
    → view_of t (set hs i new) spent ≡ record { timeout = now.timeout; hosts = positions.change_place (F now) now.hosts k; is_spent = now.is_spent }
view_after t hs spent k i h new F now v e g f =
    changed_view t hs spent k i new e
    ∙ ap (λ (xs : List worlds.Host). let o : plans.OpenHosts = record { timeout = t; hosts = xs; is_spent = spent } in o)
    (change_same (λ old. views.host_of (length hs) t k new) (F (view_of t hs spent)) (views.hosts_from (length hs) t 1 hs) k (views.host_of (length hs) t k h) (host_at (length hs) t k i hs h e g) f)
    ∙ ap (λ (s : plans.OpenHosts). let o : plans.OpenHosts = record { timeout = s.timeout; hosts = positions.change_place (F s) s.hosts k; is_spent = s.is_spent } in o) v

-- a node that falls with all that it keeps
kept_same : (n t k : ℕ) (st : Standing) → views.kept_for_sure st ≡ raft_nodes.kept_of (views.server_of n t k st).raft
kept_same n t k (standing.Up s) = refl
kept_same n t k (standing.Down kept es) = refl

pub fallen_is : (t k : ℕ) (hs : List Host) (spent : Bool) (h : Host)
    → views.host_of (length hs) t k (record { clock = h.clock; standing = standing.Down (views.kept_for_sure h.standing) [] }) ≡ plans.fallen_in (view_of t hs spent) k (views.host_of (length hs) t k h)
fallen_is t k hs spent h =
    ap (λ kept. let m : worlds.Host = record { is_up = false; clock = h.clock; server = servers.server_from k (length hs) t kept; at_stake = [] } in m) (kept_same (length hs) t k h.standing)
    ∙ ap (λ n. let m : worlds.Host = record { is_up = false; clock = h.clock; server = servers.server_from k n t (raft_nodes.kept_of (views.server_of (length hs) t k h.standing).raft); at_stake = [] } in m) (sym (length_hosts (length hs) t 1 hs))

-- a place at which a host stands
pub up_within : (hosts : List worlds.Host) (k : ℕ) → worlds.up_in (lists.at_place hosts k) ≡ true → k ≤ length hosts
up_within hosts zero e = omega arith
up_within [] (suc k) e = cc
up_within (x ∷ hosts) (suc zero) e = omega arith
up_within (x ∷ hosts) (suc (suc k)) e = omega (arith, up_within hosts (suc k) e)

pub flags_length : (hs : List Host) (up : List Bool) → up ≡ map (λ x. views.stands_up x.standing) hs → length up ≡ length hs
flags_length hs up e = ap length e ∙ length-map hs (λ (x : Host). views.stands_up x.standing)

pub stake_none : (st : Standing) → views.stands_up st ≡ true → views.stake_of st ≡ []
stake_none (standing.Up s) u = refl
stake_none (standing.Down kept es) u = cc

abbrev pub fallen : Host → Host
fallen h = record { clock = h.clock; standing = standing.Down (views.kept_for_sure h.standing) [] }

pub fallen_ready : (k i : ℕ) (hs : List Host) (up : List Bool) (h new : Host) → suc i ≡ k → new ≡ fallen h → views.IsReady hs up → views.IsReady (set hs i new) (set up i false)
fallen_ready k i hs up h new e f r =
    ready_set k i hs up new false e r (sym (ap (λ (x : Host). views.stands_up x.standing) f)) (subst (λ (x : Host). views.StandsWhole x.standing) (sym f) tt) (subst (λ (x : Host). views.KnowsNumber (length hs) k x.standing) (sym f) tt)

-- whether the node at a place is up
pub up_at : (t k i : ℕ) (hs : List Host) (spent b : Bool) (h : Host) (now : plans.OpenHosts) → view_of t hs spent ≡ now → suc i ≡ k → slice_get hs i ≡ Some h → worlds.up_in (lists.at_place now.hosts k) ≡ b → views.stands_up h.standing ≡ b
up_at t k i hs spent b h now v e g u =
    sym (ap worlds.up_in (host_at (length hs) t k i hs h e g)) ∙ ap (λ (s : plans.OpenHosts). worlds.up_in (lists.at_place s.hosts k)) v ∙ u
