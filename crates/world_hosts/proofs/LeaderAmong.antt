-- The node that leads in the greatest term, found node by node; and nodes that are opened one by one.
use Rattle.std.proofs.Common.{◌≡◌, ℕ, zero, suc, ◌+◌, ◌≤◌, Bool, true, false, Option, Some, None, List, [], ◌∷◌, ◌++◌, length, map, drop, refl, ap, sym, ◌∙◌, subst, arith}
use Rattle.std.specs.Prelude.{slice_get, nat_lt, ◌&&◌, if◌then◌else◌}
use Rattle.std.specs.List.{AllByRecursion}
use Rattle.std.proofs.lemmas.Bool.Decides.{nat_tests}
use Rattle.std.proofs.lemmas.List.{length-append}
use Rattle.ax_types.specs.Places as lists
use Rattle.spec_raft.specs.Majority as majorities
use Rattle.spec_server.specs.Servers as servers
use Rattle.spec_world.specs.Worlds as worlds
use Rattle.world_hosts.specs.HostPlans as plans
use Rattle.world_hosts.specs.HostViews as views
use Rattle.world_hosts.specs.declared.host.Host.{Host}
use Rattle.world_hosts.specs.declared.host.Standing.{Standing}
use Rattle.world_hosts.specs.declared.host.Standing.TheVariants as standing
use Rattle.world_hosts.proofs.HostLists.{same_some, view_of}

-- the same over the nodes in code
abbrev pub lead_from : ℕ → ℕ → Option ℕ → List Host → Option ℕ
lead_from k term best [] = best
lead_from k term best (h ∷ hs) = if nat_lt term (views.leading_term h.standing) then lead_from (suc k) (views.leading_term h.standing) (Some k) hs else lead_from (suc k) term best hs

never_below : (term : ℕ) → nat_lt term 0 ≡ false
never_below term = grind (arith, nat_tests)

one_node : (n t k term c : ℕ) (st : Standing) (a : ℕ → Option ℕ) (b : Option ℕ)
    → (if nat_lt term (views.leading_term st) then a (views.leading_term st) else b)
    ≡ (if views.stands_up st && servers.leads (views.server_of n t k st) && nat_lt term (views.server_of n t k st).raft.ballot.term then a (views.server_of n t k st).raft.ballot.term else b)
one_node n t k term c (standing.Down kept es) a b = ap (λ x. if x then a 0 else b) (never_below term)
one_node n t k term c (standing.Up s) a b = by_leads (servers.leads s.server)
  where
    by_leads : (x : Bool) → (if nat_lt term (if x then s.server.raft.ballot.term else 0) then a (if x then s.server.raft.ballot.term else 0) else b) ≡ (if x && nat_lt term s.server.raft.ballot.term then a s.server.raft.ballot.term else b)
    by_leads true = refl
    by_leads false = ap (λ x. if x then a 0 else b) (never_below term)

if_same : {X : Type 0} (c : Bool) (a b x y : X) → a ≡ x → b ≡ y → (if c then a else b) ≡ (if c then x else y)
if_same true a b x y e f = e
if_same false a b x y e f = f

lead_is : (n t k term : ℕ) (best : Option ℕ) (hs : List Host) → lead_from k term best hs ≡ worlds.leader_among k term best (views.hosts_from n t k hs)
lead_is n t k term best [] = refl
lead_is n t k term best (h ∷ hs) =
    if_same (nat_lt term (views.leading_term h.standing)) _ _ _ _ (lead_is n t (suc k) (views.leading_term h.standing) (Some k) hs) (lead_is n t (suc k) term best hs)
    ∙ one_node n t k term h.clock h.standing (λ m. worlds.leader_among (suc k) m (Some k) (views.hosts_from n t (suc k) hs)) (worlds.leader_among (suc k) term best (views.hosts_from n t (suc k) hs))

pub lead_in : (t : ℕ) (hs : List Host) (spent : Bool) (now : plans.OpenHosts) → view_of t hs spent ≡ now → lead_from 1 0 None hs ≡ worlds.leader_now (plans.world_of_hosts now)
lead_in t hs spent now v = lead_is (length hs) t 1 0 None hs ∙ ap (λ (s : plans.OpenHosts). worlds.leader_among 1 0 None s.hosts) v

drop_at : (hs : List Host) (i : ℕ) (h : Host) → slice_get hs i ≡ Some h → drop i hs ≡ h ∷ drop (suc i) hs
drop_at [] i h g = cc
drop_at (x ∷ hs) zero h g = ap (λ y. y ∷ hs) (same_some x h g)
drop_at (x ∷ hs) (suc i) h g = drop_at hs i h g

-- one more node
pub lead_step : (i term : ℕ) (best : Option ℕ) (hs : List Host) (h : Host) → slice_get hs i ≡ Some h
    → lead_from (suc i) term best (drop i hs) ≡ (if nat_lt term (views.leading_term h.standing) then lead_from (suc (suc i)) (views.leading_term h.standing) (Some (suc i)) (drop (suc i) hs) else lead_from (suc (suc i)) term best (drop (suc i) hs))
lead_step i term best hs h g = ap (λ xs. lead_from (suc i) term best xs) (drop_at hs i h g)

pub lead_end : (i term : ℕ) (best : Option ℕ) (hs : List Host) → length hs ≤ i → lead_from (suc i) term best (drop i hs) ≡ best
lead_end i term best hs w = ap (λ xs. lead_from (suc i) term best xs) (none i hs w)
  where
    none : (i : ℕ) (hs : List Host) → length hs ≤ i → drop i hs ≡ []
    none zero [] w = refl
    none zero (x ∷ hs) w = absurd (omega (arith, w))
    none (suc i) [] w = refl
    none (suc i) (x ∷ hs) w = none i hs (omega (arith, w))

-- nodes that were opened, up to a number
pub record AreOpened (n t number : ℕ) (hs : List Host) (up : List Bool) : Type 0 where
  pub count : suc (length hs) ≡ number
  pub hosts : views.hosts_from n t 1 hs ≡ map (worlds.new_host n t) (lists.numbers_from 1 (length hs))
  pub flags : up ≡ map (λ h. views.stands_up h.standing) hs
  pub whole : AllByRecursion (λ h. views.StandsWhole h.standing) hs
  pub numbers : views.HostsAreNumbered n 1 hs

pub none_opened : (n t : ℕ) → AreOpened n t 1 [] []
none_opened n t = record { count = refl; hosts = refl; flags = refl; whole = tt; numbers = tt }

hosts_more : (n t k j : ℕ) (hs : List Host) (h : Host) → j ≡ k + length hs → views.hosts_from n t k (hs ++ h ∷ []) ≡ views.hosts_from n t k hs ++ views.host_of n t j h ∷ []
hosts_more n t k j [] h e = ap (λ m. views.host_of n t m h ∷ []) (omega (arith, e))
hosts_more n t k j (x ∷ hs) h e = ap (λ ys. views.host_of n t k x ∷ ys) (hosts_more n t (suc k) j hs h (omega (arith, e)))

numbers_more : (n t k j m : ℕ) → j ≡ k + m → map (worlds.new_host n t) (lists.numbers_from k (suc m)) ≡ map (worlds.new_host n t) (lists.numbers_from k m) ++ worlds.new_host n t j ∷ []
numbers_more n t k j zero e = ap (λ x. worlds.new_host n t x ∷ []) (omega (arith, e))
numbers_more n t k j (suc m) e = ap (λ ys. worlds.new_host n t k ∷ ys) (numbers_more n t (suc k) j m (omega (arith, e)))

map_more : (hs : List Host) (h : Host) → map (λ x. views.stands_up x.standing) (hs ++ h ∷ []) ≡ map (λ x. views.stands_up x.standing) hs ++ views.stands_up h.standing ∷ []
map_more [] h = refl
map_more (x ∷ hs) h = ap (λ ys. views.stands_up x.standing ∷ ys) (map_more hs h)

whole_more : (hs : List Host) (h : Host) → AllByRecursion (λ x. views.StandsWhole x.standing) hs → views.StandsWhole h.standing → AllByRecursion (λ x. views.StandsWhole x.standing) (hs ++ h ∷ [])
whole_more [] h a w = (w, tt)
whole_more (x ∷ hs) h a w = (a.0, whole_more hs h a.1 w)

numbered_more : (n k j : ℕ) (hs : List Host) (h : Host) → j ≡ k + length hs → views.HostsAreNumbered n k hs → views.KnowsNumber n j h.standing → views.HostsAreNumbered n k (hs ++ h ∷ [])
numbered_more n k j [] h e a w = (subst (λ m. views.KnowsNumber n m h.standing) (omega (arith, e)) w, tt)
numbered_more n k j (x ∷ hs) h e a w = (a.0, numbered_more n (suc k) j hs h (omega (arith, e)) a.1 w)

number_of_new : (n t k c : ℕ) (st : Standing) → views.host_of n t k (record { clock = c; standing = st }) ≡ worlds.new_host n t k → views.KnowsNumber n k st
number_of_new n t k c (standing.Up s) e = (ap (λ (h : worlds.Host). h.server.raft.ballot.me) e, ap (λ (h : worlds.Host). h.server.raft.ballot.nodes) e)
number_of_new n t k c (standing.Down kept es) e = tt

longer : (hs : List Host) (h : Host) → suc (length hs) ≡ length (hs ++ h ∷ [])
longer hs h = omega (arith, length-append hs (h ∷ []))

number_is : (number : ℕ) (hs : List Host) → suc (length hs) ≡ number → number ≡ 1 + length hs
number_is number hs e = omega (arith, e)

pub one_opened : (n t number next : ℕ) (hs : List Host) (up : List Bool) (h : Host) → AreOpened n t number hs up → next ≡ number + 1
    → views.host_of n t number h ≡ worlds.new_host n t number → views.stands_up h.standing ≡ true → views.StandsWhole h.standing → AreOpened n t next (hs ++ h ∷ []) (up ++ true ∷ [])
one_opened n t number next hs up h a e f u w = record {
  count = omega (arith, e, a.count, length-append hs (h ∷ []));
  hosts = hosts_more n t 1 number hs h (number_is number hs a.count) ∙ ap (λ (xs : List worlds.Host). xs ++ views.host_of n t number h ∷ []) a.hosts ∙ ap (λ (x : worlds.Host). map (worlds.new_host n t) (lists.numbers_from 1 (length hs)) ++ x ∷ []) f
      ∙ sym (numbers_more n t 1 number (length hs) (number_is number hs a.count))
      ∙ ap (λ m. map (worlds.new_host n t) (lists.numbers_from 1 m)) (longer hs h);
  flags = ap (λ (us : List Bool). us ++ true ∷ []) a.flags ∙ ap (λ (b : Bool). map (λ (x : Host). views.stands_up x.standing) hs ++ b ∷ []) (sym u) ∙ sym (map_more hs h);
  whole = whole_more hs h a.whole w;
  numbers = numbered_more n 1 number hs h (number_is number hs a.count) a.numbers (number_of_new n t number h.clock h.standing f);
}

-- all of them
pub all_opened : (n t number : ℕ) (hs : List Host) (up : List Bool) → AreOpened n t number hs up → number ≡ n + 1
    → view_of t hs false ≡ record { timeout = t; hosts = map (worlds.new_host n t) (majorities.cluster_of n); is_spent = false }
all_opened n t number hs up a e =
    let size : length hs ≡ n = omega (arith, e, a.count) in
    ap (λ (xs : List worlds.Host). let o : plans.OpenHosts = record { timeout = t; hosts = xs; is_spent = false } in o)
    (ap (λ m. views.hosts_from m t 1 hs) size ∙ a.hosts ∙ ap (λ m. map (worlds.new_host n t) (lists.numbers_from 1 m)) size)

pub opened_ready : (n t number : ℕ) (hs : List Host) (up : List Bool) → AreOpened n t number hs up → number ≡ n + 1 → views.IsReady hs up
opened_ready n t number hs up a e = record { flags = a.flags; whole = a.whole; numbers = subst (λ m. views.HostsAreNumbered m 1 hs) (omega (arith, e, a.count)) a.numbers }
