-- The stores of nodes at their places, where one node and its store change.
use Rattle.std.proofs.Common.{◌≡◌, ◌≢◌, ℕ, zero, suc, ◌≤◌, Bool, true, Some, List, [], ◌∷◌, length, set, refl, ap, sym, ◌∙◌, subst, arith}
use Rattle.std.specs.Prelude.{slice_get, option_map}
use Rattle.std.proofs.lemmas.List.{length-map, length-set, map-set}
use Rattle.std.proofs.lemmas.Option.{slice_get-map, slice_get_within}
use Rattle.ax_types.specs.Places as lists
use Rattle.ax_types.specs.declared.sessions.ServerInput.{ServerInput}
use Rattle.spec_raft.specs.Positions as positions
use Rattle.spec_node.specs.Saving as saving
use Rattle.spec_server.specs.ServerStep as server_steps
use Rattle.spec_world.specs.Worlds as worlds
use Rattle.store_journal.specs.StoreTold as stores
use Rattle.net_bag.proofs.Flags.{get-set_other, get-set_same}
use Rattle.world_saves.specs.SaveChain as chains
use Rattle.world_hosts.specs.HostViews as views
use Rattle.world_hosts.specs.HostSteps as host_steps
use Rattle.world_hosts.specs.StoresMatch as matching
use Rattle.world_hosts.specs.declared.host.Host.{Host}
use Rattle.world_hosts.specs.declared.host.Standing.{Standing}
use Rattle.world_hosts.specs.declared.host.Standing.TheVariants as standing
use Rattle.world_hosts.proofs.HostLists.{same_some, length_hosts, host_at, host_set}
use Rattle.world_hosts.proofs.ServedHosts.{matches_host, host_matches}

match_within : (hosts : List worlds.Host) (ss : List matching.StoreState) → matching.StoresMatch hosts ss → length hosts ≤ length ss
match_within [] ss m = omega arith
match_within (h ∷ hosts) [] m = absurd m
match_within (h ∷ hosts) (s ∷ ss) m = omega (arith, match_within hosts ss m.1)

match_at : (hosts : List worlds.Host) (ss : List matching.StoreState) (i : ℕ) (h : worlds.Host) (s : matching.StoreState) → matching.StoresMatch hosts ss → slice_get hosts i ≡ Some h → slice_get ss i ≡ Some s → matching.StoreMatches h s
match_at [] ss i h s m e f = cc
match_at (x ∷ hosts) [] i h s m e f = absurd m
match_at (x ∷ hosts) (y ∷ ss) zero h s m e f = subst (λ a. matching.StoreMatches a s) (same_some x h e) (subst (λ b. matching.StoreMatches x b) (same_some y s f) m.0)
match_at (x ∷ hosts) (y ∷ ss) (suc i) h s m e f = match_at hosts ss i h s m.1 e f

match_set : (hosts : List worlds.Host) (ss : List matching.StoreState) (i : ℕ) (h : worlds.Host) (s : matching.StoreState) → matching.StoresMatch hosts ss → matching.StoreMatches h s → matching.StoresMatch (positions.change_place (λ old. h) hosts (suc i)) (set ss i s)
match_set [] ss i h s m a = tt
match_set (x ∷ hosts) [] i h s m a = absurd m
match_set (x ∷ hosts) (y ∷ ss) zero h s m a = (a, m.1)
match_set (x ∷ hosts) (y ∷ ss) (suc i) h s m a = (m.0, match_set hosts ss i h s m.1 a)

match_changed : (hosts : List worlds.Host) (ss : List matching.StoreState) (i : ℕ) (h new : worlds.Host) → slice_get hosts i ≡ Some h → ((s : matching.StoreState) → matching.StoreMatches h s → matching.StoreMatches new s)
    → matching.StoresMatch hosts ss → matching.StoresMatch (positions.change_place (λ old. new) hosts (suc i)) ss
match_changed [] ss i h new e f m = cc
match_changed (x ∷ hosts) [] i h new e f m = absurd m
match_changed (x ∷ hosts) (y ∷ ss) zero h new e f m = (f y (subst (λ a. matching.StoreMatches a y) (same_some x h e) m.0), m.1)
match_changed (x ∷ hosts) (y ∷ ss) (suc i) h new e f m = (m.0, match_changed hosts ss i h new e f m.1)

-- there is a store for each node
pub store_within : {S : Type 0} (told : S → stores.Told) (needs : S → Bool) (n t : ℕ) (hs : List Host) (xs : List S) → matching.StoresMatch (views.hosts_from n t 1 hs) (matching.store_states_of told needs xs) → length hs ≤ length xs
store_within told needs n t hs xs m = omega (arith, match_within (views.hosts_from n t 1 hs) (matching.store_states_of told needs xs) m, length_hosts n t 1 hs, length-map xs (matching.store_state_of told needs))

state_at : {S : Type 0} (told : S → stores.Told) (needs : S → Bool) (xs : List S) (i : ℕ) (x : S) → slice_get xs i ≡ Some x → slice_get (matching.store_states_of told needs xs) i ≡ Some (matching.store_state_of told needs x)
state_at told needs xs i x e = slice_get-map (matching.store_state_of told needs) xs i ∙ ap (λ o. option_map (matching.store_state_of told needs) o) e

host_get : (n t k i : ℕ) (hs : List Host) (h : Host) → suc i ≡ k → slice_get hs i ≡ Some h → slice_get (views.hosts_from n t 1 hs) i ≡ Some (views.host_of n t k h)
host_get n t k i hs h e g = subst (λ p. lists.at_place (views.hosts_from n t 1 hs) p ≡ Some (views.host_of n t k h)) (sym e) (host_at n t k i hs h e g)

pub store_at : {S : Type 0} (told : S → stores.Told) (needs : S → Bool) (n t k i : ℕ) (hs : List Host) (xs : List S) (h : Host) (x : S) → suc i ≡ k → matching.StoresMatch (views.hosts_from n t 1 hs) (matching.store_states_of told needs xs)
    → slice_get hs i ≡ Some h → slice_get xs i ≡ Some x → host_steps.MatchesStore h.standing (told x) (needs x)
store_at told needs n t k i hs xs h x e m f g =
    matches_host n t k h (told x) (needs x) (match_at (views.hosts_from n t 1 hs) (matching.store_states_of told needs xs) i (views.host_of n t k h) (matching.store_state_of told needs x) m (host_get n t k i hs h e f) (state_at told needs xs i x g))

pub stores_set : {S : Type 0} (told : S → stores.Told) (needs : S → Bool) (n t k i : ℕ) (hs : List Host) (xs : List S) (h : Host) (x : S) → suc i ≡ k → matching.StoresMatch (views.hosts_from n t 1 hs) (matching.store_states_of told needs xs)
    → host_steps.MatchesStore h.standing (told x) (needs x) → matching.StoresMatch (views.hosts_from n t 1 (set hs i h)) (matching.store_states_of told needs (set xs i x))
stores_set told needs n t k i hs xs h x e m a =
    subst (λ hosts. matching.StoresMatch hosts (matching.store_states_of told needs (set xs i x))) (sym (host_set n t (suc i) i hs h refl))
    (subst (λ ss. matching.StoresMatch (positions.change_place (λ old. views.host_of n t (suc i) h) (views.hosts_from n t 1 hs) (suc i)) ss) (sym (map-set (matching.store_state_of told needs) xs i x))
    (match_set (views.hosts_from n t 1 hs) (matching.store_states_of told needs xs) i (views.host_of n t (suc i) h) (matching.store_state_of told needs x) m (host_matches n t (suc i) h (told x) (needs x) a)))

telling_states : (ss : List matching.StoreState) (i : ℕ) (s new : matching.StoreState) → slice_get ss i ≡ Some s → (matching.Tells s.told → matching.Tells new.told) → matching.AreTelling ss → matching.AreTelling (set ss i new)
telling_states [] i s new e f a = cc
telling_states (x ∷ ss) zero s new e f a = (f (subst (λ (y : matching.StoreState). matching.Tells y.told) (same_some x s e) a.0), a.1)
telling_states (x ∷ ss) (suc i) s new e f a = (a.0, telling_states ss i s new e f a.1)

pub telling_set : {S : Type 0} (told : S → stores.Told) (needs : S → Bool) (i : ℕ) (xs : List S) (x new : S) → slice_get xs i ≡ Some x → (matching.Tells (told x) → matching.Tells (told new))
    → matching.AreTelling (matching.store_states_of told needs xs) → matching.AreTelling (matching.store_states_of told needs (set xs i new))
telling_set told needs i xs x new e f a =
    subst matching.AreTelling (sym (map-set (matching.store_state_of told needs) xs i new)) (telling_states (matching.store_states_of told needs xs) i (matching.store_state_of told needs x) (matching.store_state_of told needs new) (state_at told needs xs i x e) f a)

-- the other stores
pub others_stay : {S : Type 0} (k i : ℕ) (xs : List S) (x : S) → suc i ≡ k → matching.OthersStay k xs (set xs i x)
others_stay {S} k i xs x e = record { size = length-set xs i x; each = other }
  where
    other : (j : ℕ) → j ≢ k → lists.at_place (set xs i x) j ≡ lists.at_place xs j
    other zero ne = refl
    other (suc j) ne = get-set_other xs i j x (λ f. ne (ap suc f ∙ e))

-- the store of node k before and after
at_state : {S : Type 0} (told : S → stores.Told) (needs : S → Bool) (k i : ℕ) (xs : List S) (x : S) → suc i ≡ k → slice_get xs i ≡ Some x → lists.at_place (matching.store_states_of told needs xs) k ≡ Some (matching.store_state_of told needs x)
at_state told needs k i xs x e g = subst (λ p. lists.at_place (matching.store_states_of told needs xs) p ≡ Some (matching.store_state_of told needs x)) e (state_at told needs xs i x g)

at_set : {S : Type 0} (told : S → stores.Told) (needs : S → Bool) (k i : ℕ) (xs : List S) (x new : S) → suc i ≡ k → slice_get xs i ≡ Some x → lists.at_place (matching.store_states_of told needs (set xs i new)) k ≡ Some (matching.store_state_of told needs new)
at_set told needs k i xs x new e g = at_state told needs k i (set xs i new) new e (get-set_same xs i new (slice_get_within xs i x g))

part_up : (n t k c : ℕ) (st : Standing) (i : ServerInput) (a b : matching.StoreState) → views.stands_up st ≡ true
    → chains.IsSomeOf (saving.calls_of (server_steps.server_out (host_steps.server_in st) i).saves) a.told b.told → matching.KeepsPart (Some (views.host_of n t k (record { clock = c; standing = st }))) i (Some a) (Some b)
part_up n t k c (standing.Up s) i a b u p = p
part_up n t k c (standing.Down kept es) i a b u p = cc

pub keeps_part : {S : Type 0} (told : S → stores.Told) (needs : S → Bool) (n t k i : ℕ) (hs : List Host) (xs : List S) (h : Host) (x new : S) (input : ServerInput) → suc i ≡ k → slice_get hs i ≡ Some h → slice_get xs i ≡ Some x → views.stands_up h.standing ≡ true
    → chains.IsSomeOf (saving.calls_of (server_steps.server_out (host_steps.server_in h.standing) input).saves) (told x) (told new)
    → matching.KeepsPart (lists.at_place (views.hosts_from n t 1 hs) k) input (lists.at_place (matching.store_states_of told needs xs) k) (lists.at_place (matching.store_states_of told needs (set xs i new)) k)
keeps_part told needs n t k i hs xs h x new input e f g u p =
    subst (λ o. matching.KeepsPart o input (lists.at_place (matching.store_states_of told needs xs) k) (lists.at_place (matching.store_states_of told needs (set xs i new)) k)) (sym (host_at n t k i hs h e f))
    (subst (λ o. matching.KeepsPart (Some (views.host_of n t k h)) input o (lists.at_place (matching.store_states_of told needs (set xs i new)) k)) (sym (at_state told needs k i xs x e g))
    (subst (λ o. matching.KeepsPart (Some (views.host_of n t k h)) input (Some (matching.store_state_of told needs x)) o) (sym (at_set told needs k i xs x new e g))
    (part_up n t k h.clock h.standing input (matching.store_state_of told needs x) (matching.store_state_of told needs new) u p)))

pub told_stays : {S : Type 0} (told : S → stores.Told) (needs : S → Bool) (k i : ℕ) (xs : List S) (x new : S) → suc i ≡ k → slice_get xs i ≡ Some x → told new ≡ told x
    → matching.ToldStays (lists.at_place (matching.store_states_of told needs xs) k) (lists.at_place (matching.store_states_of told needs (set xs i new)) k)
told_stays told needs k i xs x new e g same =
    subst (λ o. matching.ToldStays o (lists.at_place (matching.store_states_of told needs (set xs i new)) k)) (sym (at_state told needs k i xs x e g))
    (subst (λ o. matching.ToldStays (Some (matching.store_state_of told needs x)) o) (sym (at_set told needs k i xs x new e g)) same)

pub tells_at : {S : Type 0} (told : S → stores.Told) (needs : S → Bool) (k i : ℕ) (xs : List S) (x : S) → suc i ≡ k → slice_get xs i ≡ Some x → matching.IsTelling (lists.at_place (matching.store_states_of told needs xs) k) → matching.Tells (told x)
tells_at told needs k i xs x e g h = subst matching.IsTelling (at_state told needs k i xs x e g) h

-- a node that keeps the same
keeps_same : (n t k c d : ℕ) (st new : Standing) (s : matching.StoreState) → views.kept_for_sure new ≡ views.kept_for_sure st → views.stake_of new ≡ views.stake_of st → (views.stands_up new ≡ true → views.stands_up st ≡ true)
    → matching.StoreMatches (views.host_of n t k (record { clock = c; standing = st })) s → matching.StoreMatches (views.host_of n t k (record { clock = d; standing = new })) s
keeps_same n t k c d st new s e f u m =
    let a = matches_host n t k (record { clock = c; standing = st }) s.told s.needs_load m in
    host_matches n t k (record { clock = d; standing = new }) s.told s.needs_load (record {
      content = subst (λ kept. host_steps.HoldsStake kept (views.stake_of new) s.told) (sym e) (subst (λ es. host_steps.HoldsStake (views.kept_for_sure st) es s.told) (sym f) a.content);
      loaded = λ up. a.loaded (u up);
    })

pub same_kept : (n t k i : ℕ) (hs : List Host) (h new : Host) (ss : List matching.StoreState) → suc i ≡ k → slice_get hs i ≡ Some h → views.kept_for_sure new.standing ≡ views.kept_for_sure h.standing → views.stake_of new.standing ≡ views.stake_of h.standing
    → (views.stands_up new.standing ≡ true → views.stands_up h.standing ≡ true) → matching.StoresMatch (views.hosts_from n t 1 hs) ss → matching.StoresMatch (views.hosts_from n t 1 (set hs i new)) ss
same_kept n t k i hs h new ss e g a b u m =
    subst (λ hosts. matching.StoresMatch hosts ss) (sym (host_set n t (suc i) i hs new refl))
    (match_changed (views.hosts_from n t 1 hs) ss i (views.host_of n t (suc i) h) (views.host_of n t (suc i) new) (host_get n t (suc i) i hs h refl g) (λ s. keeps_same n t (suc i) h.clock new.clock h.standing new.standing s a b u) m)
