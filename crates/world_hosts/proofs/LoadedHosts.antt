-- A load of one node, as the definitions have it.
use Rattle.std.proofs.Common.{◌≡◌, ℕ, zero, suc, Bool, true, false, Some, List, [], ◌∷◌, length, refl, ap, sym, ◌∙◌, subst, arith}
use Rattle.std.specs.Prelude.{nat_le, nat_eq, ◌&&◌}
use Rattle.std.proofs.lemmas.Bool.Decides.{nat_tests}
use Rattle.ax_types.specs.Places as lists
use Rattle.ax_types.specs.declared.entries.Entry.{Entry}
use Rattle.ax_types.specs.declared.entries.Loaded.{Loaded}
use Rattle.ax_types.specs.declared.steps.StepOutcome.{StepOutcome}
use Rattle.ax_types.specs.declared.steps.StepOutcome.TheVariants as outcome
use Rattle.spec_raft.specs.Positions as positions
use Rattle.spec_node.specs.Saving as saving
use Rattle.spec_server.specs.Servers as servers
use Rattle.spec_world.specs.Worlds as worlds
use Rattle.store_journal.specs.StoreTold as stores
use Rattle.world_hosts.specs.HostPlans as plans
use Rattle.world_hosts.specs.HostViews as views
use Rattle.world_hosts.specs.HostSteps as host_steps
use Rattle.world_hosts.specs.StoresMatch as matching
use Rattle.world_hosts.specs.declared.host.Host.{Host}
use Rattle.world_hosts.specs.declared.host.Standing.{Standing}
use Rattle.world_hosts.specs.declared.host.Standing.TheVariants as standing
use Rattle.world_hosts.proofs.HostLists.{same_some}

unchanged : {X : Type 0} (xs : List X) (k : ℕ) (x : X) → lists.at_place xs k ≡ Some x → positions.change_place (λ old. x) xs k ≡ xs
unchanged xs zero x e = refl
unchanged [] (suc p) x e = refl
unchanged (y ∷ xs) (suc zero) x e = ap (λ z. z ∷ xs) (same_some x y (sym e))
unchanged (y ∷ xs) (suc (suc p)) x e = ap (λ zs. y ∷ zs) (unchanged xs (suc p) x e)

both_true : (a b : Bool) → a ≡ true → b ≡ true → (a && b) ≡ true
both_true true b e f = f
both_true false b e f = cc

abbrev opened : ℕ → List worlds.Host → plans.OpenHosts
opened t hosts = record { timeout = t; hosts = hosts; is_spent = false }

loads_down : (t k c : ℕ) (hosts : List worlds.Host) (kept : Loaded) (es : List Entry) (new : Host) (o : StepOutcome) (told : stores.Told)
    → lists.at_place hosts k ≡ Some (views.host_of (length hosts) t k (record { clock = c; standing = standing.Down kept es })) → matching.Tells told
    → host_steps.LoadsAs (length hosts) t k told (record { clock = c; standing = standing.Down kept es }) new o
    → plans.Loads (opened t hosts) k (views.host_of (length hosts) t k (record { clock = c; standing = standing.Down kept es })) (opened t (positions.change_place (λ old. views.host_of (length hosts) t k new) hosts k)) o
loads_down t k c hosts kept es new outcome.Fine told at tells h = absurd h
loads_down t k c hosts kept es new (outcome.Failed saved) told at tells h =
    let down : Host = record { clock = c; standing = standing.Down kept es } in
    record {
      may = ap (λ n. nat_eq n 0) h.0;
      after = ap (λ (x : Host). opened t (positions.change_place (λ old. views.host_of (length hosts) t k x) hosts k)) h.1 ∙ ap (λ xs. opened t xs) (unchanged hosts k (views.host_of (length hosts) t k down) at);
    }
loads_down t k c hosts kept es new (outcome.Loaded added) (stores.Content content) at tells h = record {
  may = both_true (nat_le added (length es)) (worlds.is_loadable (saving.with_rest kept es added)) (grind (arith, nat_tests, h.same.0)) (subst (λ (x : Loaded). worlds.is_loadable x ≡ true) h.same.1.0 h.same.1.1);
  after = ap (λ (x : Host). opened t (positions.change_place (λ old. views.host_of (length hosts) t k x) hosts k)) h.host
      ∙ ap (λ (x : Loaded). opened t (positions.change_place (λ old. let m : worlds.Host = record { is_up = true; clock = c; server = servers.server_from k (length hosts) t x; at_stake = [] } in m) hosts k)) h.same.1.0;
}
loads_down t k c hosts kept es new (outcome.Loaded added) (stores.Bad at) place tells h = absurd h.same
loads_down t k c hosts kept es new (outcome.Loaded added) stores.Untold at tells h = absurd tells

loads_of : (t k c : ℕ) (hosts : List worlds.Host) (st : Standing) (new : Host) (o : StepOutcome) (told : stores.Told)
    → views.stands_up st ≡ false → lists.at_place hosts k ≡ Some (views.host_of (length hosts) t k (record { clock = c; standing = st })) → matching.Tells told
    → host_steps.LoadsAs (length hosts) t k told (record { clock = c; standing = st }) new o
    → plans.Loads (opened t hosts) k (views.host_of (length hosts) t k (record { clock = c; standing = st })) (opened t (positions.change_place (λ old. views.host_of (length hosts) t k new) hosts k)) o
loads_of t k c hosts (standing.Up s) new o told d at tells h = cc
loads_of t k c hosts (standing.Down kept es) new o told d at tells h = loads_down t k c hosts kept es new o told at tells h

pub loads : (n t k : ℕ) (hosts : List worlds.Host) (old new : Host) (o : StepOutcome) (told : stores.Told) → length hosts ≡ n
    → views.stands_up old.standing ≡ false → lists.at_place hosts k ≡ Some (views.host_of n t k old) → matching.Tells told → host_steps.LoadsAs n t k told old new o
    → plans.Loads (record { timeout = t; hosts = hosts; is_spent = false }) k (views.host_of n t k old) (record { timeout = t; hosts = positions.change_place (λ x. views.host_of n t k new) hosts k; is_spent = false }) o
loads n t k hosts old new o told e d at tells h =
    subst (λ m. lists.at_place hosts k ≡ Some (views.host_of m t k old) → host_steps.LoadsAs m t k told old new o → plans.Loads (opened t hosts) k (views.host_of m t k old) (opened t (positions.change_place (λ x. views.host_of m t k new) hosts k)) o) e
    (λ a l. loads_of t k old.clock hosts old.standing new o told d a tells l) at h

whole_down : (st : Standing) → views.stands_up st ≡ false → views.StandsWhole st
whole_down (standing.Up s) e = cc
whole_down (standing.Down kept es) e = tt

number_down : (n k : ℕ) (st : Standing) → views.stands_up st ≡ false → views.KnowsNumber n k st
number_down n k (standing.Up s) e = cc
number_down n k (standing.Down kept es) e = tt

-- after a load the server is whole, and knows its numbers
pub whole_loaded : (n t k : ℕ) (told : stores.Told) (old new : Host) (o : StepOutcome) → views.stands_up old.standing ≡ false → host_steps.LoadsAs n t k told old new o → views.StandsWhole new.standing
whole_loaded n t k told old new outcome.Fine d h = absurd h
whole_loaded n t k told old new (outcome.Failed saved) d h = subst (λ (x : Host). views.StandsWhole x.standing) (sym h.1) (whole_down old.standing d)
whole_loaded n t k told old new (outcome.Loaded added) d h = subst (λ (x : Host). views.StandsWhole x.standing) (sym h.host) refl

pub number_loaded : (n t k : ℕ) (told : stores.Told) (old new : Host) (o : StepOutcome) → views.stands_up old.standing ≡ false → host_steps.LoadsAs n t k told old new o → views.KnowsNumber n k new.standing
number_loaded n t k told old new outcome.Fine d h = absurd h
number_loaded n t k told old new (outcome.Failed saved) d h = subst (λ (x : Host). views.KnowsNumber n k x.standing) (sym h.1) (number_down n k old.standing d)
number_loaded n t k told old new (outcome.Loaded added) d h = subst (λ (x : Host). views.KnowsNumber n k x.standing) (sym h.host) (refl, refl)
