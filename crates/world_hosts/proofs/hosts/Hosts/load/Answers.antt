use Rattle.std.proofs.Common.{◌≡◌, ◌<◌, ◌∙◌, suc, false, Some, length, length-set, set, refl, arith, sym, ap, subst}
use Rattle.std.proofs.lemmas.Option.{slice_get_read}
use Rattle.std.specs.Prelude.{slice_get}
use Rattle.world_hosts.specs.HostPlans as plans
use Rattle.world_hosts.specs.HostViews as views
use Rattle.world_hosts.specs.HostSteps as host_steps
use Rattle.world_hosts.specs.StoresMatch as matching
use Rattle.world_hosts.proofs.HostLists as places
use Rattle.world_hosts.proofs.MatchingStores as beside
use Rattle.world_hosts.proofs.AmongHosts as among
use Rattle.world_hosts.proofs.hosts.Hosts.load.Goals as goal

pub index_mut-requires : goal.index_mut-requires
index_mut-requires g c =
    let hs = c.self.inside.hosts.items in
    let t = c.self.inside.timeout in
    let i = c.index_of-index.result in
    let k = c.args.node in
    let within : i < length hs = omega (arith, c.index_of-index.ensures, c.requires.known, ap (λ (s : plans.OpenHosts). length s.hosts) c.self.view_is, places.length_hosts (length hs) t 1 hs) in
    omega (arith, within)

pub index_mut-requires-2 : goal.index_mut-requires-2
index_mut-requires-2 g c =
    let hs = c.self.inside.hosts.items in
    let t = c.self.inside.timeout in
    let i = c.index_of-index.result in
    let k = c.args.node in
    let xs = c.args.stores.now.items in
    let told = g.S.NodeStore.told in
    let needs = g.S.NodeStore.needs_load in
    let within : i < length hs = omega (arith, c.index_of-index.ensures, c.requires.known, ap (λ (s : plans.OpenHosts). length s.hosts) c.self.view_is, places.length_hosts (length hs) t 1 hs) in
    let matches : matching.StoresMatch (views.hosts_from (length hs) t 1 hs) (matching.store_states_of told needs xs) = subst (λ (s : plans.OpenHosts). matching.StoresMatch s.hosts (matching.store_states_of told needs xs)) (sym c.self.view_is) c.requires.matches in
    let stored : i < length xs = omega (arith, within, beside.store_within told needs (length hs) t hs xs matches) in
    omega (arith, stored)

pub load-requires-clause-down : goal.load-requires-clause-down
load-requires-clause-down g c =
    let hs = c.self.inside.hosts.items in
    let t = c.self.inside.timeout in
    let i = c.index_of-index.result in
    let k = c.args.node in
    let place : suc i ≡ k = omega (arith, c.index_of-index.ensures) in
    let within : i < length hs = omega (arith, c.index_of-index.ensures, c.requires.known, ap (λ (s : plans.OpenHosts). length s.hosts) c.self.view_is, places.length_hosts (length hs) t 1 hs) in
    let h = c.index_mut.result.now in
    let read : slice_get hs i ≡ Some h = slice_get_read hs (length hs) i h refl within c.index_mut.ensures.value in
    let down : views.stands_up h.standing ≡ false = places.up_at t k i hs c.self.inside.is_spent false h c.args.self.now c.self.view_is place read c.requires.down in
    down

pub load-requires-clause-member : goal.load-requires-clause-member
load-requires-clause-member g c =
    let hs = c.self.inside.hosts.items in
    let t = c.self.inside.timeout in
    let i = c.index_of-index.result in
    let k = c.args.node in
    let place : suc i ≡ k = omega (arith, c.index_of-index.ensures) in
    let within : i < length hs = omega (arith, c.index_of-index.ensures, c.requires.known, ap (λ (s : plans.OpenHosts). length s.hosts) c.self.view_is, places.length_hosts (length hs) t 1 hs) in
    omega (arith, c.index_of-index.ensures, within, c.len-nodes.ensures)

pub load-requires-clause-matches : goal.load-requires-clause-matches
load-requires-clause-matches g c =
    let hs = c.self.inside.hosts.items in
    let t = c.self.inside.timeout in
    let i = c.index_of-index.result in
    let k = c.args.node in
    let xs = c.args.stores.now.items in
    let told = g.S.NodeStore.told in
    let needs = g.S.NodeStore.needs_load in
    let place : suc i ≡ k = omega (arith, c.index_of-index.ensures) in
    let within : i < length hs = omega (arith, c.index_of-index.ensures, c.requires.known, ap (λ (s : plans.OpenHosts). length s.hosts) c.self.view_is, places.length_hosts (length hs) t 1 hs) in
    let matches : matching.StoresMatch (views.hosts_from (length hs) t 1 hs) (matching.store_states_of told needs xs) = subst (λ (s : plans.OpenHosts). matching.StoresMatch s.hosts (matching.store_states_of told needs xs)) (sym c.self.view_is) c.requires.matches in
    let stored : i < length xs = omega (arith, within, beside.store_within told needs (length hs) t hs xs matches) in
    let h = c.index_mut.result.now in
    let read : slice_get hs i ≡ Some h = slice_get_read hs (length hs) i h refl within c.index_mut.ensures.value in
    let x = c.index_mut-2.result.now in
    let readx : slice_get xs i ≡ Some x = slice_get_read xs (length xs) i x refl stored c.index_mut-2.ensures.value in
    beside.store_at told needs (length hs) t k i hs xs h x place matches read readx

pub returns-in_err-outcome-clause-others : goal.returns-in_err-outcome-clause-others
returns-in_err-outcome-clause-others g c =
    let hs = c.self.inside.hosts.items in
    let t = c.self.inside.timeout in
    let i = c.index_of-index.result in
    let k = c.args.node in
    let xs = c.args.stores.now.items in
    let place : suc i ≡ k = omega (arith, c.index_of-index.ensures) in
    beside.others_stay k i xs c.load.new.store place

pub returns-in_err-outcome-clause-telling : goal.returns-in_err-outcome-clause-telling
returns-in_err-outcome-clause-telling g c =
    let hs = c.self.inside.hosts.items in
    let t = c.self.inside.timeout in
    let i = c.index_of-index.result in
    let k = c.args.node in
    let xs = c.args.stores.now.items in
    let told = g.S.NodeStore.told in
    let needs = g.S.NodeStore.needs_load in
    let place : suc i ≡ k = omega (arith, c.index_of-index.ensures) in
    let within : i < length hs = omega (arith, c.index_of-index.ensures, c.requires.known, ap (λ (s : plans.OpenHosts). length s.hosts) c.self.view_is, places.length_hosts (length hs) t 1 hs) in
    let matches : matching.StoresMatch (views.hosts_from (length hs) t 1 hs) (matching.store_states_of told needs xs) = subst (λ (s : plans.OpenHosts). matching.StoresMatch s.hosts (matching.store_states_of told needs xs)) (sym c.self.view_is) c.requires.matches in
    let stored : i < length xs = omega (arith, within, beside.store_within told needs (length hs) t hs xs matches) in
    let x = c.index_mut-2.result.now in
    let readx : slice_get xs i ≡ Some x = slice_get_read xs (length xs) i x refl stored c.index_mut-2.ensures.value in
    beside.telling_set told needs i xs x c.load.new.store readx (λ told_before. subst matching.Tells (sym c.load.ensures.told) told_before)

pub returns-in_err-outcome-clause-told : goal.returns-in_err-outcome-clause-told
returns-in_err-outcome-clause-told g c =
    let hs = c.self.inside.hosts.items in
    let t = c.self.inside.timeout in
    let i = c.index_of-index.result in
    let k = c.args.node in
    let xs = c.args.stores.now.items in
    let told = g.S.NodeStore.told in
    let needs = g.S.NodeStore.needs_load in
    let place : suc i ≡ k = omega (arith, c.index_of-index.ensures) in
    let within : i < length hs = omega (arith, c.index_of-index.ensures, c.requires.known, ap (λ (s : plans.OpenHosts). length s.hosts) c.self.view_is, places.length_hosts (length hs) t 1 hs) in
    let matches : matching.StoresMatch (views.hosts_from (length hs) t 1 hs) (matching.store_states_of told needs xs) = subst (λ (s : plans.OpenHosts). matching.StoresMatch s.hosts (matching.store_states_of told needs xs)) (sym c.self.view_is) c.requires.matches in
    let stored : i < length xs = omega (arith, within, beside.store_within told needs (length hs) t hs xs matches) in
    let x = c.index_mut-2.result.now in
    let readx : slice_get xs i ≡ Some x = slice_get_read xs (length xs) i x refl stored c.index_mut-2.ensures.value in
    beside.told_stays told needs k i xs x c.load.new.store place readx c.load.ensures.told

pub returns-clause-others : goal.returns-clause-others
returns-clause-others g c =
    let hs = c.self.inside.hosts.items in
    let t = c.self.inside.timeout in
    let i = c.index_of-index.result in
    let k = c.args.node in
    let xs = c.args.stores.now.items in
    let place : suc i ≡ k = omega (arith, c.index_of-index.ensures) in
    beside.others_stay k i xs c.load.new.store place

pub returns-clause-telling : goal.returns-clause-telling
returns-clause-telling g c =
    let hs = c.self.inside.hosts.items in
    let t = c.self.inside.timeout in
    let i = c.index_of-index.result in
    let k = c.args.node in
    let xs = c.args.stores.now.items in
    let told = g.S.NodeStore.told in
    let needs = g.S.NodeStore.needs_load in
    let place : suc i ≡ k = omega (arith, c.index_of-index.ensures) in
    let within : i < length hs = omega (arith, c.index_of-index.ensures, c.requires.known, ap (λ (s : plans.OpenHosts). length s.hosts) c.self.view_is, places.length_hosts (length hs) t 1 hs) in
    let matches : matching.StoresMatch (views.hosts_from (length hs) t 1 hs) (matching.store_states_of told needs xs) = subst (λ (s : plans.OpenHosts). matching.StoresMatch s.hosts (matching.store_states_of told needs xs)) (sym c.self.view_is) c.requires.matches in
    let stored : i < length xs = omega (arith, within, beside.store_within told needs (length hs) t hs xs matches) in
    let x = c.index_mut-2.result.now in
    let readx : slice_get xs i ≡ Some x = slice_get_read xs (length xs) i x refl stored c.index_mut-2.ensures.value in
    beside.telling_set told needs i xs x c.load.new.store readx (λ told_before. subst matching.Tells (sym c.load.ensures.told) told_before)

pub returns-clause-told : goal.returns-clause-told
returns-clause-told g c =
    let hs = c.self.inside.hosts.items in
    let t = c.self.inside.timeout in
    let i = c.index_of-index.result in
    let k = c.args.node in
    let xs = c.args.stores.now.items in
    let told = g.S.NodeStore.told in
    let needs = g.S.NodeStore.needs_load in
    let place : suc i ≡ k = omega (arith, c.index_of-index.ensures) in
    let within : i < length hs = omega (arith, c.index_of-index.ensures, c.requires.known, ap (λ (s : plans.OpenHosts). length s.hosts) c.self.view_is, places.length_hosts (length hs) t 1 hs) in
    let matches : matching.StoresMatch (views.hosts_from (length hs) t 1 hs) (matching.store_states_of told needs xs) = subst (λ (s : plans.OpenHosts). matching.StoresMatch s.hosts (matching.store_states_of told needs xs)) (sym c.self.view_is) c.requires.matches in
    let stored : i < length xs = omega (arith, within, beside.store_within told needs (length hs) t hs xs matches) in
    let x = c.index_mut-2.result.now in
    let readx : slice_get xs i ≡ Some x = slice_get_read xs (length xs) i x refl stored c.index_mut-2.ensures.value in
    beside.told_stays told needs k i xs x c.load.new.store place readx c.load.ensures.told

pub index-requires : goal.index-requires
index-requires g c =
    let hs = c.self.inside.hosts.items in
    let t = c.self.inside.timeout in
    let i = c.index_of-index.result in
    let k = c.args.node in
    let within : i < length hs = omega (arith, c.index_of-index.ensures, c.requires.known, ap (λ (s : plans.OpenHosts). length s.hosts) c.self.view_is, places.length_hosts (length hs) t 1 hs) in
    omega (arith, within, length-set hs i c.load.new.self)

pub index_mut-requires-3 : goal.index_mut-requires-3
index_mut-requires-3 g c =
    let hs = c.self.inside.hosts.items in
    let t = c.self.inside.timeout in
    let i = c.index_of-index.result in
    let k = c.args.node in
    let whole : c.self.inside.is_spent ≡ false = ap (λ (s : plans.OpenHosts). s.is_spent) c.self.view_is ∙ c.requires.whole in
    let ready = c.self.invariant.1 whole in
    let within : i < length hs = omega (arith, c.index_of-index.ensures, c.requires.known, ap (λ (s : plans.OpenHosts). length s.hosts) c.self.view_is, places.length_hosts (length hs) t 1 hs) in
    omega (arith, within, places.flags_length hs c.self.inside.up.items ready.flags)

pub invariant_of-self-2 : goal.invariant_of-self-2
invariant_of-self-2 g c =
    let told = g.S.NodeStore.told in
    let hs = c.self.inside.hosts.items in
    let t = c.self.inside.timeout in
    let i = c.index_of-index.result in
    let k = c.args.node in
    let whole : c.self.inside.is_spent ≡ false = ap (λ (s : plans.OpenHosts). s.is_spent) c.self.view_is ∙ c.requires.whole in
    let ready = c.self.invariant.1 whole in
    let place : suc i ≡ k = omega (arith, c.index_of-index.ensures) in
    let within : i < length hs = omega (arith, c.index_of-index.ensures, c.requires.known, ap (λ (s : plans.OpenHosts). length s.hosts) c.self.view_is, places.length_hosts (length hs) t 1 hs) in
    let h = c.index_mut.result.now in
    let read : slice_get hs i ≡ Some h = slice_get_read hs (length hs) i h refl within c.index_mut.ensures.value in
    let down : views.stands_up h.standing ≡ false = places.up_at t k i hs c.self.inside.is_spent false h c.args.self.now c.self.view_is place read c.requires.down in
    let new = c.load.new.self in
    let flag : c.is_up.result ≡ views.stands_up new.standing = among.flag_of i hs new c.index.result.now c.is_up.result within (slice_get_read (set hs i new) (length (set hs i new)) i c.index.result.now refl (omega (arith, within, length-set hs i new)) c.index.ensures) c.is_up.ensures in (
      places.within_set t i hs new c.self.invariant.0,
      λ unspent. among.ready_loaded t k i hs c.self.inside.up.items h new (told c.index_mut-2.result.now) c.in_ok-outcome.outcome c.is_up.result place ready down (subst (λ n. host_steps.LoadsAs n t k (told c.index_mut-2.result.now) h new c.in_ok-outcome.outcome) (omega (arith, c.len-nodes.ensures)) c.in_ok-outcome.ensures.loaded) flag,
    )

pub returns-clause-loaded : goal.returns-clause-loaded
returns-clause-loaded g c telling =
    let hs = c.self.inside.hosts.items in
    let t = c.self.inside.timeout in
    let i = c.index_of-index.result in
    let k = c.args.node in
    let xs = c.args.stores.now.items in
    let told = g.S.NodeStore.told in
    let needs = g.S.NodeStore.needs_load in
    let whole : c.self.inside.is_spent ≡ false = ap (λ (s : plans.OpenHosts). s.is_spent) c.self.view_is ∙ c.requires.whole in
    let place : suc i ≡ k = omega (arith, c.index_of-index.ensures) in
    let within : i < length hs = omega (arith, c.index_of-index.ensures, c.requires.known, ap (λ (s : plans.OpenHosts). length s.hosts) c.self.view_is, places.length_hosts (length hs) t 1 hs) in
    let matches : matching.StoresMatch (views.hosts_from (length hs) t 1 hs) (matching.store_states_of told needs xs) = subst (λ (s : plans.OpenHosts). matching.StoresMatch s.hosts (matching.store_states_of told needs xs)) (sym c.self.view_is) c.requires.matches in
    let stored : i < length xs = omega (arith, within, beside.store_within told needs (length hs) t hs xs matches) in
    let h = c.index_mut.result.now in
    let read : slice_get hs i ≡ Some h = slice_get_read hs (length hs) i h refl within c.index_mut.ensures.value in
    let x = c.index_mut-2.result.now in
    let readx : slice_get xs i ≡ Some x = slice_get_read xs (length xs) i x refl stored c.index_mut-2.ensures.value in
    let down : views.stands_up h.standing ≡ false = places.up_at t k i hs c.self.inside.is_spent false h c.args.self.now c.self.view_is place read c.requires.down in
    among.loads_there t k i hs c.self.inside.is_spent h c.load.new.self c.args.self.now (told x) c.in_ok-outcome.outcome c.self.view_is whole place read down (beside.tells_at told needs k i xs x place readx telling)
    (subst (λ n. host_steps.LoadsAs n t k (told x) h c.load.new.self c.in_ok-outcome.outcome) (omega (arith, c.len-nodes.ensures)) c.in_ok-outcome.ensures.loaded)

pub returns-clause-matches : goal.returns-clause-matches
returns-clause-matches g c =
    let hs = c.self.inside.hosts.items in
    let t = c.self.inside.timeout in
    let i = c.index_of-index.result in
    let k = c.args.node in
    let xs = c.args.stores.now.items in
    let told = g.S.NodeStore.told in
    let needs = g.S.NodeStore.needs_load in
    let place : suc i ≡ k = omega (arith, c.index_of-index.ensures) in
    let within : i < length hs = omega (arith, c.index_of-index.ensures, c.requires.known, ap (λ (s : plans.OpenHosts). length s.hosts) c.self.view_is, places.length_hosts (length hs) t 1 hs) in
    let matches : matching.StoresMatch (views.hosts_from (length hs) t 1 hs) (matching.store_states_of told needs xs) = subst (λ (s : plans.OpenHosts). matching.StoresMatch s.hosts (matching.store_states_of told needs xs)) (sym c.self.view_is) c.requires.matches in
    let new = c.load.new.self in
    let y = c.load.new.store in
    subst (λ n. matching.StoresMatch (views.hosts_from n t 1 (set hs i new)) (matching.store_states_of told needs (set xs i y))) (sym (length-set hs i new))
    (beside.stores_set told needs (length hs) t k i hs xs new y place matches c.in_ok-outcome.ensures.matches)
