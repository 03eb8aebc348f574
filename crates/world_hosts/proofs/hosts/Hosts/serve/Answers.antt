use Rattle.std.proofs.Common.{◌≡◌, ◌<◌, ◌∙◌, suc, true, false, Some, length, length-set, set, refl, arith, sym, ap, subst}
use Rattle.std.proofs.lemmas.Option.{slice_get_read}
use Rattle.std.specs.Prelude.{slice_get}
use Rattle.ax_types.specs.Places as lists
use Rattle.world_hosts.specs.HostPlans as plans
use Rattle.world_hosts.specs.HostViews as views
use Rattle.world_hosts.specs.StoresMatch as matching
use Rattle.world_hosts.proofs.HostLists as places
use Rattle.world_hosts.proofs.MatchingStores as beside
use Rattle.world_hosts.proofs.AmongHosts as among
use Rattle.world_hosts.proofs.hosts.Hosts.serve.Goals as goal

pub index_mut-requires : goal.index_mut-requires
index_mut-requires g c =
    let hs = c.self.inside.hosts.items in
    let t = c.self.inside.timeout in
    let i = c.index_of-index.result in
    let k = c.args.node in
    let within : i < length hs = omega (arith, c.index_of-index.ensures, places.up_within c.args.self.now.hosts k (among.may_be_up k (length c.args.self.now.hosts) (lists.at_place c.args.self.now.hosts k) c.args.input.now c.requires.may), ap (λ (s : plans.OpenHosts). length s.hosts) c.self.view_is, places.length_hosts (length hs) t 1 hs) in
    omega (arith, within)

pub index_mut-requires-2 : goal.index_mut-requires-2
index_mut-requires-2 g c =
    let hs = c.self.inside.hosts.items in
    let t = c.self.inside.timeout in
    let i = c.index_of-index.result in
    let k = c.args.node in
    let xs = c.args.stores.now.items in
    let told = g.S.NodeStore.told in
    let needs = g.S.NodeStore.needs_load in
    let within : i < length hs = omega (arith, c.index_of-index.ensures, places.up_within c.args.self.now.hosts k (among.may_be_up k (length c.args.self.now.hosts) (lists.at_place c.args.self.now.hosts k) c.args.input.now c.requires.may), ap (λ (s : plans.OpenHosts). length s.hosts) c.self.view_is, places.length_hosts (length hs) t 1 hs) in
    let matches : matching.StoresMatch (views.hosts_from (length hs) t 1 hs) (matching.store_states_of told needs xs) = subst (λ (s : plans.OpenHosts). matching.StoresMatch s.hosts (matching.store_states_of told needs xs)) (sym c.self.view_is) c.requires.matches in
    let stored : i < length xs = omega (arith, within, beside.store_within told needs (length hs) t hs xs matches) in
    omega (arith, stored)

pub serve-requires-clause-may : goal.serve-requires-clause-may
serve-requires-clause-may g c =
    let hs = c.self.inside.hosts.items in
    let t = c.self.inside.timeout in
    let i = c.index_of-index.result in
    let k = c.args.node in
    let whole : c.self.inside.is_spent ≡ false = ap (λ (s : plans.OpenHosts). s.is_spent) c.self.view_is ∙ c.requires.whole in
    let ready = c.self.invariant.1 whole in
    let place : suc i ≡ k = omega (arith, c.index_of-index.ensures) in
    let within : i < length hs = omega (arith, c.index_of-index.ensures, places.up_within c.args.self.now.hosts k (among.may_be_up k (length c.args.self.now.hosts) (lists.at_place c.args.self.now.hosts k) c.args.input.now c.requires.may), ap (λ (s : plans.OpenHosts). length s.hosts) c.self.view_is, places.length_hosts (length hs) t 1 hs) in
    let h = c.index_mut.result.now in
    let read : slice_get hs i ≡ Some h = slice_get_read hs (length hs) i h refl within c.index_mut.ensures.value in
    among.may_there t k i hs c.self.inside.up.items c.self.inside.is_spent h c.args.self.now c.args.input.now c.self.view_is place read ready c.requires.may

pub serve-requires-clause-matches : goal.serve-requires-clause-matches
serve-requires-clause-matches g c =
    let hs = c.self.inside.hosts.items in
    let t = c.self.inside.timeout in
    let i = c.index_of-index.result in
    let k = c.args.node in
    let xs = c.args.stores.now.items in
    let told = g.S.NodeStore.told in
    let needs = g.S.NodeStore.needs_load in
    let place : suc i ≡ k = omega (arith, c.index_of-index.ensures) in
    let within : i < length hs = omega (arith, c.index_of-index.ensures, places.up_within c.args.self.now.hosts k (among.may_be_up k (length c.args.self.now.hosts) (lists.at_place c.args.self.now.hosts k) c.args.input.now c.requires.may), ap (λ (s : plans.OpenHosts). length s.hosts) c.self.view_is, places.length_hosts (length hs) t 1 hs) in
    let matches : matching.StoresMatch (views.hosts_from (length hs) t 1 hs) (matching.store_states_of told needs xs) = subst (λ (s : plans.OpenHosts). matching.StoresMatch s.hosts (matching.store_states_of told needs xs)) (sym c.self.view_is) c.requires.matches in
    let stored : i < length xs = omega (arith, within, beside.store_within told needs (length hs) t hs xs matches) in
    let h = c.index_mut.result.now in
    let read : slice_get hs i ≡ Some h = slice_get_read hs (length hs) i h refl within c.index_mut.ensures.value in
    let x = c.index_mut-2.result.now in
    let readx : slice_get xs i ≡ Some x = slice_get_read xs (length xs) i x refl stored c.index_mut-2.ensures.value in
    beside.store_at told needs (length hs) t k i hs xs h x place matches read readx

pub returns-in_err-served-clause-others : goal.returns-in_err-served-clause-others
returns-in_err-served-clause-others g c =
    let hs = c.self.inside.hosts.items in
    let t = c.self.inside.timeout in
    let i = c.index_of-index.result in
    let k = c.args.node in
    let xs = c.args.stores.now.items in
    let place : suc i ≡ k = omega (arith, c.index_of-index.ensures) in
    beside.others_stay k i xs c.serve.new.store place

pub returns-in_err-served-clause-telling : goal.returns-in_err-served-clause-telling
returns-in_err-served-clause-telling g c =
    let hs = c.self.inside.hosts.items in
    let t = c.self.inside.timeout in
    let i = c.index_of-index.result in
    let k = c.args.node in
    let xs = c.args.stores.now.items in
    let told = g.S.NodeStore.told in
    let needs = g.S.NodeStore.needs_load in
    let place : suc i ≡ k = omega (arith, c.index_of-index.ensures) in
    let within : i < length hs = omega (arith, c.index_of-index.ensures, places.up_within c.args.self.now.hosts k (among.may_be_up k (length c.args.self.now.hosts) (lists.at_place c.args.self.now.hosts k) c.args.input.now c.requires.may), ap (λ (s : plans.OpenHosts). length s.hosts) c.self.view_is, places.length_hosts (length hs) t 1 hs) in
    let matches : matching.StoresMatch (views.hosts_from (length hs) t 1 hs) (matching.store_states_of told needs xs) = subst (λ (s : plans.OpenHosts). matching.StoresMatch s.hosts (matching.store_states_of told needs xs)) (sym c.self.view_is) c.requires.matches in
    let stored : i < length xs = omega (arith, within, beside.store_within told needs (length hs) t hs xs matches) in
    let x = c.index_mut-2.result.now in
    let readx : slice_get xs i ≡ Some x = slice_get_read xs (length xs) i x refl stored c.index_mut-2.ensures.value in
    beside.telling_set told needs i xs x c.serve.new.store readx c.serve.ensures.tells

pub returns-clause-others : goal.returns-clause-others
returns-clause-others g c =
    let hs = c.self.inside.hosts.items in
    let t = c.self.inside.timeout in
    let i = c.index_of-index.result in
    let k = c.args.node in
    let xs = c.args.stores.now.items in
    let place : suc i ≡ k = omega (arith, c.index_of-index.ensures) in
    beside.others_stay k i xs c.serve.new.store place

pub returns-clause-telling : goal.returns-clause-telling
returns-clause-telling g c =
    let hs = c.self.inside.hosts.items in
    let t = c.self.inside.timeout in
    let i = c.index_of-index.result in
    let k = c.args.node in
    let xs = c.args.stores.now.items in
    let told = g.S.NodeStore.told in
    let needs = g.S.NodeStore.needs_load in
    let place : suc i ≡ k = omega (arith, c.index_of-index.ensures) in
    let within : i < length hs = omega (arith, c.index_of-index.ensures, places.up_within c.args.self.now.hosts k (among.may_be_up k (length c.args.self.now.hosts) (lists.at_place c.args.self.now.hosts k) c.args.input.now c.requires.may), ap (λ (s : plans.OpenHosts). length s.hosts) c.self.view_is, places.length_hosts (length hs) t 1 hs) in
    let matches : matching.StoresMatch (views.hosts_from (length hs) t 1 hs) (matching.store_states_of told needs xs) = subst (λ (s : plans.OpenHosts). matching.StoresMatch s.hosts (matching.store_states_of told needs xs)) (sym c.self.view_is) c.requires.matches in
    let stored : i < length xs = omega (arith, within, beside.store_within told needs (length hs) t hs xs matches) in
    let x = c.index_mut-2.result.now in
    let readx : slice_get xs i ≡ Some x = slice_get_read xs (length xs) i x refl stored c.index_mut-2.ensures.value in
    beside.telling_set told needs i xs x c.serve.new.store readx c.serve.ensures.tells

pub returns-in_err-served-clause-part : goal.returns-in_err-served-clause-part
returns-in_err-served-clause-part g c =
    let hs = c.self.inside.hosts.items in
    let t = c.self.inside.timeout in
    let i = c.index_of-index.result in
    let k = c.args.node in
    let xs = c.args.stores.now.items in
    let told = g.S.NodeStore.told in
    let needs = g.S.NodeStore.needs_load in
    let place : suc i ≡ k = omega (arith, c.index_of-index.ensures) in
    let within : i < length hs = omega (arith, c.index_of-index.ensures, places.up_within c.args.self.now.hosts k (among.may_be_up k (length c.args.self.now.hosts) (lists.at_place c.args.self.now.hosts k) c.args.input.now c.requires.may), ap (λ (s : plans.OpenHosts). length s.hosts) c.self.view_is, places.length_hosts (length hs) t 1 hs) in
    let matches : matching.StoresMatch (views.hosts_from (length hs) t 1 hs) (matching.store_states_of told needs xs) = subst (λ (s : plans.OpenHosts). matching.StoresMatch s.hosts (matching.store_states_of told needs xs)) (sym c.self.view_is) c.requires.matches in
    let stored : i < length xs = omega (arith, within, beside.store_within told needs (length hs) t hs xs matches) in
    let h = c.index_mut.result.now in
    let read : slice_get hs i ≡ Some h = slice_get_read hs (length hs) i h refl within c.index_mut.ensures.value in
    let x = c.index_mut-2.result.now in
    let readx : slice_get xs i ≡ Some x = slice_get_read xs (length xs) i x refl stored c.index_mut-2.ensures.value in
    let up : views.stands_up h.standing ≡ true = places.up_at t k i hs c.self.inside.is_spent true h c.args.self.now c.self.view_is place read (among.may_be_up k (length c.args.self.now.hosts) (lists.at_place c.args.self.now.hosts k) c.args.input.now c.requires.may) in
    among.on_err_here c.from_residual.result _
    (subst (λ (s : plans.OpenHosts). matching.KeepsPart (lists.at_place s.hosts k) c.args.input.now (lists.at_place (matching.store_states_of told needs xs) k) (lists.at_place (matching.store_states_of told needs (set xs i c.serve.new.store)) k)) c.self.view_is
    (beside.keeps_part told needs (length hs) t k i hs xs h x c.serve.new.store c.args.input.now place read readx up c.in_err-served.ensures.part))

pub index-requires : goal.index-requires
index-requires g c =
    let hs = c.self.inside.hosts.items in
    let t = c.self.inside.timeout in
    let i = c.index_of-index.result in
    let k = c.args.node in
    let within : i < length hs = omega (arith, c.index_of-index.ensures, places.up_within c.args.self.now.hosts k (among.may_be_up k (length c.args.self.now.hosts) (lists.at_place c.args.self.now.hosts k) c.args.input.now c.requires.may), ap (λ (s : plans.OpenHosts). length s.hosts) c.self.view_is, places.length_hosts (length hs) t 1 hs) in
    omega (arith, within, length-set hs i c.serve.new.self)

pub index_mut-requires-3 : goal.index_mut-requires-3
index_mut-requires-3 g c =
    let hs = c.self.inside.hosts.items in
    let t = c.self.inside.timeout in
    let i = c.index_of-index.result in
    let k = c.args.node in
    let whole : c.self.inside.is_spent ≡ false = ap (λ (s : plans.OpenHosts). s.is_spent) c.self.view_is ∙ c.requires.whole in
    let ready = c.self.invariant.1 whole in
    let within : i < length hs = omega (arith, c.index_of-index.ensures, places.up_within c.args.self.now.hosts k (among.may_be_up k (length c.args.self.now.hosts) (lists.at_place c.args.self.now.hosts k) c.args.input.now c.requires.may), ap (λ (s : plans.OpenHosts). length s.hosts) c.self.view_is, places.length_hosts (length hs) t 1 hs) in
    omega (arith, within, places.flags_length hs c.self.inside.up.items ready.flags)

pub invariant_of-self-2 : goal.invariant_of-self-2
invariant_of-self-2 g c =
    let hs = c.self.inside.hosts.items in
    let t = c.self.inside.timeout in
    let i = c.index_of-index.result in
    let k = c.args.node in
    let whole : c.self.inside.is_spent ≡ false = ap (λ (s : plans.OpenHosts). s.is_spent) c.self.view_is ∙ c.requires.whole in
    let ready = c.self.invariant.1 whole in
    let place : suc i ≡ k = omega (arith, c.index_of-index.ensures) in
    let within : i < length hs = omega (arith, c.index_of-index.ensures, places.up_within c.args.self.now.hosts k (among.may_be_up k (length c.args.self.now.hosts) (lists.at_place c.args.self.now.hosts k) c.args.input.now c.requires.may), ap (λ (s : plans.OpenHosts). length s.hosts) c.self.view_is, places.length_hosts (length hs) t 1 hs) in
    let h = c.index_mut.result.now in
    let read : slice_get hs i ≡ Some h = slice_get_read hs (length hs) i h refl within c.index_mut.ensures.value in
    let up : views.stands_up h.standing ≡ true = places.up_at t k i hs c.self.inside.is_spent true h c.args.self.now c.self.view_is place read (among.may_be_up k (length c.args.self.now.hosts) (lists.at_place c.args.self.now.hosts k) c.args.input.now c.requires.may) in
    let new = c.serve.new.self in
    let flag : c.is_up.result ≡ views.stands_up new.standing = among.flag_of i hs new c.index.result.now c.is_up.result within (slice_get_read (set hs i new) (length (set hs i new)) i c.index.result.now refl (omega (arith, within, length-set hs i new)) c.index.ensures) c.is_up.ensures in (
      places.within_set t i hs new c.self.invariant.0,
      λ unspent. among.ready_served k i hs c.self.inside.up.items h new c.args.input.now c.in_ok-served.served c.is_up.result place read ready up c.in_ok-served.ensures.served flag,
    )

pub returns-clause-served : goal.returns-clause-served
returns-clause-served g c =
    let hs = c.self.inside.hosts.items in
    let t = c.self.inside.timeout in
    let i = c.index_of-index.result in
    let k = c.args.node in
    let whole : c.self.inside.is_spent ≡ false = ap (λ (s : plans.OpenHosts). s.is_spent) c.self.view_is ∙ c.requires.whole in
    let place : suc i ≡ k = omega (arith, c.index_of-index.ensures) in
    let within : i < length hs = omega (arith, c.index_of-index.ensures, places.up_within c.args.self.now.hosts k (among.may_be_up k (length c.args.self.now.hosts) (lists.at_place c.args.self.now.hosts k) c.args.input.now c.requires.may), ap (λ (s : plans.OpenHosts). length s.hosts) c.self.view_is, places.length_hosts (length hs) t 1 hs) in
    let h = c.index_mut.result.now in
    let read : slice_get hs i ≡ Some h = slice_get_read hs (length hs) i h refl within c.index_mut.ensures.value in
    let up : views.stands_up h.standing ≡ true = places.up_at t k i hs c.self.inside.is_spent true h c.args.self.now c.self.view_is place read (among.may_be_up k (length c.args.self.now.hosts) (lists.at_place c.args.self.now.hosts k) c.args.input.now c.requires.may) in
    among.serves_there t k i hs c.self.inside.is_spent h c.serve.new.self c.args.self.now c.args.input.now c.in_ok-served.served c.self.view_is whole place read up c.in_ok-served.ensures.served

pub returns-clause-matches : goal.returns-clause-matches
returns-clause-matches g c =
    let hs = c.self.inside.hosts.items in
    let t = c.self.inside.timeout in
    let i = c.index_of-index.result in
    let k = c.args.node in
    let xs = c.args.stores.now.items in
    let told = g.S.NodeStore.told in
    let needs = g.S.NodeStore.needs_load in
    let place : suc i ≡ k = omega (arith, c.index_of-index.ensures) in
    let within : i < length hs = omega (arith, c.index_of-index.ensures, places.up_within c.args.self.now.hosts k (among.may_be_up k (length c.args.self.now.hosts) (lists.at_place c.args.self.now.hosts k) c.args.input.now c.requires.may), ap (λ (s : plans.OpenHosts). length s.hosts) c.self.view_is, places.length_hosts (length hs) t 1 hs) in
    let matches : matching.StoresMatch (views.hosts_from (length hs) t 1 hs) (matching.store_states_of told needs xs) = subst (λ (s : plans.OpenHosts). matching.StoresMatch s.hosts (matching.store_states_of told needs xs)) (sym c.self.view_is) c.requires.matches in
    let new = c.serve.new.self in
    let y = c.serve.new.store in
    subst (λ n. matching.StoresMatch (views.hosts_from n t 1 (set hs i new)) (matching.store_states_of told needs (set xs i y))) (sym (length-set hs i new))
    (beside.stores_set told needs (length hs) t k i hs xs new y place matches c.in_ok-served.ensures.matches)
