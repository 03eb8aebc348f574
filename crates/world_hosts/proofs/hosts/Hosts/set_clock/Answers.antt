use Rattle.std.proofs.Common.{◌≡◌, ◌<◌, suc, Some, length, length-set, set, refl, arith, sym, ap, subst}
use Rattle.std.proofs.lemmas.Option.{slice_get_read}
use Rattle.std.specs.Prelude.{slice_get}
use Rattle.world_hosts.specs.HostPlans as plans
use Rattle.world_hosts.specs.HostViews as views
use Rattle.world_hosts.specs.StoresMatch as matching
use Rattle.world_hosts.specs.declared.host.Host.{Host}
use Rattle.world_hosts.proofs.HostLists as places
use Rattle.world_hosts.proofs.MatchingStores.{same_kept}
use Rattle.world_hosts.proofs.hosts.Hosts.set_clock.Goals as goal

pub index_mut-requires : goal.index_mut-requires
index_mut-requires c =
    let hs = c.self.inside.hosts.items in
    omega (arith, c.index_of.ensures, c.requires, ap (λ (s : plans.OpenHosts). length s.hosts) c.self.view_is, places.length_hosts (length hs) c.self.inside.timeout 1 hs)

pub invariant_of-self : goal.invariant_of-self
invariant_of-self c =
    let hs = c.self.inside.hosts.items in
    let i = c.index_of.result in
    let h = c.index_mut.result.now in
    let new : Host = record { clock = c.args.time; standing = h.standing } in
    let within : i < length hs = omega (arith, c.index_of.ensures, c.requires, ap (λ (s : plans.OpenHosts). length s.hosts) c.self.view_is, places.length_hosts (length hs) c.self.inside.timeout 1 hs) in
    let read : slice_get hs i ≡ Some h = slice_get_read hs (length hs) i h refl within c.index_mut.ensures.value in
    (places.within_set c.self.inside.timeout i hs new c.self.invariant.0, λ whole. places.ready_same i hs c.self.inside.up.items h new read refl (c.self.invariant.1 whole))

pub returns-clause-after : goal.returns-clause-after
returns-clause-after c =
    let hs = c.self.inside.hosts.items in
    let i = c.index_of.result in
    let h = c.index_mut.result.now in
    let new : Host = record { clock = c.args.time; standing = h.standing } in
    let place : suc i ≡ c.args.node = omega (arith, c.index_of.ensures) in
    let within : i < length hs = omega (arith, c.index_of.ensures, c.requires, ap (λ (s : plans.OpenHosts). length s.hosts) c.self.view_is, places.length_hosts (length hs) c.self.inside.timeout 1 hs) in
    let read : slice_get hs i ≡ Some h = slice_get_read hs (length hs) i h refl within c.index_mut.ensures.value in
    places.view_after c.self.inside.timeout hs c.self.inside.is_spent c.args.node i h new (λ s x. plans.with_clock c.args.time x) c.args.self.now c.self.view_is place read refl

pub returns-clause-matches : goal.returns-clause-matches
returns-clause-matches c states m =
    let hs = c.self.inside.hosts.items in
    let t = c.self.inside.timeout in
    let i = c.index_of.result in
    let h = c.index_mut.result.now in
    let new : Host = record { clock = c.args.time; standing = h.standing } in
    let place : suc i ≡ c.args.node = omega (arith, c.index_of.ensures) in
    let within : i < length hs = omega (arith, c.index_of.ensures, c.requires, ap (λ (s : plans.OpenHosts). length s.hosts) c.self.view_is, places.length_hosts (length hs) c.self.inside.timeout 1 hs) in
    let read : slice_get hs i ≡ Some h = slice_get_read hs (length hs) i h refl within c.index_mut.ensures.value in
    let before : matching.StoresMatch (views.hosts_from (length hs) t 1 hs) states = subst (λ (s : plans.OpenHosts). matching.StoresMatch s.hosts states) (sym c.self.view_is) m in
    subst (λ n. matching.StoresMatch (views.hosts_from n t 1 (set hs i new)) states) (sym (length-set hs i new))
    (same_kept (length hs) t c.args.node i hs h new states place read refl refl (λ u. u) before)
