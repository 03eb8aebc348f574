use Rattle.std.proofs.Common.{◌≡◌, ◌<◌, ◌∙◌, suc, true, false, Some, length, length-set, set, refl, arith, sym, ap, subst}
use Rattle.std.proofs.lemmas.Option.{slice_get_read}
use Rattle.std.specs.Prelude.{slice_get}
use Rattle.world_hosts.specs.HostPlans as plans
use Rattle.world_hosts.specs.HostViews as views
use Rattle.world_hosts.specs.StoresMatch as matching
use Rattle.world_hosts.specs.declared.host.Host.{Host}
use Rattle.world_hosts.proofs.HostLists as places
use Rattle.world_hosts.proofs.MatchingStores.{same_kept}
use Rattle.world_hosts.proofs.hosts.Hosts.crash.Goals as goal

pub index_mut-requires : goal.index_mut-requires
index_mut-requires c =
    let hs = c.self.inside.hosts.items in
    let whole : c.self.inside.is_spent ≡ false = ap (λ (s : plans.OpenHosts). s.is_spent) c.self.view_is ∙ c.requires.whole in
    omega (
      arith,
      c.index_of-index.ensures,
      places.up_within c.args.self.now.hosts c.args.node c.requires.up,
      ap (λ (s : plans.OpenHosts). length s.hosts) c.self.view_is,
      places.length_hosts (length hs) c.self.inside.timeout 1 hs,
      places.flags_length hs c.self.inside.up.items (c.self.invariant.1 whole).flags,
    )

pub index_mut-requires-2 : goal.index_mut-requires-2
index_mut-requires-2 c =
    let hs = c.self.inside.hosts.items in
    omega (arith, c.index_of-index.ensures, places.up_within c.args.self.now.hosts c.args.node c.requires.up, ap (λ (s : plans.OpenHosts). length s.hosts) c.self.view_is, places.length_hosts (length hs) c.self.inside.timeout 1 hs)

pub invariant_of-self : goal.invariant_of-self
invariant_of-self c =
    let hs = c.self.inside.hosts.items in
    let i = c.index_of-index.result in (
      places.within_set c.self.inside.timeout i hs c.fall.new.self c.self.invariant.0,
      λ whole. places.fallen_ready (suc i) i hs c.self.inside.up.items c.index_mut-2.result.now c.fall.new.self refl c.fall.ensures (c.self.invariant.1 whole),
    )

pub returns-clause-after : goal.returns-clause-after
returns-clause-after c =
    let hs = c.self.inside.hosts.items in
    let t = c.self.inside.timeout in
    let i = c.index_of-index.result in
    let h = c.index_mut-2.result.now in
    let place : suc i ≡ c.args.node = omega (arith, c.index_of-index.ensures) in
    let within : i < length hs = omega (arith, c.index_of-index.ensures, places.up_within c.args.self.now.hosts c.args.node c.requires.up, ap (λ (s : plans.OpenHosts). length s.hosts) c.self.view_is, places.length_hosts (length hs) t 1 hs) in
    let read : slice_get hs i ≡ Some h = slice_get_read hs (length hs) i h refl within c.index_mut-2.ensures.value in
    places.view_after t hs c.self.inside.is_spent c.args.node i h c.fall.new.self (λ s x. plans.fallen_in s c.args.node x) c.args.self.now c.self.view_is place read
    (ap (λ (x : Host). views.host_of (length hs) t c.args.node x) c.fall.ensures ∙ places.fallen_is t c.args.node hs c.self.inside.is_spent h)

pub returns-clause-matches : goal.returns-clause-matches
returns-clause-matches c states m =
    let hs = c.self.inside.hosts.items in
    let t = c.self.inside.timeout in
    let i = c.index_of-index.result in
    let h = c.index_mut-2.result.now in
    let new = c.fall.new.self in
    let place : suc i ≡ c.args.node = omega (arith, c.index_of-index.ensures) in
    let within : i < length hs = omega (arith, c.index_of-index.ensures, places.up_within c.args.self.now.hosts c.args.node c.requires.up, ap (λ (s : plans.OpenHosts). length s.hosts) c.self.view_is, places.length_hosts (length hs) t 1 hs) in
    let read : slice_get hs i ≡ Some h = slice_get_read hs (length hs) i h refl within c.index_mut-2.ensures.value in
    let up : views.stands_up h.standing ≡ true = places.up_at t c.args.node i hs c.self.inside.is_spent true h c.args.self.now c.self.view_is place read c.requires.up in
    let before : matching.StoresMatch (views.hosts_from (length hs) t 1 hs) states = subst (λ (s : plans.OpenHosts). matching.StoresMatch s.hosts states) (sym c.self.view_is) m in
    subst (λ n. matching.StoresMatch (views.hosts_from n t 1 (set hs i new)) states) (sym (length-set hs i new))
    (same_kept (length hs) t c.args.node i hs h new states place read (ap (λ (x : Host). views.kept_for_sure x.standing) c.fall.ensures) (ap (λ (x : Host). views.stake_of x.standing) c.fall.ensures ∙ sym (places.stake_none h.standing up)) (λ u. up) before)
