use Rattle.std.proofs.Common.{◌≡◌, ◌<◌, ◌∙◌, suc, length, refl, arith, sym, ap}
use Rattle.std.proofs.lemmas.Option.{slice_get_read}
use Rattle.ax_types.specs.Places as lists
use Rattle.world_hosts.specs.HostPlans as plans
use Rattle.world_hosts.proofs.HostLists as places
use Rattle.world_hosts.proofs.hosts.Hosts.clock.Goals as goal

pub index-requires : goal.index-requires
index-requires c =
    let hs = c.self.inside.hosts.items in
    omega (arith, c.index_of.ensures, c.requires, ap (λ (s : plans.OpenHosts). length s.hosts) c.self.view_is, places.length_hosts (length hs) c.self.inside.timeout 1 hs)

pub returns : goal.returns
returns c =
    let hs = c.self.inside.hosts.items in
    let h = c.index.result.now in
    let place : suc c.index_of.result ≡ c.args.node = omega (arith, c.index_of.ensures) in
    let within : c.index_of.result < length hs = omega (arith, c.index_of.ensures, c.requires, ap (λ (s : plans.OpenHosts). length s.hosts) c.self.view_is, places.length_hosts (length hs) c.self.inside.timeout 1 hs) in
    let here = places.host_at (length hs) c.self.inside.timeout c.args.node c.index_of.result hs h place (slice_get_read hs (length hs) c.index_of.result h refl within c.index.ensures) in
    sym (ap plans.clock_in here) ∙ ap (λ (s : plans.OpenHosts). plans.clock_in (lists.at_place s.hosts c.args.node)) c.self.view_is
