use Rattle.std.proofs.Common.{length, arith, ap}
use Rattle.world_hosts.specs.HostPlans as plans
use Rattle.world_hosts.proofs.HostLists as places
use Rattle.world_hosts.proofs.hosts.Hosts.count.Goals as goal

pub returns-clause-count : goal.returns-clause-count
returns-clause-count c =
    let hs = c.self.inside.hosts.items in
    omega (arith, c.len.ensures, places.length_hosts (length hs) c.self.inside.timeout 1 hs, ap (λ (s : plans.OpenHosts). length s.hosts) c.self.view_is)
