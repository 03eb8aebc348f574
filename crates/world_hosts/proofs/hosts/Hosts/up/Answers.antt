use Rattle.std.proofs.Common.{◌≡◌, ◌∙◌, false, length, ap}
use Rattle.ax_types.specs.Places as lists
use Rattle.net_bag.specs.Reasons as reasons
use Rattle.spec_world.specs.Worlds as worlds
use Rattle.world_hosts.specs.HostPlans as plans
use Rattle.world_hosts.proofs.HostLists as places
use Rattle.world_hosts.proofs.hosts.Hosts.up.Goals as goal

pub returns : goal.returns
returns c =
    let hs = c.self.inside.hosts.items in
    let whole : c.self.inside.is_spent ≡ false = ap (λ (s : plans.OpenHosts). s.is_spent) c.self.view_is ∙ c.requires in
    ap reasons.nodes_up c.as_slice.ensures.value
    ∙ places.nodes_up_are (length hs) c.self.inside.timeout hs c.self.inside.up.items (c.self.invariant.1 whole).flags
    ∙ ap (λ (s : plans.OpenHosts). lists.numbers_passing (λ (h : worlds.Host). h.is_up) 1 s.hosts) c.self.view_is
