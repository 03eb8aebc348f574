use Rattle.std.proofs.Common.{subst}
use Rattle.world_hosts.specs.HostSteps as host_steps
use Rattle.world_hosts.proofs.Loading.{loads_so, matches_loaded}
use Rattle.world_hosts.proofs.host.Host.load.Goals as goal

pub returns-clause-loaded : goal.returns-clause-loaded
returns-clause-loaded g c =
    let told = g.S.NodeStore.told c.args.store.now in
    loads_so c.args.nodes c.args.timeout c.args.me told (g.S.NodeStore.needs_load c.args.store.now) c.args.self.now c.in-Some.loaded c.added_in-added.result c.restart.result c.requires.matches
    (subst (λ o. host_steps.LoadGives told o) c.in-Some.is c.in_ok-loaded.ensures.loaded) c.added_in-added.ensures c.restart.ensures

pub returns-clause-matches : goal.returns-clause-matches
returns-clause-matches g c =
    let before = g.S.NodeStore.told c.args.store.now in
    let now = g.S.NodeStore.told c.load_store.new.store in
    let needs = g.S.NodeStore.needs_load c.load_store.new.store in
    matches_loaded c.args.nodes c.args.timeout c.args.me before now needs c.in-Some.loaded c.restart.result (subst (λ o. host_steps.LoadGives before o) c.in-Some.is c.in_ok-loaded.ensures.loaded) c.load_store.ensures.told
    (subst (λ o. host_steps.ReadyIfLoaded o needs) c.in-Some.is c.in_ok-loaded.ensures.ready) c.restart.ensures
