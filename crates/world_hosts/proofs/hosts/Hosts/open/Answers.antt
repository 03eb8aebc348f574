use Rattle.std.proofs.Common.{◌+◌, ◌++◌, ◌∷◌, [], refl, sym, subst}
use Rattle.world_hosts.proofs.LeaderAmong.{AreOpened, one_opened}
use Rattle.world_hosts.proofs.hosts.Hosts.open.Goals as goal

pub numbers-preserved : goal.numbers-preserved
numbers-preserved c =
    let h = c.host_at.result in
    subst (λ hs. AreOpened c.args.nodes c.args.timeout (c.numbers.number + 1) hs c.push-in-numbers.new.self.items) (sym c.in_ok-push.ensures.items)
    (subst (λ us. AreOpened c.args.nodes c.args.timeout (c.numbers.number + 1) (c.numbers.hosts.items ++ h ∷ []) us) (sym c.in_ok-push-2.ensures.items)
    (one_opened c.args.nodes c.args.timeout c.numbers.number (c.numbers.number + 1) c.numbers.hosts.items c.numbers.up.items h c.numbers.invariant refl c.host_at.ensures.host c.host_at.ensures.up c.host_at.ensures.whole))
