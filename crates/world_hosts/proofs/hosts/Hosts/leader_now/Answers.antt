use Rattle.std.proofs.Common.{◌∙◌, sym, arith}
use Rattle.world_hosts.proofs.LeaderAmong.{lead_end, lead_in}
use Rattle.world_hosts.proofs.hosts.Hosts.leader_now.Goals as goal

pub returns : goal.returns
returns c =
    let hs = c.self.inside.hosts.items in
    sym (lead_end c.hosts.index c.hosts.greatest c.hosts.best hs (omega (arith, c.hosts-test.false, c.len-index-end.ensures)))
    ∙ c.hosts.invariant
    ∙ lead_in c.self.inside.timeout hs c.self.inside.is_spent c.args.self.now c.self.view_is
