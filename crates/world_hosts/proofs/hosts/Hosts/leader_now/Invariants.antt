use Rattle.std.proofs.Common.{◌≡◌, suc, drop, None}
use Rattle.world_hosts.proofs.LeaderAmong.{lead_from}
use Rattle.world_hosts.proofs.hosts.Hosts.leader_now.Given as goal

-- the leader among those that are left, with the best so far, is the leader among all
abbrev pub invariant-hosts : goal.invariant-hosts
invariant-hosts l = lead_from (suc l.index) l.greatest l.best (drop l.index l.self-inside.hosts.items) ≡ lead_from 1 0 None l.self-inside.hosts.items
