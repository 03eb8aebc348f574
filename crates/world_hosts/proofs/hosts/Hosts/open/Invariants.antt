use Rattle.world_hosts.proofs.LeaderAmong.{AreOpened}
use Rattle.world_hosts.proofs.hosts.Hosts.open.Given as goal

-- the nodes before this number were opened
abbrev pub invariant-numbers : goal.invariant-numbers
invariant-numbers l = AreOpened l.nodes l.timeout l.number l.hosts.items l.up.items
