use Rattle.std.proofs.Common.{◌≡◌, ◌+◌, drop}
use Rattle.raft_commit.specs.Peers.{peer_index}
use Rattle.raft_commit.proofs.progress.Progress.peer_index.Given as goal

abbrev pub invariant-peers : goal.invariant-peers
invariant-peers l = l.i + peer_index (drop l.i l.self) l.node ≡ peer_index l.self l.node
