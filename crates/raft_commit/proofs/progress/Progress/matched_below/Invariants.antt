use Rattle.std.proofs.Common.{◌≡◌, max, drop}
use Rattle.raft_commit.specs.Peers.{matched_below}
use Rattle.raft_commit.proofs.progress.Progress.matched_below.Given as goal

abbrev pub invariant-peers : goal.invariant-peers
invariant-peers l = max l.greatest (matched_below (drop l.peer-index l.peer-items) l.place) ≡ matched_below l.peer-items l.place
