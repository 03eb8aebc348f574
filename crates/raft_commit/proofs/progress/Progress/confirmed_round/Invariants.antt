use Rattle.std.proofs.Common.{◌≡◌, max, drop}
use Rattle.spec_raft.specs.Progress.{round_among}
use Rattle.raft_commit.proofs.progress.Progress.confirmed_round.Given as goal

abbrev pub invariant-peers : goal.invariant-peers
invariant-peers l = max l.greatest (round_among l.self (drop l.peer-index l.peer-items)) ≡ round_among l.self l.peer-items
