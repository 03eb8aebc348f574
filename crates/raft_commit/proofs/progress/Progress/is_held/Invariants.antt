use Rattle.std.proofs.Common.{◌≡◌, ◌+◌, ◌≤◌, drop}
use Rattle.std.specs.Prelude.{nat_le}
use Rattle.spec_raft.specs.Majority.{count}
use Rattle.raft_commit.proofs.progress.Progress.is_held.Given as goal

abbrev pub invariant-peers : goal.invariant-peers
invariant-peers l = (l.held + count (λ p. nat_le l.place p.matched) (drop l.peer-index l.peer-items) ≡ count (λ p. nat_le l.place p.matched) l.peer-items) × (l.held ≤ l.peer-index)
