use Rattle.std.proofs.Common.{◌≡◌, ◌-◌}
use Rattle.spec_raft.specs.Progress.{progress_of}
use Rattle.raft_commit.proofs.progress.Progress.new.Given as goal

abbrev pub invariant-nodes : goal.invariant-nodes
invariant-nodes l = l.progress ≡ progress_of l.me (l.number - 1) l.first
