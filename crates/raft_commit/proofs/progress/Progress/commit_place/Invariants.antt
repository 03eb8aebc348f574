use Rattle.std.proofs.Common.{◌≡◌, ◌-◌}
use Rattle.spec_raft.specs.Progress.{greatest, may_commit, commit_place}
use Rattle.raft_commit.proofs.progress.Progress.commit_place.Given as goal

abbrev pub invariant-places : goal.invariant-places
invariant-places l = commit_place l.self l.log l.term l.commit ≡ greatest (may_commit l.self l.log l.term) l.commit (l.place - l.commit)

abbrev pub decreases-places : goal.decreases-places
decreases-places l = l.place
