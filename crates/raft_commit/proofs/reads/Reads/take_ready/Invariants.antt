use Rattle.std.proofs.Common.{◌≡◌, ◌++◌, drop}
use Rattle.spec_raft.specs.Progress.{ready_reads}
use Rattle.raft_commit.proofs.reads.Reads.take_ready.Given as goal

abbrev pub invariant-reads : goal.invariant-reads
invariant-reads l = l.ready ++ ready_reads (drop l.read-index l.read-items) l.round l.commit ≡ ready_reads l.read-items l.round l.commit
