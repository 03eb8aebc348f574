use Rattle.std.proofs.Common.{◌≡◌, ◌+◌, drop}
use Rattle.spec_raft.specs.Log as logs
use Rattle.raft_log.proofs.log.first_conflict.Given as goal

-- what is left of both lists has the same first conflict
abbrev pub invariant-pairs : goal.invariant-pairs
invariant-pairs l = logs.conflict_after l.prev l.own l.sent ≡ logs.conflict_after (l.prev + l.i) (drop l.i l.own) (drop l.i l.sent)
