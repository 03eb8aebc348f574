use Rattle.std.proofs.Common.{◌≡◌, take}
use Rattle.raft_log.proofs.log.copies.Given as goal

abbrev pub invariant-entries : goal.invariant-entries
invariant-entries l = l.others.items ≡ take l.entry-index l.entries
