use Rattle.std.proofs.Common.{◌≡◌, drop, take}
use Rattle.event_batch.proofs.batches.Batches.after.Given as goal

abbrev pub invariant-loop-index : goal.invariant-loop-index
invariant-loop-index l = l.batches ≡ drop l.start (take l.index l.self.kept)
