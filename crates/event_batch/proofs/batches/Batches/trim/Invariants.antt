use Rattle.std.proofs.Common.{◌≡◌, drop}
use Rattle.event_batch.specs.BatchOrder as batch_order
use Rattle.event_batch.proofs.batches.Batches.trim.Given as goal

abbrev pub invariant-loop : goal.invariant-loop
invariant-loop l = batch_order.RiseTo l.self-inside.last l.self-inside.kept.items × (l.self-inside.kept.items ≡ drop l.counter l.initial.self-inside.kept.items) × (l.self-inside.last ≡ l.initial.self-inside.last)
