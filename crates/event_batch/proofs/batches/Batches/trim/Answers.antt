use Rattle.std.proofs.Common.{◌∙◌, ap, drop, List}
use Rattle.std.proofs.lemmas.List.{drop-drop}
use Rattle.ax_types.specs.declared.entries.Batch.{Batch}
use Rattle.event_batch.proofs.Order.{Rise-drop}
use Rattle.event_batch.proofs.batches.Batches.trim.Goals as goal

pub loop-preserved : goal.loop-preserved
loop-preserved c = (
  rw c.pop_front.ensures.rest (Rise-drop 0 c.loop.self-inside.last 1 c.loop.self-inside.kept.items c.loop.invariant.0),
  c.pop_front.ensures.rest ∙ (ap (λ (bs : List Batch). drop 1 bs) c.loop.invariant.1 ∙ drop-drop 1 c.loop.counter c.self.inside.kept.items),
  c.loop.invariant.2,
)
