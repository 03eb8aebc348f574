use Rattle.std.proofs.Common.{◌≡◌, ◌+◌, min, length, arith, nat_lt, ap}
use Rattle.event_batch.proofs.Order.{window-filter}
use Rattle.event_batch.proofs.batches.Batches.after.Goals as goal

pub returns : goal.returns
returns c =
    let start = c.heard_count-start.result in
    let end = c.min-end.result in
    let xs = c.args.self.now.kept in
    let same : length c.self.inside.kept.items ≡ length xs = ap (λ b. length b.kept) c.self.view_is in
    let capped : end ≡ min (length xs) (start + 256) = omega arith in
    window-filter 256 start end c.loop-index.index (λ b. nat_lt c.args.heard b.place) xs c.loop-index.batches c.heard_count-start.ensures.front capped (omega arith) c.loop-index.invariant
