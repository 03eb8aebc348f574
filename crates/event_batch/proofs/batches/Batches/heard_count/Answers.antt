-- The heard ones stand at the front, since the places rise.
use Rattle.std.proofs.Common.{◌≡◌, ℕ, ◌<◌, ◌≤◌, rules, arith, leb, nat_lt, true, false, List, length}
use Rattle.std.specs.List.{slice_index_or}
use Rattle.std.proofs.lemmas.Grind.{common_steps}
use Rattle.std.proofs.lemmas.List.Sorted.{IsPartitionPoint-from_clause, IsPartitionedBy-leb}
use Rattle.ax_types.specs.declared.entries.Batch.{Batch}
use Rattle.event_batch.proofs.Order.{rising, filter-from}
use Rattle.event_batch.proofs.batches.Batches.heard_count.Goals as goal

pub returns-clause-front : goal.returns-clause-front
returns-clause-front c =
    let bs : List Batch = c.self.inside.kept.items in
    let parted = IsPartitionedBy-leb (λ b. b.place) _ c.args.heard (rising 0 c.self.inside.last bs c.self.invariant) in
    let point = IsPartitionPoint-from_clause (λ b. leb b.place c.args.heard) _ _ c.partition_point.ensures.partitioned parted (λ a r q k. search rules) in
    let fail : (k : ℕ) (d : Batch) → k < c.partition_point.result → k < length bs → nat_lt c.args.heard (slice_index_or bs k d).place ≡ false =
    λ k d lt within. grind (arith, common_steps, point.0 k d (omega arith) lt) in
    let pass : (k : ℕ) (d : Batch) → c.partition_point.result ≤ k → k < length bs → nat_lt c.args.heard (slice_index_or bs k d).place ≡ true =
    λ k d le within. grind (arith, common_steps, point.1 k d le within) in
    rw (← c.self.view_is) (filter-from (λ b. nat_lt c.args.heard b.place) c.partition_point.result bs fail pass)
