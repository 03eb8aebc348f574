-- The outboxes before the partition point have lower sessions, and those from it on do not.
use Rattle.std.proofs.Common.{◌≡◌, ℕ, ◌<◌, ◌≤◌, ◌∙◌, sym, subst, rules, arith, ltb, true, false, List, length, get_or, position, slice_get, Some, None}
use Rattle.std.specs.List.Sorted.{IsNonDecreasingBy, IsPartitionPoint}
use Rattle.std.proofs.lemmas.Grind.{common_steps}
use Rattle.std.proofs.lemmas.List.Sorted.{IsPartitionPoint-from_clause, IsPartitionedBy-ltb}
use Rattle.spec_sessions.specs.Outboxes as outboxes
use Rattle.sess_state.specs.BoxOrder as box_order
use Rattle.sess_state.proofs.BoxAt.{is_of, sessions_rise, position_where, position_none}
use Rattle.sess_state.proofs.outboxes.Outboxes.index_of.Goals as goal

pub returns-then-is_at : goal.returns-then-is_at
returns-then-is_at c =
    let ascend = subst (λ (bs : List outboxes.Outbox). box_order.Ascend bs) c.self.view_is c.self.invariant in
    sym (position_where c.args.session c.partition_point-index.result c.args.self.now ascend (sym c.is_at.ensures ∙ c.if-is_at.true))

pub returns-else-is_at : goal.returns-else-is_at
returns-else-is_at c =
    let n : ℕ = c.args.session in
    let i : ℕ = c.partition_point-index.result in
    let boxes : List outboxes.Outbox = c.self.inside.boxes.items in
    let seen : c.deref.result.now ≡ boxes = c.deref.ensures.value in
    let rise = subst (λ (bs : List outboxes.Outbox). IsNonDecreasingBy (λ (o : outboxes.Outbox). o.session) bs) (sym seen) (sessions_rise boxes c.self.invariant) in
    let parted = IsPartitionedBy-ltb (λ (o : outboxes.Outbox). o.session) c.deref.result.now n rise in
    let at_seen = IsPartitionPoint-from_clause (λ (o : outboxes.Outbox). ltb o.session n) c.deref.result.now i c.partition_point-index.ensures.partitioned parted (λ a r q k. search rules) in
    let point =
    subst (λ (bs : List outboxes.Outbox). IsPartitionPoint (λ (o : outboxes.Outbox). ltb o.session n ≡ true) (λ (o : outboxes.Outbox). ltb o.session n ≡ false) bs i) seen at_seen in
    let lower : (k : ℕ) (d : outboxes.Outbox) → k < i → k < length boxes → (get_or boxes k d).session < n =
    λ k d lt within. grind (arith, common_steps, point.0 k d (omega arith) lt) in
    let higher : (k : ℕ) (d : outboxes.Outbox) → i ≤ k → k < length boxes → n ≤ (get_or boxes k d).session =
    λ k d le within. grind (arith, common_steps, point.1 k d le within) in
    let apart = subst (λ (bs : List outboxes.Outbox). box_order.is_box_of n (slice_get bs i) ≡ false) (sym c.self.view_is) (sym c.is_at.ensures ∙ c.if-is_at.false) in
    subst (λ (bs : List outboxes.Outbox). None ≡ position (is_of n) bs) c.self.view_is (sym (position_none n i boxes c.self.invariant lower higher apart))
