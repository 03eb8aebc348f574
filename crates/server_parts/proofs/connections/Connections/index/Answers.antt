-- The connections before the partition point have lower sessions, and those from it on do not.
use Rattle.std.proofs.Common.{◌≡◌, ℕ, ◌<◌, ◌≤◌, sym, subst, rules, arith, ltb, true, false, List, length, get_or}
use Rattle.std.specs.List.Sorted.{IsNonDecreasingBy, IsPartitionPoint}
use Rattle.std.proofs.lemmas.Grind.{common_steps}
use Rattle.std.proofs.lemmas.List.Sorted.{IsPartitionPoint-from_clause, IsPartitionedBy-ltb}
use Rattle.spec_server.specs.Gates as gates
use Rattle.server_parts.specs.ConnectionOrder as order
use Rattle.server_parts.proofs.ConnectionAt.{sessions_rise, count_is}
use Rattle.server_parts.proofs.connections.Connections.index.Goals as goal

pub returns-clause-index : goal.returns-clause-index
returns-clause-index c =
    let n : ℕ = c.args.session in
    let i : ℕ = c.partition_point.result in
    let cs : List gates.Connection = c.self.inside.all.items in
    let seen : c.deref.result.now ≡ cs = c.deref.ensures.value in
    let rise = subst (λ (bs : List gates.Connection). IsNonDecreasingBy (λ (o : gates.Connection). o.session) bs) (sym seen) (sessions_rise cs c.self.invariant) in
    let parted = IsPartitionedBy-ltb (λ (o : gates.Connection). o.session) c.deref.result.now n rise in
    let at_seen = IsPartitionPoint-from_clause (λ (o : gates.Connection). ltb o.session n) c.deref.result.now i c.partition_point.ensures.partitioned parted (λ a r q k. search rules) in
    let point =
    subst (λ (bs : List gates.Connection). IsPartitionPoint (λ (o : gates.Connection). ltb o.session n ≡ true) (λ (o : gates.Connection). ltb o.session n ≡ false) bs i) seen at_seen in
    let within : i ≤ length cs = subst (λ (bs : List gates.Connection). i ≤ length bs) seen c.partition_point.ensures.bound in
    let lower : (k : ℕ) (d : gates.Connection) → k < i → k < length cs → (get_or cs k d).session < n =
    λ k d lt inner. grind (arith, common_steps, point.0 k d (omega arith) lt) in
    let higher : (k : ℕ) (d : gates.Connection) → i ≤ k → k < length cs → n ≤ (get_or cs k d).session =
    λ k d le inner. grind (arith, common_steps, point.1 k d le inner) in
    subst (λ (bs : List gates.Connection). i ≡ order.connections_below n bs) c.self.view_is (count_is n i cs within lower higher)
