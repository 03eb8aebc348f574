-- Where nobody is told, nothing changes; else every outbox is open for the place.
use Rattle.std.proofs.Common.{◌≡◌, ◌∙◌, [], sym, ap}
use Rattle.spec_sessions.specs.Outboxes as outboxes
use Rattle.sess_state.proofs.InTurn.{Told, quiet_due, quiet_told, all_open}
use Rattle.sess_state.proofs.telling.tell_all.Goals as goal

pub returns-then-is_empty-clause-batches : goal.returns-then-is_empty-clause-batches
returns-then-is_empty-clause-batches c =
    let none : c.args.told ≡ [] = c.is_empty.ensures.0 c.if-is_empty.true in
    c.new.ensures ∙ sym (ap (λ (ts : Told). outboxes.batches_due c.args.place ts c.args.boxes.now) none ∙ quiet_due c.args.place c.args.boxes.now)

pub returns-then-is_empty-clause-after : goal.returns-then-is_empty-clause-after
returns-then-is_empty-clause-after c =
    let none : c.args.told ≡ [] = c.is_empty.ensures.0 c.if-is_empty.true in
    sym (ap (λ (ts : Told). outboxes.all_told c.args.place ts c.args.boxes.now) none ∙ quiet_told c.args.place c.args.boxes.now)

pub tell_in_order-requires-clause-open : goal.tell_in_order-requires-clause-open
tell_in_order-requires-clause-open c = all_open c.args.place c.in_ok-sorted.sorted.items c.args.boxes.now c.requires.positive c.requires.earlier
