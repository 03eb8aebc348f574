-- A turn of the session that is told first, and the end.
use Rattle.std.proofs.Common.{◌≡◌, ℕ, ◌<◌, ◌∙◌, ◌++◌, sym, subst, length, List}
use Rattle.ax_types.specs.declared.entries.Batch.{Batch}
use Rattle.ax_types.specs.declared.replies.Event.{Event}
use Rattle.spec_sessions.specs.Outboxes as outboxes
use Rattle.sess_state.specs.Batching as batching
use Rattle.sess_state.proofs.InTurn.{Told, beyond_fewer, turn_step, turn_end}
use Rattle.sess_state.proofs.telling.tell_in_order.Goals as goal

pub sessions-smaller : goal.sessions-smaller
sessions-smaller c =
    let told : Told = c.sessions.left.items in
    subst (λ (ts : Told). length ts < length told) (sym c.in_ok-events.ensures.after)
    (beyond_fewer c.in-Some.session told (sym c.first_session.ensures ∙ c.in-Some.is))

pub sessions-preserved : goal.sessions-preserved
sessions-preserved c =
    let session : ℕ = c.in-Some.session in
    let told : Told = c.sessions.left.items in
    let boxes : List outboxes.Outbox = c.sessions.boxes in
    let batches : List (ℕ × Batch) = c.sessions.batches in
    let more = subst (λ (es : List Event). c.tell_one.new.batches ≡ batches ++ batching.own_batch session (batching.batch_for c.args.place es (outboxes.outbox_of boxes session)))
    c.in_ok-events.ensures.events c.in_ok-tell_one.ensures.batches in
    let later = subst (λ (es : List Event). c.tell_one.new.boxes ≡ outboxes.change_outbox (batching.batched c.args.place es) session boxes)
    c.in_ok-events.ensures.events c.in_ok-tell_one.ensures.boxes in
    turn_step c.args.place session told c.take_foremost.new.told.items boxes c.tell_one.new.boxes batches c.tell_one.new.batches
    (outboxes.batches_due c.args.place c.args.told.items c.args.boxes.now) (outboxes.all_told c.args.place c.args.told.items c.args.boxes.now)
    (sym c.first_session.ensures ∙ c.in-Some.is) c.tell_one.ensures.ascending c.sessions.invariant c.in_ok-events.ensures.after more later

pub returns-clause-batches : goal.returns-clause-batches
returns-clause-batches c =
    (turn_end c.args.place c.sessions.left.items c.sessions.boxes c.sessions.batches
    (outboxes.batches_due c.args.place c.args.told.items c.args.boxes.now) (outboxes.all_told c.args.place c.args.told.items c.args.boxes.now)
    (sym c.first_session.ensures ∙ c.in_default.is) c.sessions.invariant).0

pub returns-clause-after : goal.returns-clause-after
returns-clause-after c =
    (turn_end c.args.place c.sessions.left.items c.sessions.boxes c.sessions.batches
    (outboxes.batches_due c.args.place c.args.told.items c.args.boxes.now) (outboxes.all_told c.args.place c.args.told.items c.args.boxes.now)
    (sym c.first_session.ensures ∙ c.in_default.is) c.sessions.invariant).1
