-- Telling the sessions that are left ends as telling all.
use Rattle.std.proofs.Common.{length}
use Rattle.spec_sessions.specs.Outboxes as outboxes
use Rattle.sess_state.proofs.InTurn.{Turning}
use Rattle.sess_state.proofs.telling.tell_in_order.Given as goal

abbrev pub invariant-sessions : goal.invariant-sessions
invariant-sessions l =
    Turning l.place l.left.items l.boxes l.batches (outboxes.batches_due l.place l.initial.left.items l.initial.boxes) (outboxes.all_told l.place l.initial.left.items l.initial.boxes)

abbrev pub decreases-sessions : goal.decreases-sessions
decreases-sessions l = length l.left.items
