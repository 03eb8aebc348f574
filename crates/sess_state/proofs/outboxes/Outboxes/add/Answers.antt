-- The new session is above all others.
use Rattle.std.proofs.Common.{◌<◌, List, subst, sym}
use Rattle.std.specs.List.{AllByRecursion}
use Rattle.spec_sessions.specs.Outboxes as outboxes
use Rattle.sess_state.specs.BoxOrder as box_order
use Rattle.sess_state.proofs.BoxAt.{Ascend-push}
use Rattle.sess_state.proofs.outboxes.Outboxes.add.Goals as goal

pub invariant_of-self-2 : goal.invariant_of-self-2
invariant_of-self-2 c =
    let below = subst (λ (bs : List outboxes.Outbox). AllByRecursion (λ (o : outboxes.Outbox). o.session < c.args.session) bs) (sym c.self.view_is) c.requires in
    rw (c.in_ok-push.ensures.items, c.new.ensures) (Ascend-push c.self.inside.boxes.items (outboxes.new_outbox c.args.session) below c.self.invariant)
