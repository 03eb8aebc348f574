-- Sessions ascend without one of them.
use Rattle.sess_state.proofs.BoxAt.{Ascend-remove}
use Rattle.sess_state.proofs.outboxes.Outboxes.remove.Goals as goal

pub invariant_of-self : goal.invariant_of-self
invariant_of-self c = rw c.remove.ensures.items (Ascend-remove c.self.inside.boxes.items c.in-Some.index c.self.invariant)
