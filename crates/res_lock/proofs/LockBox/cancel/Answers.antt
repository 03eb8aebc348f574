-- A session that goes from the queue leaves the holder apart from it.
use Rattle.res_lock.proofs.Apart.{apart_after_removal}
use Rattle.res_lock.proofs.LockBox.cancel.Goals as goal

pub invariant_of-self : goal.invariant_of-self
invariant_of-self c = rw c.remove.ensures.after (apart_after_removal c.self.inside.holder c.self.inside.waiting c.args.session c.self.invariant)
