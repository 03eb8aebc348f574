-- The holder does not wait, so the queue without it is the queue.
use Rattle.std.proofs.Common.{◌≡◌, true, sym, ◌∙◌}
use Rattle.res_lock.proofs.Apart.{apart_after_removal, end_of_holder}
use Rattle.spec_book.specs.Owners as owners
use Rattle.res_lock.proofs.LockBox.end.Goals as goal

pub invariant_of-self : goal.invariant_of-self
invariant_of-self c = rw c.remove.ensures.after (apart_after_removal c.self.inside.holder c.self.inside.waiting c.args.session c.self.invariant)

pub returns-then-is_holder-clause-after : goal.returns-then-is_holder-clause-after
returns-then-is_holder-clause-after c =
    let is : owners.is_holder c.args.self.now.holder c.args.session ≡ true = sym c.is_holder.ensures ∙ c.if-is_holder.true in
    rw (end_of_holder c.args.name.now c.args.place c.args.session c.args.self.now is (rw (← c.self.view_is) c.self.invariant)) c.free.ensures.after
