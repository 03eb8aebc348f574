use Rattle.std.proofs.Common.{◌<◌, ap, refl}
use Rattle.event_batch.proofs.Order.{Rise-push}
use Rattle.event_batch.proofs.batches.Batches.append.Goals as goal

pub invariant_of-self-2 : goal.invariant_of-self-2
invariant_of-self-2 c =
    let later : c.self.inside.last < c.args.place = rw (ap (λ b. b.last) c.self.view_is) c.requires in
    rw c.in_ok-push_back.ensures.items (Rise-push 0 c.self.inside.last c.args.place c.self.inside.kept.items _ c.self.invariant later refl)
