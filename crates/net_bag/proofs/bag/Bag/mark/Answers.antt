use Rattle.net_bag.proofs.Newest.{mark_within}
use Rattle.net_bag.proofs.bag.Bag.mark.Goals as goal

pub invariant_of-self : goal.invariant_of-self
invariant_of-self c = mark_within c.self.inside.packets c.mark.new.self c.args.number c.mark.ensures c.self.invariant
