use Rattle.std.proofs.Common.{◌≡◌, ◌+◌, ◌-◌, ◌++◌, suc, length, take, drop, map}
use Rattle.spec_cluster.specs.Bag as bags
use Rattle.net_bag.proofs.packets.first_items.Given as goal

abbrev pub invariant-slots : goal.invariant-slots
invariant-slots l = l.items ++ map bags.pending_item (take (l.most - length l.items) (bags.unmarked_from (suc (l.gone + l.i)) (drop l.i l.kept.items))) ≡ map bags.pending_item (take l.most (bags.unmarked_from (suc l.gone) l.kept.items))
