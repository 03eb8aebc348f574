use Rattle.std.proofs.Common.{refl, List}
use Rattle.net_bag.specs.Ways as way_lists
use Rattle.net_bag.proofs.Table.{ways_none}
use Rattle.net_bag.proofs.ways.Ways.new.Goals as goal

pub invariant_of-result : goal.invariant_of-result
invariant_of-result c = rw c.new.ensures.items (ways_none 625 c.no_places.result refl c.no_places.ensures)
