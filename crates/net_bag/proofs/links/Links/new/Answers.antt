use Rattle.std.proofs.Common.{refl}
use Rattle.net_bag.proofs.Cuts.{links_none}
use Rattle.net_bag.proofs.links.Links.new.Goals as goal

pub invariant_of-result : goal.invariant_of-result
invariant_of-result c = links_none _ 625 _ c.no_links.ensures refl c.no_flags.ensures
