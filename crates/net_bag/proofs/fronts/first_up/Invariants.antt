use Rattle.std.proofs.Common.{◌≡◌, None, drop}
use Rattle.net_bag.specs.Fronts as way_fronts
use Rattle.net_bag.proofs.fronts.first_up.Given as goal

abbrev pub invariant-ways : goal.invariant-ways
invariant-ways l = way_fronts.first_among l.links l.up l.first (drop l.way-index l.ways) ≡ way_fronts.first_among l.links l.up None l.ways
