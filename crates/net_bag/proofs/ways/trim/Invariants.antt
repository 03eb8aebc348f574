use Rattle.std.proofs.Common.{◌≡◌, length}
use Rattle.net_bag.specs.Ways as way_lists
use Rattle.net_bag.proofs.ways.trim.Given as goal

abbrev pub invariant-numbers : goal.invariant-numbers
invariant-numbers l = way_lists.from_first (way_lists.open_at l.gone l.kept.items) l.waiting.items ≡ way_lists.from_first (way_lists.open_at l.gone l.kept.items) l.initial.waiting.items

abbrev pub decreases-numbers : goal.decreases-numbers
decreases-numbers l = length l.waiting.items
