use Rattle.std.specs.Prelude.{not}
use Rattle.std.proofs.lemmas.List.Filters.{FiltersInPlace}
use Rattle.spec_cluster.specs.Bag as bags
use Rattle.net_bag.proofs.links.keep_others.Given as goal

abbrev pub invariant-links : goal.invariant-links
invariant-links l = FiltersInPlace (λ (k : bags.Link). not (bags.is_between l.one l.other k)) l.initial.links l.links l.kept l.i
