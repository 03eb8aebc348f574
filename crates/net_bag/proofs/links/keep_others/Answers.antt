use Rattle.std.proofs.Common.{◌≡◌, ◌<◌, ◌∙◌, Bool, true, false, length, arith, sym, ap}
use Rattle.std.specs.Prelude.{not}
use Rattle.std.proofs.lemmas.List.Filters.{FiltersInPlace-more_set, FiltersInPlace-more_no, FiltersInPlace-all}
use Rattle.net_bag.proofs.links.keep_others.Goals as goal
use Rattle.net_bag.proofs.links.keep_others.Goals.{then-not-is_between, else-not-is_between}

pub links-preserved : goal.links-preserved
links-preserved c = elim c.if-not-is_between.branch [
  | then-not-is_between w ↦ rw (w.links-is, w.kept-is) (FiltersInPlace-more_set c.links.invariant (omega arith) (ap not (sym c.is_between.ensures ∙ w.if-not-is_between.true)) c.index-links-i.is)
  | else-not-is_between w ↦ rw (w.links-is, w.kept-is) (FiltersInPlace-more_no c.links.invariant (omega arith) (ap not (sym c.is_between.ensures ∙ w.if-not-is_between.false)) c.index-links-i.is)
]
