use Rattle.std.proofs.Common.{◌≡◌, map}
use Rattle.std.specs.List.{list_any}
use Rattle.std.specs.List.Sorted.{IsStrictlySortedBy}
use Rattle.std.specs.BTreeMap.{is_at}
use Rattle.std.specs.Map.Iter.{deref}
use Rattle.res_deadlines.specs.Deadlines as deadlines
use Rattle.res_deadlines.proofs.deadlines.Deadlines.passed.Given as goal

abbrev pub invariant-loop-end : goal.invariant-loop-end
invariant-loop-end g l =
    IsStrictlySortedBy g.K.Ord.cmp l.keys.keys
    × ((key : g.row.K.Denot) → list_any (is_at (g.K.Ord.cmp key)) l.keys.keys ≡ deadlines.has_passed g.K.Ord.cmp l.time (map deref l.yielded) key)
