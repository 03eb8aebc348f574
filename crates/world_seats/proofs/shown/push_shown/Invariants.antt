use Rattle.std.proofs.Common.{◌≡◌, ◌++◌, ◌∷◌}
use Rattle.world_seats.proofs.shown.push_shown.Given as goal

abbrev pub invariant-below : goal.invariant-below
invariant-below g l = l.shown.items ≡ l.fn.shown.items ++ l.fn.item ∷ l.yielded
