use Rattle.std.proofs.Common.{◌≡◌}
use Rattle.spec_world.specs.Moves as moves
use Rattle.world_seats.proofs.shown.with_shown.Given as goal

abbrev pub invariant-items : goal.invariant-items
invariant-items g l = l.shown.items ≡ moves.with_shown l.me l.watches l.yielded
