use Rattle.std.proofs.Common.{◌≡◌}
use Rattle.world_seats.specs.Seated as seated
use Rattle.world_seats.proofs.seats.first_seats.Given as goal

abbrev pub invariant-clients : goal.invariant-clients
invariant-clients l = l.seats.items ≡ seated.first_seats l.count
