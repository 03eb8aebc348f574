use Rattle.std.proofs.Common.{◌≡◌, map}
use Rattle.spec_world.specs.Moves as moves
use Rattle.world_seats.proofs.given.packets_from.Given as goal

abbrev pub invariant-sends : goal.invariant-sends
invariant-sends l = l.packets.items ≡ map (moves.from_client l.me) l.yielded
