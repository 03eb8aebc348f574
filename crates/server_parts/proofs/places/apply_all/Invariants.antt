-- What is done so far, and then all that is left, is what is to be done.
use Rattle.server_parts.proofs.PlacesApplied.{SoFar}
use Rattle.server_parts.proofs.places.apply_all.Given as goal

abbrev pub invariant-places : goal.invariant-places
invariant-places l = SoFar l.raft l.connections l.initial.state l.initial.packets l.state l.packets l.acts l.before
