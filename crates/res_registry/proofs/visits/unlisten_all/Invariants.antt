-- The walk over the names to come, from the book so far, ends as the walk over all names.
use Rattle.std.proofs.Common.{◌≡◌}
use Rattle.res_registry.specs.Walk as walks
use Rattle.res_registry.proofs.visits.unlisten_all.Given as goal

abbrev pub invariant-loop-name : goal.invariant-loop-name
invariant-loop-name l =
    walks.walked_state (walks.unlisten_visit l.session) l.name-iterator l.slots.entries ≡ walks.walked_state (walks.unlisten_visit l.session) l.names l.initial.slots.entries
