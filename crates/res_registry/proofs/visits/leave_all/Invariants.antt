-- The walk over the names to come, from the book so far, ends as the walk over all names, and what is told so far comes before.
use Rattle.std.proofs.Common.{◌≡◌, ◌++◌}
use Rattle.res_registry.specs.Walk as walks
use Rattle.res_registry.proofs.visits.leave_all.Given as goal

abbrev pub invariant-loop-name : goal.invariant-loop-name
invariant-loop-name l =
    (walks.walked_state (walks.leave_visit l.place l.session) l.name-iterator l.slots.entries ≡ walks.walked_state (walks.leave_visit l.place l.session) l.names l.initial.slots.entries)
    × (l.told.items ++ walks.walked_told (walks.leave_visit l.place l.session) l.name-iterator l.slots.entries
    ≡ l.initial.told.items ++ walks.walked_told (walks.leave_visit l.place l.session) l.names l.initial.slots.entries)
