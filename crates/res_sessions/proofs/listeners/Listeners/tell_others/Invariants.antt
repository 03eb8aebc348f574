-- What is told so far, and then what the others of the sessions to come are told, is what all others are told.
use Rattle.std.proofs.Common.{◌≡◌, ◌++◌}
use Rattle.std.specs.Ordering.{nat_cmp}
use Rattle.std.specs.List.Sorted.{IsStrictlySortedBy}
use Rattle.spec_book.specs.Dict as dicts
use Rattle.spec_book.specs.Resources as resources
use Rattle.res_sessions.proofs.listeners.Listeners.tell_others.Given as goal

abbrev pub invariant-loop-other : goal.invariant-loop-other
invariant-loop-other l =
    IsStrictlySortedBy nat_cmp l.other-iterator
    × (l.told ++ resources.tell (dicts.without_session l.other-iterator l.session) l.event
    ≡ l.initial.told ++ resources.tell (dicts.without_session l.self l.session) l.event)
