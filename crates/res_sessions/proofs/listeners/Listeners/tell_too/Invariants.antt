-- What is told so far, and then what the sessions to come are told, is what all are told.
use Rattle.std.proofs.Common.{◌≡◌, ◌++◌}
use Rattle.spec_book.specs.Resources as resources
use Rattle.res_sessions.proofs.listeners.Listeners.tell_too.Given as goal

abbrev pub invariant-loop-session : goal.invariant-loop-session
invariant-loop-session l = l.told ++ resources.tell l.session-iterator l.event ≡ l.initial.told ++ resources.tell l.self l.event
