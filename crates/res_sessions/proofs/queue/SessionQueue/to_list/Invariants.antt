-- What is listed so far, and then what is to come, is the queue.
use Rattle.std.proofs.Common.{◌≡◌, map}
use Rattle.std.specs.Map.Iter.{deref}
use Rattle.res_sessions.proofs.queue.SessionQueue.to_list.Given as goal

abbrev pub invariant-loop-session : goal.invariant-loop-session
invariant-loop-session l = l.sessions ≡ map deref l.yielded
