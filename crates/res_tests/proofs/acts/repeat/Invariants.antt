use Rattle.std.proofs.Common.{◌≡◌, false}
use Rattle.res_tests.proofs.acts.repeat.Given as goal

abbrev pub invariant-sessions : goal.invariant-sessions
invariant-sessions l = l.book.is_spent ≡ false
