use Rattle.std.proofs.Common.{◌≡◌, false}
use Rattle.res_tests.proofs.acts.walk.Given as goal

abbrev pub invariant-rows : goal.invariant-rows
invariant-rows g l = l.book.is_spent ≡ false
