use Rattle.std.proofs.Common.{◌≡◌, false}
use Rattle.res_tests.proofs.acts.number.Given as goal

abbrev pub invariant-numbers : goal.invariant-numbers
invariant-numbers l = l.book.is_spent ≡ false
