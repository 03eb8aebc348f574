use Rattle.std.proofs.Common.{◌≡◌, ℕ, ◌<◌, ◌≤◌, Some}
use Rattle.std.specs.Prelude.{slice_get}
use Rattle.sess_table.proofs.signs.floor.Given as goal

abbrev pub invariant-loop-sign : goal.invariant-loop-sign
invariant-loop-sign l = (k t : ℕ) → k < l.sign-index → slice_get l.signs k ≡ Some (Some t) → l.floor ≤ t
