-- The seat, the pump and the words agree.
use Rattle.std.proofs.Common.{◌≡◌, ◌≤◌, ◌⊎◌, inl, ℕ, zero, suc, ◌+◌, nat_eq, nat_lt, Option, Some, List, [], ◌∷◌, if◌then◌else◌, refl, rules, arith}
use Rattle.std.proofs.lemmas.Bool.Decides.{nat_tests}
use Rattle.ax_types.specs.declared.replies.Outcome.{Outcome}
use Rattle.ax_types.specs.declared.replies.Outcome.TheVariants as outcome
use Rattle.spec_window.specs.Views as views
use Rattle.spec_window.specs.WindowAgreement as agreement
use Rattle.rows_window.specs.ClosedWindow as closed_window

once : (n : ℕ) → agreement.times_drawn n (closed_window.seat ∷ []) ≡ (if nat_lt n 1 then 1 else 0)
once zero = refl
once (suc zero) = refl
once (suc (suc n)) = grind (arith, nat_tests)

given_once : (n : ℕ) → agreement.times_given n closed_window.pump ≤ 1
given_once zero = search rules
given_once (suc n) = search rules

pub agreed : agreement.IsAgreed 2 closed_window.pump (closed_window.seat ∷ []) closed_window.last_loads
agreed = record {
  once = once;
  rising = search rules;
  seen = search rules;
  taken = search rules;
  given_once = given_once;
  given_taken = search rules;
  served = search rules;
  drawn_words = search rules;
  given_words = search rules;
}
