-- What tests of numbers and of both say, and a choice by a test.
use Rattle.std.proofs.Common.{◌≡◌, ℕ, ◌<◌, ◌≤◌, refl, arith, inl, inr}
use Rattle.std.specs.Prelude.{◌⊎◌, Bool, true, false, ◌&&◌, nat_eq, nat_le, nat_lt, if◌then◌else◌}
use Rattle.std.proofs.lemmas.Bool.Decides.{nat_tests}

pub by_test : {A : Type 0} (P : A → Type 0) (b : Bool) (x y : A) → (b ≡ true → P x) → (b ≡ false → P y) → P (if b then x else y)
by_test P true x y p q = p refl
by_test P false x y p q = q refl

pub on_or_off : (b : Bool) → (b ≡ true) ⊎ (b ≡ false)
on_or_off true = inl refl
on_or_off false = inr refl

pub off : true ≡ false → ⊥
off e = grind (arith, e)

pub on : false ≡ true → ⊥
on e = grind (arith, e)

pub equal : (a b : ℕ) → nat_eq a b ≡ true → a ≡ b
equal a b e = grind (arith, nat_tests)

pub is_equal : (a b : ℕ) → a ≡ b → nat_eq a b ≡ true
is_equal a b e = grind (arith, nat_tests, e)

pub is_unequal : (a b : ℕ) → (a ≡ b → ⊥) → nat_eq a b ≡ false
is_unequal a b ne = grind (arith, nat_tests, ne)

pub unequal : (a b : ℕ) → nat_eq a b ≡ false → a ≡ b → ⊥
unequal a b e same = grind (arith, nat_tests, e, same)

pub not_below : (a b : ℕ) → nat_lt a b ≡ false → b ≤ a
not_below a b e = grind (arith, nat_tests)

pub above : (a b : ℕ) → nat_le a b ≡ false → b < a
above a b e = grind (arith, nat_tests)

pub is_at_most : (a b : ℕ) → a ≤ b → nat_le a b ≡ true
is_at_most a b h = grind (arith, nat_tests)

pub is_above : (a b : ℕ) → b < a → nat_le a b ≡ false
is_above a b h = grind (arith, nat_tests)

pub is_below : (a b : ℕ) → a < b → nat_lt a b ≡ true
is_below a b h = grind (arith, nat_tests)

pub is_not_below : (a b : ℕ) → b ≤ a → nat_lt a b ≡ false
is_not_below a b h = grind (arith, nat_tests)

pub both : (a b : Bool) → (a && b) ≡ true → (a ≡ true) × (b ≡ true)
both true true e = (refl, refl)
both true false e = absurd (on e)
both false b e = absurd (on e)
