-- What tests of numbers and of both or either say.
use Rattle.std.proofs.Common.{◌≡◌, ℕ, ◌<◌, ◌≤◌, refl, arith, inl, inr}
use Rattle.std.specs.Prelude.{◌⊎◌, ◌≢◌, Bool, true, false, ◌||◌, ◌&&◌, nat_eq, nat_le, nat_lt}
use Rattle.std.proofs.lemmas.Bool.Decides.{nat_tests}

pub equal : (a b : ℕ) → nat_eq a b ≡ true → a ≡ b
equal a b e = grind (arith, nat_tests)

pub unequal : (a b : ℕ) → nat_eq a b ≡ false → a ≢ b
unequal a b e = grind (arith, nat_tests)

pub at_most : (a b : ℕ) → nat_le a b ≡ true → a ≤ b
at_most a b e = grind (arith, nat_tests)

pub above : (a b : ℕ) → nat_le a b ≡ false → b < a
above a b e = grind (arith, nat_tests)

pub below : (a b : ℕ) → nat_lt a b ≡ true → a < b
below a b e = grind (arith, nat_tests)

pub not_below : (a b : ℕ) → nat_lt a b ≡ false → b ≤ a
not_below a b e = grind (arith, nat_tests)

pub is_equal : (a b : ℕ) → a ≡ b → nat_eq a b ≡ true
is_equal a b e = grind (arith, nat_tests, e)

pub is_unequal : (a b : ℕ) → a ≢ b → nat_eq a b ≡ false
is_unequal a b ne = grind (arith, nat_tests, ne)

pub is_below : (a b : ℕ) → a < b → nat_lt a b ≡ true
is_below a b h = grind (arith, nat_tests)

pub is_not_below : (a b : ℕ) → b ≤ a → nat_lt a b ≡ false
is_not_below a b h = grind (arith, nat_tests)

pub is_at_most : (a b : ℕ) → a ≤ b → nat_le a b ≡ true
is_at_most a b h = grind (arith, nat_tests)

pub either : (a b : Bool) → (a || b) ≡ true → (a ≡ true) ⊎ (b ≡ true)
either true b e = inl refl
either false b e = inr e

pub both : (a b : Bool) → (a && b) ≡ true → (a ≡ true) × (b ≡ true)
both true true e = (e, e)
both true false e = (refl, e)
both false true e = (e, refl)
both false false e = (e, e)

pub off : false ≡ true → ⊥
off e = grind (arith, e)

pub on_or_off : (b : Bool) → (b ≡ true) ⊎ (b ≡ false)
on_or_off true = inl refl
on_or_off false = inr refl
