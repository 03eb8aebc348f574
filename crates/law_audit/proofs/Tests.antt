-- What a claim makes of a test.
use Rattle.std.proofs.lemmas.List.Sums.{sum_by-cons}
use Rattle.std.proofs.Common.{◌≡◌, ℕ, suc, cond, ◌≤◌, ◌<◌, ◌+◌, Bool, true, false, not, ◌&&◌, ◌||◌, List, [], ◌∷◌, ◌++◌, refl, sym, ◌∙◌, arith, count_by, nat_eq, nat_le, nat_lt}
use Rattle.std.specs.Prelude.{if◌then◌else◌}
use Rattle.std.specs.List.{list_any, list_all, AllByRecursion}
use Rattle.std.proofs.lemmas.Bool.Decides.{nat_tests}

pub nat_same : (n : ℕ) → nat_eq n n ≡ true
nat_same n = grind (arith, nat_tests)

pub at_most : (a b : ℕ) → a ≤ b → nat_le a b ≡ true
at_most a b h = grind (arith, nat_tests)

pub is_below : (a b : ℕ) → a < b → nat_lt a b ≡ true
is_below a b h = grind (arith, nat_tests)

pub same_number : (a b : ℕ) → a ≡ b → nat_eq a b ≡ true
same_number a b e = grind (arith, nat_tests, e)

pub equal : (a b : ℕ) → nat_eq a b ≡ true → a ≡ b
equal a b e = grind (arith, nat_tests)

pub both : (a b : Bool) → a ≡ true → b ≡ true → (a && b) ≡ true
both a b p q = rw p q

-- what holds only of one session
pub where_same : (s t : ℕ) (b : Bool) → (s ≡ t → b ≡ true) → (if nat_eq s t then b else true) ≡ true
where_same s t b h = on (nat_eq s t) refl
  where
    on : (c : Bool) → nat_eq s t ≡ c → (if c then b else true) ≡ true
    on true e = h (equal s t e)
    on false e = refl

-- a count is 0 exactly where none passes, and at least 1 where one does
pub count_cons : {A : Type 0} (test : A → Bool) (x : A) (xs : List A) → count_by test (x ∷ xs) ≡ cond (test x) 1 0 + count_by test xs
count_cons test x xs = sum_by-cons (λ y. cond (test y) 1 0) x xs

none_of : (b c : Bool) (n : ℕ) → cond b 1 0 + n ≡ 0 → (n ≡ 0 → c ≡ false) → (b || c) ≡ false
none_of true c n f h = absurd (omega (arith, f))
none_of false c n f h = h (omega (arith, f))

pub none_counted : {A : Type 0} (test : A → Bool) (xs : List A) → count_by test xs ≡ 0 → list_any test xs ≡ false
none_counted test [] e = refl
none_counted test (x ∷ xs) e = none_of (test x) (list_any test xs) (count_by test xs) (sym (count_cons test x xs) ∙ e) (none_counted test xs)

some_of : (b c : Bool) (n m : ℕ) → cond b 1 0 + n ≡ suc m → (n ≡ suc m → c ≡ true) → (b || c) ≡ true
some_of true c n m f h = refl
some_of false c n m f h = h (omega (arith, f))

pub some_counted : {A : Type 0} (test : A → Bool) (xs : List A) (n : ℕ) → count_by test xs ≡ suc n → list_any test xs ≡ true
some_counted test [] n e = absurd (grind (arith, e))
some_counted test (x ∷ xs) n e = some_of (test x) (list_any test xs) (count_by test xs) n (sym (count_cons test x xs) ∙ e) (some_counted test xs n)

pub all_pass : {A : Type 0} (P : A → Type 0) (test : A → Bool) → ((x : A) → P x → test x ≡ true) → (xs : List A) → AllByRecursion P xs → list_all test xs ≡ true
all_pass P test h [] a = refl
all_pass P test h (x ∷ xs) a = both (test x) _ (h x a.0) (all_pass P test h xs a.1)

pub or_left : (a b : Bool) → a ≡ true → (a || b) ≡ true
or_left a b e = rw e refl

pub or_right : (a b : Bool) → b ≡ true → (a || b) ≡ true
or_right true b e = refl
or_right false b e = e

pub any_right : {A : Type 0} (test : A → Bool) (xs ys : List A) → list_any test ys ≡ true → list_any test (xs ++ ys) ≡ true
any_right test [] ys e = e
any_right test (x ∷ xs) ys e = or_right (test x) _ (any_right test xs ys e)

pub first_passes : {A : Type 0} (test : A → Bool) (x : A) (xs : List A) → test x ≡ true → list_any test (x ∷ xs) ≡ true
first_passes test x xs e = rw e refl

pub negated : (b : Bool) → b ≡ false → not b ≡ true
negated b e = rw e refl

pub where_at_most : (a b : ℕ) (c : Bool) → (a ≤ b → c ≡ true) → (if nat_le a b then c else true) ≡ true
where_at_most a b c h = on (nat_le a b) refl
  where
    on : (d : Bool) → nat_le a b ≡ d → (if d then c else true) ≡ true
    on true e = h (grind (arith, nat_tests))
    on false e = refl
