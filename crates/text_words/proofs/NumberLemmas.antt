use Rattle.std.proofs.Common.{◌≡◌, ℕ, ◌+◌, ◌*◌, ◌-◌, ◌≤◌, ◌<◌, ◌^◌, Bool, true, false, List, [], ◌∷◌, refl, arith, nat_lt, ap}
use Rattle.std.proofs.lemmas.Bool.Decides.{nat_tests}
use Rattle.std.specs.Prelude.{Option, Some, None, MatchOption, ⊤, if◌then◌else◌}
use Rattle.spec_text.specs.Words as words
use Rattle.text_words.specs.Fitting as text_words_fitting

weaken : (o : Option ℕ) (m n : ℕ) → m ≤ n → MatchOption o ⊤ (λ x. n ≤ x) → MatchOption o ⊤ (λ x. m ≤ x)
weaken None m n l h = h
weaken (Some x) m n l h = omega arith

-- reading on never makes a number less
pub number_on-least : (n : ℕ) (bs : List ℕ) → MatchOption (words.number_on n bs) ⊤ (λ x. n ≤ x)
number_on-least n [] = omega arith
number_on-least n (b ∷ bs) = elim (words.is_digit b) as (λ v. MatchOption (if v then words.number_on (n * 10 + (b - 48)) bs else None) ⊤ (λ x. n ≤ x)) [
  | true ↦ weaken (words.number_on (n * 10 + (b - 48)) bs) n (n * 10 + (b - 48)) (omega arith) (number_on-least (n * 10 + (b - 48)) bs)
  | false ↦ tt
]

big : (n x : ℕ) → 2 ^ 64 ≤ n → n ≤ x → nat_lt x (2 ^ 64) ≡ false
big n x l h = grind (arith, nat_tests)

too_big : (n : ℕ) (o : Option ℕ) → 2 ^ 64 ≤ n → MatchOption o ⊤ (λ x. n ≤ x) → text_words_fitting.fitting o ≡ None
too_big n None l h = refl
too_big n (Some x) l h = rw (big n x l h) refl

-- a number that has more than 64 bits stays so
pub fitting-number_on : (n : ℕ) (bs : List ℕ) → 2 ^ 64 ≤ n → text_words_fitting.fitting (words.number_on n bs) ≡ None
fitting-number_on n bs l = too_big n (words.number_on n bs) l (number_on-least n bs)

past : (x : ℕ) → text_words_fitting.fitting (Some x) ≡ None → 2 ^ 64 ≤ x
past x h = grind (arith, nat_tests)

same : (x m : ℕ) → text_words_fitting.fitting (Some x) ≡ Some m → x ≡ m
same x m h = grind (arith, nat_tests)

-- what fits has 64 bits
pub fitting-less : (o : Option ℕ) (m : ℕ) → text_words_fitting.fitting o ≡ Some m → m < 2 ^ 64
fitting-less None m h = cc
fitting-less (Some x) m h = grind (arith, nat_tests)

step_none : (n b : ℕ) (v : Bool) (bs : List ℕ) → text_words_fitting.fitting (if v then Some (n * 10 + (b - 48)) else None) ≡ None
    → text_words_fitting.fitting (if v then words.number_on (n * 10 + (b - 48)) bs else None) ≡ None
step_none n b false bs h = refl
step_none n b true bs h = fitting-number_on (n * 10 + (b - 48)) bs (past (n * 10 + (b - 48)) h)

-- where a digit makes a number too great, or is none, no further bytes make a number
pub fitting-more : (n b : ℕ) (bs : List ℕ) → text_words_fitting.fitting (words.number_on n (b ∷ [])) ≡ None → text_words_fitting.fitting (words.number_on n (b ∷ bs)) ≡ None
fitting-more n b bs h = step_none n b (words.is_digit b) bs h

step_some : (n b m : ℕ) (v : Bool) (bs : List ℕ) → text_words_fitting.fitting (if v then Some (n * 10 + (b - 48)) else None) ≡ Some m
    → (if v then words.number_on (n * 10 + (b - 48)) bs else None) ≡ words.number_on m bs
step_some n b m false bs h = cc
step_some n b m true bs h = ap (λ y. words.number_on y bs) (same (n * 10 + (b - 48)) m h)

-- else the rest is read behind the number that it made
pub number_on-more : (n b m : ℕ) (bs : List ℕ) → text_words_fitting.fitting (words.number_on n (b ∷ [])) ≡ Some m → words.number_on n (b ∷ bs) ≡ words.number_on m bs
number_on-more n b m bs h = step_some n b m (words.is_digit b) bs h
