-- A number is read from its digits.
use Rattle.std.proofs.Common.{◌≡◌, ℕ, suc, ◌+◌, ◌*◌, ◌-◌, ◌/◌, ◌%◌, ◌≤◌, ◌<◌, ◌^◌, ℤ, pos, negsuc, Bool, true, false, nat_lt, lit<, List, [], ◌∷◌, ◌++◌, ap, ◌∙◌, arith}
use Rattle.std.specs.Prelude.{◌==◌, ◌&&◌, Option, Some, None, option_and_then, option_map, if◌then◌else◌}
use Rattle.std.specs.Fmt.{decimal, signed_decimal}
use Rattle.std.proofs.lemmas.Bool.Decides.{nat_tests}
use Rattle.std.proofs.lemmas.Fmt.{decimal_by_steps}
use Rattle.spec_wire.specs.Ranges as ranges
use Rattle.law_report.proofs.Words.{above}
use Rattle.law_report.proofs.Numbers.{decimal-above}
use Rattle.spec_text.specs.Words as words

-- the first digit is not 0
abbrev pub begins : List ℕ → Type 0
begins [] = ⊥
begins (b ∷ bs) = (b == 48) ≡ false

-- digits of a number
pub record IsRead (n : ℕ) (ds : List ℕ) : Type 0 where
  pub whole : words.number_of ds ≡ Some n
  pub on : words.number_on 0 ds ≡ Some n
  pub first : 0 < n → begins ds

is_digit-digit : (d : ℕ) → d < 10 → words.is_digit (48 + d) ≡ true
is_digit-digit d h = grind (arith, nat_tests)

digit_read : (m d : ℕ) → d < 10 → words.number_on m ((48 + d) ∷ []) ≡ Some (m * 10 + d)
digit_read m d h =
    ap (λ v. if v then Some (m * 10 + (48 + d - 48)) else None) (is_digit-digit d h)
    ∙ ap (λ x. Some (m * 10 + x)) (omega arith)

some_same : (y z : ℕ) → Some y ≡ Some z → y ≡ z
some_same y z e = cc

behind : (v : Bool) (o p q : Option ℕ) (x : ℕ) → (o ≡ Some x → p ≡ q) → (if v then o else None) ≡ Some x → (if v then p else None) ≡ q
behind true o p q x f h = f h
behind false o p q x f h = cc

-- reading on behind digits
pub number_on-append : (m x : ℕ) (ds es : List ℕ) → words.number_on m ds ≡ Some x → words.number_on m (ds ++ es) ≡ words.number_on x es
number_on-append m x [] es h = ap (λ y. words.number_on y es) (some_same m x h)
number_on-append m x (b ∷ ds) es h =
    behind (words.is_digit b) (words.number_on (m * 10 + (b - 48)) ds) (words.number_on (m * 10 + (b - 48)) (ds ++ es)) (words.number_on x es) x
    (number_on-append (m * 10 + (b - 48)) x ds es) h

begin-append : (ds es : List ℕ) → begins ds → begins (ds ++ es)
begin-append [] es h = absurd h
begin-append (b ∷ ds) es h = h

-- behind a first digit that is not 0 all digits are read
longer : (ds : List ℕ) (c : ℕ) → begins ds → words.number_of (ds ++ c ∷ []) ≡ words.number_on 0 (ds ++ c ∷ [])
longer [] c h = absurd h
longer (b ∷ []) c h = ap (λ v. if v then None else words.number_on 0 (b ∷ c ∷ [])) h
longer (b ∷ d ∷ ds) c h = ap (λ v. if v then None else words.number_on 0 (b ∷ d ∷ (ds ++ c ∷ []))) h

one_digit : (n : ℕ) → n < 10 → IsRead n ((48 + n) ∷ [])
one_digit n h =
    let read : words.number_on 0 ((48 + n) ∷ []) ≡ Some n = digit_read 0 n h ∙ ap (λ x. Some x) (omega arith) in
    record { whole = read; on = read; first = λ p. grind (arith, nat_tests) }

more_digits : (n : ℕ) (ds : List ℕ) → 10 ≤ n → IsRead (n / 10) ds → IsRead n (ds ++ ((48 + n % 10) ∷ []))
more_digits n ds h r =
    let read : words.number_on 0 (ds ++ ((48 + n % 10) ∷ [])) ≡ Some n =
    number_on-append 0 (n / 10) ds ((48 + n % 10) ∷ []) r.on ∙ digit_read (n / 10) (n % 10) (omega arith) ∙ ap (λ x. Some x) (omega arith) in
    let begin : begins ds = r.first (omega arith) in
    record { whole = longer ds (48 + n % 10) begin ∙ read; on = read; first = λ p. begin-append ds ((48 + n % 10) ∷ []) begin }

pub decimal-read : (n : ℕ) → n < 2 ^ 64 → IsRead n (decimal n)
decimal-read n h = decimal_by_steps IsRead one_digit more_digits n h

pub number-read : (n : ℕ) → n < 2 ^ 64 → words.number_of (decimal n) ≡ Some n
number-read n h = (decimal-read n h).whole

within-read : (low high n : ℕ) → low ≤ n → n ≤ high → words.within low high n ≡ Some n
within-read low high n l h = grind (arith, nat_tests)

-- a number within limits is read from its digits
pub number_within-read : (low high n : ℕ) → high < 2 ^ 64 → (low ≤ n) × (n ≤ high) → words.number_within low high (decimal n) ≡ Some n
number_within-read low high n fits h =
    ap (option_and_then (words.within low high)) (number-read n (omega (arith, h.1))) ∙ within-read low high n h.0 h.1

not_minus : (b : ℕ) (v : Bool) → (nat_lt 46 b && v) ≡ true → (b == 45) ≡ false
not_minus b v h = grind (arith, nat_tests)

signed_plain : (n : ℕ) (ds : List ℕ) → above 46 ds ≡ true → words.number_within 0 (2 ^ 63 - 1) ds ≡ Some n → words.signed_of ds ≡ Some (pos n)
signed_plain n [] h k = cc
signed_plain n (b ∷ ds) h k =
    ap (λ v. if v then option_map words.below_zero (words.number_within 1 (2 ^ 63) ds) else option_map pos (words.number_within 0 (2 ^ 63 - 1) (b ∷ ds))) (not_minus b (above 46 ds) h)
    ∙ ap (option_map pos) k

-- a signed number is read from its digits and its sign
pub signed-read : (z : ℤ) → ranges.IsSigned z → words.signed_of (signed_decimal z) ≡ Some z
signed-read (pos n) h =
    signed_plain n (decimal n) (decimal-above n) (number_within-read 0 (2 ^ 63 - 1) n (lit< tt) (omega arith, omega (arith, h)))
signed-read (negsuc n) h =
    ap (option_map words.below_zero) (number_within-read 1 (2 ^ 63) (suc n) (lit< tt) (omega arith, omega (arith, h)))
    ∙ ap (λ m. Some (negsuc m)) (omega arith)
