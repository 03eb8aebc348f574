-- A number is read back from its digits.
use Rattle.std.proofs.Common.{◌≡◌, ℕ, zero, suc, ◌+◌, ◌-◌, ◌%◌, ◌/◌, Bool, true, false, nat_eq, nat_lt, cond, if◌then◌else◌, ℤ, pos, negsuc, slice_index_or, List, [], ◌∷◌, drop, refl, ap, ◌∙◌, arith}
use Rattle.std.proofs.lemmas.Bool.Decides.{nat_tests}
use Rattle.std.proofs.lemmas.Fmt.{decimal_is_IsNumeral}
use Rattle.std.specs.Fmt.{digits, digits_onto, digit_glyph, decimal, signed_decimal}
use Rattle.std.specs.Str.Parse.{digits_value}
use Rattle.std.specs.List.{list_all}
use Rattle.ax_types.specs.Letters as letters
use Rattle.spec_wire.specs.Ranges as ranges
use Rattle.law_report.proofs.Words.{above, lacks, above-lacks, all-weaker, both, and_second, IsLine, word}

-- the number of digits
abbrev pub number_back : List ℕ → ℕ
number_back ds = digits_value 10 ds

pub number-back : (n : ℕ) → ranges.IsNumber n → number_back (decimal n) ≡ n
number-back n h = (decimal_is_IsNumeral n h).1

pub life_is_number : (n : ℕ) → ranges.IsLife n → ranges.IsNumber n
life_is_number n h = omega (arith, h.1)

glyph_is_above : (d : ℕ) (b : Bool) → nat_lt 46 (cond b (48 + d) (87 + d)) ≡ true
glyph_is_above d true = grind (arith, nat_tests)
glyph_is_above d false = grind (arith, nat_tests)

choice_is_above : (b : Bool) (xs ys : List ℕ) → above 46 xs ≡ true → above 46 ys ≡ true → above 46 (if b then xs else ys) ≡ true
choice_is_above true xs ys h k = h
choice_is_above false xs ys h k = k

digits_are_above : (k n : ℕ) (acc : List ℕ) → above 46 acc ≡ true → above 46 (digits_onto k 10 false n acc) ≡ true
digits_are_above zero n acc h = h
digits_are_above (suc k) n acc h =
    let more = both (nat_lt 46 (digit_glyph false (n % 10))) (above 46 acc) (glyph_is_above (n % 10) (nat_lt (n % 10) 10)) h in
    choice_is_above (nat_eq (n / 10) 0) (digit_glyph false (n % 10) ∷ acc) _ more
    (digits_are_above k (n / 10) (digit_glyph false (n % 10) ∷ acc) more)

-- a digit is above `-` and `.`
pub decimal-above : (n : ℕ) → above 46 (decimal n) ≡ true
unfolding digits
decimal-above n = digits_are_above 64 n [] refl

pub signed_decimal-above : (z : ℤ) → above 32 (signed_decimal z) ≡ true
signed_decimal-above (pos n) = all-weaker (nat_lt 46) (nat_lt 32) (λ x e. grind (arith, nat_tests)) (decimal n) (decimal-above n)
signed_decimal-above (negsuc n) =
    all-weaker (nat_lt 46) (nat_lt 32) (λ x e. grind (arith, nat_tests)) (decimal (suc n)) (decimal-above (suc n))

-- the signed number of digits, which a `-` may precede
abbrev pub integer_back : List ℕ → ℤ
integer_back bs = cond (lacks 45 bs) (pos (number_back bs)) (negsuc (number_back (drop 1 bs) - 1))

pub integer-back : (z : ℤ) → ranges.IsSigned z → integer_back (signed_decimal z) ≡ z
integer-back (pos n) h =
    rw (above-lacks 46 45 refl (decimal n) (decimal-above n)) (ap (λ m. pos m) (number-back n (omega (arith, h))))
integer-back (negsuc n) h =
    ap (λ m. negsuc (m - 1)) (number-back (suc n) (omega (arith, h))) ∙ ap (λ m. negsuc m) (omega arith)

-- ---- the words of a line

pub number_line : (n : ℕ) → IsLine (decimal n) (decimal n ∷ [])
number_line n = word (decimal n) (all-weaker (nat_lt 46) (nat_lt 32) (λ x e. grind (arith, nat_tests)) (decimal n) (decimal-above n))

pub integer_line : (z : ℤ) → IsLine (signed_decimal z) (signed_decimal z ∷ [])
integer_line z = word (signed_decimal z) (signed_decimal-above z)

name_byte_is_above : (b : ℕ) → letters.is_name_byte b ≡ true → nat_lt 32 b ≡ true
name_byte_is_above b h = grind (arith, nat_tests)

text_byte_is_above : (b : ℕ) → letters.is_text_byte b ≡ true → nat_lt 32 b ≡ true
text_byte_is_above b h = grind (arith, nat_tests)

pub name_line : (bs : List ℕ) → ranges.IsName bs → IsLine bs (bs ∷ [])
name_line bs h = word bs (all-weaker letters.is_name_byte (nat_lt 32) name_byte_is_above bs (and_second _ (list_all letters.is_name_byte bs) h))

pub text_line : (bs : List ℕ) → ranges.IsText bs → IsLine bs (bs ∷ [])
text_line bs h = word bs (all-weaker letters.is_text_byte (nat_lt 32) text_byte_is_above bs (and_second _ (list_all letters.is_text_byte bs) h))

-- ---- the first byte of a number

glyph_is_digit : (n : ℕ) → nat_lt (digit_glyph false (n % 10)) 58 ≡ true
glyph_is_digit n = grind (arith, nat_tests)

choice_is_digit : (b : Bool) (xs ys : List ℕ) → nat_lt (slice_index_or xs 0 100) 58 ≡ true → nat_lt (slice_index_or ys 0 100) 58 ≡ true → nat_lt (slice_index_or (if b then xs else ys) 0 100) 58 ≡ true
choice_is_digit true xs ys h k = h
choice_is_digit false xs ys h k = k

digits_begin : (k n x : ℕ) (acc : List ℕ) → nat_lt x 58 ≡ true → nat_lt (slice_index_or (digits_onto k 10 false n (x ∷ acc)) 0 100) 58 ≡ true
digits_begin zero n x acc h = h
digits_begin (suc k) n x acc h =
    choice_is_digit (nat_eq (n / 10) 0) (digit_glyph false (n % 10) ∷ x ∷ acc) _ (glyph_is_digit n)
    (digits_begin k (n / 10) (digit_glyph false (n % 10)) (x ∷ acc) (glyph_is_digit n))

-- a number begins with a byte below 58
pub decimal-begins : (n : ℕ) → nat_lt (slice_index_or (decimal n) 0 100) 58 ≡ true
unfolding digits
decimal-begins n =
    choice_is_digit (nat_eq (n / 10) 0) (digit_glyph false (n % 10) ∷ []) _ (glyph_is_digit n)
    (digits_begin 63 (n / 10) (digit_glyph false (n % 10)) [] (glyph_is_digit n))
