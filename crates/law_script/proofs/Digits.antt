-- A number is read from its digits alone.
use Rattle.std.proofs.Common.{◌≡◌, ℕ, ◌+◌, ◌*◌, ◌-◌, ◌<◌, ◌^◌, Bool, true, false, List, [], ◌∷◌, length, get_or, refl, ap, sym, ◌∙◌, subst, arith}
use Rattle.std.specs.Prelude.{◌==◌, ◌↔◌, Some, None, if◌then◌else◌}
use Rattle.std.specs.Char.{digit_value}
use Rattle.std.specs.Fmt.{decimal}
use Rattle.std.specs.Int.{IsInRange}
use Rattle.std.specs.Str.Parse.{AllDigits, digits_value, digits_value_after}
use Rattle.std.proofs.lemmas.Bool.Decides.{nat_tests}
use Rattle.std.proofs.lemmas.Fmt.{decimal-digits_value}
use Rattle.std.proofs.lemmas.Str.{digit_value_digit}
use Rattle.std.proofs.lemmas.Str.Parse.{IsNumeralModel, numerals_by_value, tells_digits}
use Rattle.spec_text.specs.Words as words
use Rattle.law_script.proofs.Numbers.{number-read}

-- digits, and the number that they make behind those that made m
pub record Makes (m : ℕ) (ds : List ℕ) (n : ℕ) : Type 0 where
  pub digits : AllDigits 10 ds
  pub value : digits_value_after 10 m ds ≡ n

same : (y z : ℕ) → Some y ≡ Some z → y ≡ z
same y z e = cc

in_range : (b : ℕ) → words.is_digit b ≡ true → IsInRange 48 57 b
in_range b h = grind (arith, nat_tests)

value_of : (b : ℕ) → words.is_digit b ≡ true → digit_value b ≡ b - 48
value_of b h =
    let e : digit_value b + 48 ≡ b = digit_value_digit b (in_range b h) in
    omega arith

more : (m b : ℕ) (bs : List ℕ) (n : ℕ) → words.is_digit b ≡ true → Makes (m * 10 + (b - 48)) bs n → Makes m (b ∷ bs) n
more m b bs n d r =
    let e : digit_value b ≡ b - 48 = value_of b d in
    let r10 : IsInRange 48 57 b = in_range b d in
    record { digits = (omega (arith, r10.0, r10.1), r.digits); value = ap (λ x. digits_value_after 10 (m * 10 + x) bs) e ∙ r.value }

digit_or_not : (m b : ℕ) (bs : List ℕ) (n : ℕ) (v : Bool) → words.is_digit b ≡ v → ((o : words.number_on (m * 10 + (b - 48)) bs ≡ Some n) → Makes (m * 10 + (b - 48)) bs n)
    → (if v then words.number_on (m * 10 + (b - 48)) bs else None) ≡ Some n → Makes m (b ∷ bs) n
digit_or_not m b bs n true d f h = more m b bs n d (f h)
digit_or_not m b bs n false d f h = cc

pub number_on-makes : (m : ℕ) (ds : List ℕ) (n : ℕ) → words.number_on m ds ≡ Some n → Makes m ds n
number_on-makes m [] n h = record { digits = tt; value = same m n h }
number_on-makes m (b ∷ bs) n h = digit_or_not m b bs n (words.is_digit b) refl (number_on-makes (m * 10 + (b - 48)) bs n) h

own : IsNumeralModel (AllDigits 10) (digits_value 10)
own = numerals_by_value (AllDigits 10) tells_digits

written : (ds : words.Word) (n : ℕ) → n < 2 ^ 64 → 0 < length ds → (get_or ds 0 0 ≡ 48 → length ds ≡ 1) → words.number_on 0 ds ≡ Some n → ds ≡ decimal n
written ds n fits some first h =
    let made : Makes 0 ds n = number_on-makes 0 ds n h in
    let small : digits_value 10 ds < 2 ^ 64 = subst (λ (x : ℕ). x < 2 ^ 64) (sym made.value) fits in
    sym (decimal-digits_value own ds made.digits some first small) ∙ ap decimal made.value

zero_first : (b c : ℕ) (bs : List ℕ) (n : ℕ) (v : Bool) → (b == 48) ≡ v → (if v then None else words.number_on 0 (b ∷ c ∷ bs)) ≡ Some n
    → (b ≡ 48 → ⊥) × (words.number_on 0 (b ∷ c ∷ bs) ≡ Some n)
zero_first b c bs n true e h = cc
zero_first b c bs n false e h = (λ z. let one : (b == 48) ≡ true = grind (arith, nat_tests) in let bad : true ≡ false = sym one ∙ e in cc, h)

pub decimal-from_number : (w : words.Word) (n : ℕ) → n < 2 ^ 64 → words.number_of w ≡ Some n → w ≡ decimal n
decimal-from_number [] n fits h = cc
decimal-from_number (b ∷ []) n fits h = written (b ∷ []) n fits (omega arith) (λ e. refl) h
decimal-from_number (b ∷ c ∷ bs) n fits h =
    let r = zero_first b c bs n (b == 48) refl h in
    written (b ∷ c ∷ bs) n fits (omega arith) (λ e. absurd (r.0 e)) r.1

pub number-decimal : (w : words.Word) (n : ℕ) → n < 2 ^ 64 → (words.number_of w ≡ Some n) ↔ (w ≡ decimal n)
number-decimal w n fits = (decimal-from_number w n fits, λ e. ap words.number_of e ∙ number-read n fits)
