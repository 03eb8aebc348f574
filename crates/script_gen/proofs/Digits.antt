-- Digits behind a letter are a key and a text.
use Rattle.std.proofs.Common.{◌≡◌, ℕ, ◌+◌, ◌%◌, ◌<◌, ◌≤◌, ◌^◌, Bool, true, List, [], ◌∷◌, ◌++◌, length, arith}
use Rattle.std.specs.Prelude.{IsTrue}
use Rattle.std.specs.Fmt.{decimal}
use Rattle.std.specs.List.{list_all}
use Rattle.std.proofs.lemmas.Bool.Decides.{nat_tests}
use Rattle.std.proofs.lemmas.Fmt.{decimal_by_steps, length-decimal-le}
use Rattle.std.proofs.lemmas.List.Folds.{list_all-append}
use Rattle.ax_types.specs.Letters as letters

-- what passes each digit passes all digits of a number
all_digits : (p : ℕ → Bool) → ((d : ℕ) → d < 10 → p (48 + d) ≡ true) → (n : ℕ) → n < 2 ^ 64 → list_all p (decimal n) ≡ true
all_digits p each = decimal_by_steps (λ m ds. list_all p ds ≡ true)
    (λ m l. one m l)
    (λ m ds l h. more ds (m % 10) (omega arith) h)
  where
    one : (d : ℕ) → d < 10 → list_all p ((48 + d) ∷ []) ≡ true
    one d l = rw (each d l)

    more : (ds : List ℕ) (d : ℕ) → d < 10 → list_all p ds ≡ true → list_all p (ds ++ ((48 + d) ∷ [])) ≡ true
    more ds d l h = rw (list_all-append, h) (one d l)

name_byte : (d : ℕ) → d < 10 → letters.is_name_byte (48 + d) ≡ true
name_byte d h = grind (arith, nat_tests)

text_byte : (d : ℕ) → d < 10 → letters.is_text_byte (48 + d) ≡ true
text_byte d h = grind (arith, nat_tests)

few : (n : ℕ) → n < 2 ^ 32 → length (decimal n) ≤ 10
few n h = length-decimal-le 10 n (omega arith) (omega arith) (omega arith)

pub key_of_number : (n : ℕ) → n < 2 ^ 32 → IsTrue (letters.is_name (107 ∷ decimal n))
key_of_number n h =
    let digits : list_all letters.is_name_byte (decimal n) ≡ true = all_digits letters.is_name_byte name_byte n (omega arith) in
    let short : length (decimal n) ≤ 10 = few n h in
    grind (arith, nat_tests)

pub text_of_number : (n : ℕ) → n < 2 ^ 32 → IsTrue (letters.is_text (118 ∷ decimal n))
text_of_number n h =
    let digits : list_all letters.is_text_byte (decimal n) ≡ true = all_digits letters.is_text_byte text_byte n (omega arith) in
    let short : length (decimal n) ≤ 10 = few n h in
    grind (arith, nat_tests)
