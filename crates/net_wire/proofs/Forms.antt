-- Letters of a form, counted, are such letters one by one; and eight bytes that are padded.
use Rattle.std.proofs.Common.{◌≡◌, ℕ, ◌≤◌, List, [], ◌∷◌, ◌++◌, length, take, replicate, refl, sym, ap, ◌∙◌, get_or, arith}
use Rattle.std.proofs.lemmas.List.{take-append-le}
use Rattle.std.specs.Int.{w64, from_be_bytes}
use Rattle.std.proofs.lemmas.Grind.{common_steps}
use Rattle.ax_types.specs.Letters as ax_types_letters
use Rattle.spec_reading.specs.Reading as reading
use Rattle.net_wire.specs.ReaderCalls.{form_at}

-- the letters at the front of bytes, padded
pub eight_padded : (byte : ℕ) (bytes : List ℕ) → take 8 (bytes ++ replicate 8 byte)
    ≡ get_or bytes 0 byte ∷ get_or bytes 1 byte ∷ get_or bytes 2 byte ∷ get_or bytes 3 byte ∷ get_or bytes 4 byte ∷ get_or bytes 5 byte ∷ get_or bytes 6 byte ∷ get_or bytes 7 byte ∷ []
eight_padded byte [] = refl
eight_padded byte (a ∷ []) = refl
eight_padded byte (a ∷ b ∷ []) = refl
eight_padded byte (a ∷ b ∷ c ∷ []) = refl
eight_padded byte (a ∷ b ∷ c ∷ d ∷ []) = refl
eight_padded byte (a ∷ b ∷ c ∷ d ∷ e ∷ []) = refl
eight_padded byte (a ∷ b ∷ c ∷ d ∷ e ∷ f ∷ []) = refl
eight_padded byte (a ∷ b ∷ c ∷ d ∷ e ∷ f ∷ g ∷ []) = refl
eight_padded byte (a ∷ b ∷ c ∷ d ∷ e ∷ f ∷ g ∷ h ∷ bytes) = refl

-- where no byte lacks, what stands for one that lacks does not count
pub padded_same : (byte : ℕ) (bytes : List ℕ) → 8 ≤ length bytes → reading.padded_number byte bytes ≡ reading.padded_number 0 bytes
padded_same byte bytes long = ap (from_be_bytes w64) (take-append-le 8 bytes (replicate 8 byte) long ∙ sym (take-append-le 8 bytes (replicate 8 0) long))

pub name_letters : (count : ℕ) (bytes : List ℕ) → 1 ≤ count → count ≤ 32
    → form_at ax_types_letters.is_name count bytes ≡ reading.letters_at ax_types_letters.is_name_byte count bytes
unfolding form_at reading.letters_at
name_letters count bytes least most = grind (arith, common_steps)

pub text_letters : (count : ℕ) (bytes : List ℕ) → 1 ≤ count → count ≤ 64
    → form_at ax_types_letters.is_text count bytes ≡ reading.letters_at ax_types_letters.is_text_byte count bytes
unfolding form_at reading.letters_at
text_letters count bytes least most = grind (arith, common_steps)
