-- Reading from the front of bytes: a value and the bytes after it, or why there is none.
use Rattle.std.specs.Prelude.{ℕ, ◌<◌, slice_index, zero, suc, ℤ, Bool, true, false, List, [], ◌∷◌, ◌++◌, ◌-◌, length, take, drop, replicate, Result, Ok, Err, Option, Some, None, nat_lt, nat_le, nat_eq, ◌&&◌, if◌then◌else◌}
use Rattle.std.specs.List.{list_all}
use Rattle.std.specs.Int.{w32, w64, from_be_bytes, cast_signed}
use Rattle.ax_types.specs.Letters as ax_types_letters
use Rattle.ax_types.specs.declared.limits.TheConstants.{MAX_CLIENTS}
use Rattle.ax_types.specs.declared.limits.TheConstants.{MAX_NAME, MAX_TEXT, MAX_LIFE}

-- each number is a byte
abbrev pub IsBytes : List ℕ → Type 0
IsBytes bytes = (i : ℕ) → slice_index bytes i < 256

-- why bytes begin with no whole spelling: they are a strict part of one, or no spelling begins as they do
pub data Fault : Type 0 where
  Part : Fault
  Wrong : Fault

-- a value and the bytes after its spelling
abbrev pub Reading : Type 0 → Type 0
Reading A = Result (A × List ℕ) Fault

infixl 10 ◌>>=◌
abbrev pub ◌>>=◌ : {A B : Type 0} → Reading A → (A × List ℕ → Reading B) → Reading B
(Ok x) >>= f = f x
(Err e) >>= f = Err e

-- the value, and how many bytes its spelling has
abbrev pub value_and_length : {A : Type 0} → List ℕ → Reading A → Option (A × ℕ)
value_and_length bytes (Ok x) = Some (x.0, length bytes - length x.1)
value_and_length bytes (Err e) = None

abbrev pub byte_at : List ℕ → Reading ℕ
byte_at [] = Err Part
byte_at (b ∷ bytes) = Ok (b, bytes)

-- a byte from least to most
abbrev pub small_at : ℕ → ℕ → List ℕ → Reading ℕ
small_at least most bytes = do
  b ← byte_at bytes
  if nat_le least b.0 && nat_le b.0 most then Ok (b.0, b.1) else Err Wrong

unfoldable pub u64_at : List ℕ → Reading ℕ
u64_at bytes = if nat_lt (length bytes) 8 then Err Part else Ok (from_be_bytes w64 (take 8 bytes), drop 8 bytes)

unfoldable pub u32_at : List ℕ → Reading ℕ
u32_at bytes = if nat_lt (length bytes) 4 then Err Part else Ok (from_be_bytes w32 (take 4 bytes), drop 4 bytes)

unfoldable pub i64_at : List ℕ → Reading ℤ
i64_at bytes = do
  n ← u64_at bytes
  Ok (cast_signed w64 n.0, n.1)

-- the number of the first eight bytes, where those that lack are taken as `byte`
abbrev pub padded_number : ℕ → List ℕ → ℕ
padded_number byte bytes = from_be_bytes w64 (take 8 (bytes ++ replicate 8 byte))

-- a number from least to most: bytes with which no such number begins are wrong, though there be less than eight
unfoldable pub within_at : ℕ → ℕ → List ℕ → Reading ℕ
within_at least most bytes =
    if nat_le least (padded_number 255 bytes) && nat_le (padded_number 0 bytes) most
    then (if nat_lt (length bytes) 8 then Err Part else Ok (padded_number 0 bytes, drop 8 bytes))
    else Err Wrong

abbrev pub truth_at : List ℕ → Reading Bool
truth_at bytes = do
  b ← byte_at bytes
  if nat_eq b.0 0 then Ok (false, b.1) else if nat_eq b.0 1 then Ok (true, b.1) else Err Wrong

abbrev pub client_at : List ℕ → Reading ℕ
client_at = small_at 1 MAX_CLIENTS

-- `count` letters that pass the test: a wrong letter is wrong, though others lack
unfoldable pub letters_at : (ℕ → Bool) → ℕ → List ℕ → Reading (List ℕ)
letters_at is count bytes =
    if list_all is (take count bytes)
    then (if nat_lt (length bytes) count then Err Part else Ok (take count bytes, drop count bytes))
    else Err Wrong

-- one byte of length, from 1 to most, and that many letters
unfoldable pub counted_at : (ℕ → Bool) → ℕ → List ℕ → Reading (List ℕ)
counted_at is most bytes = do
  count ← small_at 1 most bytes
  letters_at is count.0 count.1

-- a name or a key
abbrev pub name_at : List ℕ → Reading (List ℕ)
name_at = counted_at ax_types_letters.is_name_byte MAX_NAME

abbrev pub text_at : List ℕ → Reading (List ℕ)
text_at = counted_at ax_types_letters.is_text_byte MAX_TEXT

abbrev pub life_at : List ℕ → Reading ℕ
life_at = within_at 1 MAX_LIFE

-- so many values, one after the other
abbrev pub many_at : {A : Type 0} → (List ℕ → Reading A) → ℕ → List ℕ → Reading (List A)
many_at f zero bytes = Ok ([], bytes)
many_at f (suc n) bytes = do
  first ← f bytes
  others ← many_at f n first.1
  Ok (first.0 ∷ others.0, others.1)

-- a value of one, two or three fields
abbrev pub one_field : {A V : Type 0} → (List ℕ → Reading A) → (A → V) → List ℕ → Reading V
one_field f make bytes = do
  a ← f bytes
  Ok (make a.0, a.1)

abbrev pub two_fields : {A B V : Type 0} → (List ℕ → Reading A) → (List ℕ → Reading B) → (A → B → V) → List ℕ → Reading V
two_fields f g make bytes = do
  a ← f bytes
  b ← g a.1
  Ok (make a.0 b.0, b.1)

abbrev pub three_fields : {A B C V : Type 0} → (List ℕ → Reading A) → (List ℕ → Reading B) → (List ℕ → Reading C) → (A → B → C → V) → List ℕ → Reading V
three_fields f g h make bytes = do
  a ← f bytes
  b ← g a.1
  c ← h b.1
  Ok (make a.0 b.0 c.0, c.1)
