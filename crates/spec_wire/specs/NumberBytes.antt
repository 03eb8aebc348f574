-- Numbers, truth values and counted letters as bytes: numbers with the highest byte first.
use Rattle.std.specs.Prelude.{ℕ, ℤ, Bool, true, false, List, [], ◌∷◌, length}
use Rattle.std.specs.Int.{w32, w64, to_be_bytes, cast_unsigned}

-- eight bytes
unfoldable pub u64_bytes : ℕ → List ℕ
u64_bytes n = to_be_bytes w64 n

-- four bytes
unfoldable pub u32_bytes : ℕ → List ℕ
u32_bytes n = to_be_bytes w32 n

-- eight bytes in two's complement
unfoldable pub i64_bytes : ℤ → List ℕ
i64_bytes z = to_be_bytes w64 (cast_unsigned w64 z)

-- one byte, 0 or 1
abbrev pub truth_bytes : Bool → List ℕ
truth_bytes false = 0 ∷ []
truth_bytes true = 1 ∷ []

-- a name, key or text: one byte of length, and its bytes
abbrev pub counted_bytes : List ℕ → List ℕ
counted_bytes letters = length letters ∷ letters
