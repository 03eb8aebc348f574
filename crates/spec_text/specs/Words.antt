-- How the words of a line are read: numbers, node and client numbers, names, keys and texts.
use Rattle.std.specs.Prelude.{ℕ, ◌+◌, ◌*◌, ◌-◌, ◌^◌, ◌==◌, ◌&&◌, Bool, nat_le, List, [], ◌∷◌, ℤ, pos, negsuc, Option, Some, None, option_map, option_and_then, if◌then◌else◌}
use Rattle.std.specs.List.{slice_split}
use Rattle.ax_types.specs.declared.limits.TheConstants.{MAX_CLOCK, MAX_TIMEOUT, MAX_PACKET, MAX_LIFE}
use Rattle.ax_types.specs.Letters as letters

-- bytes without a blank between them
abbrev pub Word : Type 0
Word = List ℕ

-- the words of a line: what stands before, between and behind its blanks
abbrev pub words_of : List ℕ → List Word
words_of line = slice_split (λ b. b == 32) line

-- f of both values, where both are there
abbrev pub both : {A B C : Type 0} → (A → B → C) → Option A → Option B → Option C
both f None y = None
both f (Some x) None = None
both f (Some x) (Some y) = Some (f x y)

abbrev pub is_digit : ℕ → Bool
is_digit b = nat_le 48 b && nat_le b 57

-- the number that the digits make, behind those that made n
abbrev pub number_on : ℕ → List ℕ → Option ℕ
number_on n [] = Some n
number_on n (b ∷ bs) = if is_digit b then number_on (n * 10 + (b - 48)) bs else None

-- a number is decimal digits; its first is 0 only where there is no other
abbrev pub number_of : Word → Option ℕ
number_of [] = None
number_of (b ∷ []) = number_on 0 (b ∷ [])
number_of (b ∷ c ∷ bs) = if b == 48 then None else number_on 0 (b ∷ c ∷ bs)

abbrev pub within : ℕ → ℕ → ℕ → Option ℕ
within low high n = if nat_le low n && nat_le n high then Some n else None

-- a number from low to high
abbrev pub number_within : ℕ → ℕ → Word → Option ℕ
number_within low high w = option_and_then (within low high) (number_of w)

-- 0 less n
abbrev pub below_zero : ℕ → ℤ
below_zero n = negsuc (n - 1)

-- a number from -2^63 to 2^63 - 1, below 0 with a `-` before its digits
abbrev pub signed_of : Word → Option ℤ
signed_of [] = None
signed_of (b ∷ bs) =
    if b == 45 then option_map below_zero (number_within 1 (2 ^ 63) bs)
    else option_map pos (number_within 0 (2 ^ 63 - 1) (b ∷ bs))

-- a node of a cluster of this many nodes
abbrev pub node_of : ℕ → Word → Option ℕ
node_of nodes w = number_within 1 nodes w

-- one of this many clients
abbrev pub client_of : ℕ → Word → Option ℕ
client_of clients w = number_within 1 clients w

-- the setting of a clock
abbrev pub time_of : Word → Option ℕ
time_of w = number_within 0 MAX_CLOCK w

-- the timeout of a session
abbrev pub timeout_of : Word → Option ℕ
timeout_of w = number_within 1 MAX_TIMEOUT w

-- the number of a packet, or of the bytes of one that arrive
abbrev pub packet_number_of : Word → Option ℕ
packet_number_of w = number_within 0 MAX_PACKET w

-- the life of a map's entry
abbrev pub life_of : Word → Option ℕ
life_of w = number_within 1 MAX_LIFE w

-- the name of a resource, or a key
abbrev pub name_of : Word → Option Word
name_of w = if letters.is_name w then Some w else None

-- the text that is kept under a name or key
abbrev pub text_of : Word → Option Word
text_of w = if letters.is_text w then Some w else None
