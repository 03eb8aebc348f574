-- The forms of names, keys and texts, as tests on their bytes, and how nodes and clients are written.
use Rattle.std.specs.Prelude.{ℕ, Bool, ◌&&◌, ◌||◌, nat_le, nat_eq, List, length}
use Rattle.std.specs.List.{list_all}
use Rattle.ax_types.specs.declared.limits.TheConstants.{MAX_NAME, MAX_TEXT}

-- a byte of `a-z 0-9 - _`
abbrev pub is_name_byte : ℕ → Bool
is_name_byte b = (nat_le 97 b && nat_le b 122) || (nat_le 48 b && nat_le b 57) || nat_eq b 45 || nat_eq b 95

-- a byte from 0x21 to 0x7e
abbrev pub is_text_byte : ℕ → Bool
is_text_byte b = nat_le 33 b && nat_le b 126

-- 1 to 32 bytes of `a-z 0-9 - _`
abbrev pub is_name : List ℕ → Bool
is_name bs = nat_le 1 (length bs) && nat_le (length bs) MAX_NAME && list_all is_name_byte bs

-- 1 to 64 bytes from 0x21 to 0x7e
abbrev pub is_text : List ℕ → Bool
is_text bs = nat_le 1 (length bs) && nat_le (length bs) MAX_TEXT && list_all is_text_byte bs
