-- What a call of a reader gives, beside the definition of reading.
use Rattle.std.specs.Prelude.{◌≡◌, ℕ, Bool, List, Result, Ok, Err, length, take, drop, nat_lt, nat_eq, ◌||◌, if◌then◌else◌}
use Rattle.spec_reading.specs.Reading as reading
use Rattle.net_wire.specs.declared.unread.Unread.{Unread}
use Rattle.net_wire.specs.declared.unread.Unread.TheVariants as unread

-- the call gives what reading gives, and leaves the reader at the bytes behind it, unless memory was wanting
abbrev pub Gives : {A : Type 0} → Result A Unread → List ℕ → reading.Reading A → Type 0
Gives (Ok value) rest read = read ≡ Ok (value, rest)
Gives (Err unread.Part) rest read = read ≡ Err reading.Part
Gives (Err unread.Wrong) rest read = read ≡ Err reading.Wrong
Gives (Err unread.NoMemory) rest read = Unit {0}

-- so many letters that have the form together: where some lack, those that are there have to be such letters
unfoldable pub form_at : (List ℕ → Bool) → ℕ → List ℕ → reading.Reading (List ℕ)
form_at is_form count bytes =
    if nat_lt (length bytes) count
    then (if nat_eq (length bytes) 0 || is_form bytes then Err reading.Part else Err reading.Wrong)
    else (if is_form (take count bytes) then Ok (take count bytes, drop count bytes) else Err reading.Wrong)
