-- Signs of life by the sessions' order, with a floor for each block of them.
use Rattle.std.specs.Prelude.{◌≡◌, ℕ, ◌*◌, ◌/◌, ◌<◌, ◌≤◌, Bool, true, false, nat_le, List, Option, Some, None, length, slice_get, slice_index}

-- whether a session stands there, has a sign, and the sign is at most the limit
abbrev pub is_up_to : ℕ → Option (Option ℕ) → Bool
is_up_to limit (Some (Some sign)) = nat_le sign limit
is_up_to limit (Some None) = false
is_up_to limit None = false

-- no sign from one index on, up to another, is at most the limit
abbrev pub NoneUpTo : ℕ → List (Option ℕ) → ℕ → ℕ → Type 0
NoneUpTo limit signs first end = (k : ℕ) → first ≤ k → k < end → is_up_to limit (slice_get signs k) ≡ false

-- each block has a floor, and none of its signs is below it
abbrev pub IsFloored : List (Option ℕ) → List ℕ → Type 0
IsFloored signs floors = (length signs ≤ 64 * length floors) × ((k sign : ℕ) → slice_get signs k ≡ Some (Some sign) → slice_index floors (k / 64) ≤ sign)
