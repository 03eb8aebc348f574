-- The limits of a book. Each holds as many: names, entries of a map, texts of a set or queue, pairs of a multimap,
-- members of a group, sessions that wait for a lock, and sessions that listen.
use Rattle.std.specs.Prelude.{ℕ, Bool, nat_le, List, length}
use Rattle.ax_types.specs.declared.limits.TheConstants.{ROOM}

abbrev pub room : ℕ
room = ROOM

-- whether a list has no room for one more
abbrev pub is_full : {T : Type 0} → List T → Bool
is_full xs = nat_le room (length xs)
