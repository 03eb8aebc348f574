-- The records of a journal: what they say, how they are spelled, and how they are read.
use Rattle.std.specs.Prelude.{◌≡◌, ◌≤◌, ℕ, Bool, true, false, List, [], ◌∷◌, ◌++◌, ◌+◌, Option, None, Some, Ok, Err, nat_eq, if◌then◌else◌}
use Rattle.ax_types.specs.declared.entries.Entry.{Entry}
use Rattle.ax_types.specs.declared.limits.TheConstants.{MAX_NODES}
use Rattle.spec_wire.specs.NumberBytes as number_bytes
use Rattle.spec_wire.specs.Ranges as ranges
use Rattle.spec_wire.specs.Spelling as spelling
use Rattle.spec_reading.specs.Reading.{◌>>=◌}
use Rattle.spec_reading.specs.Reading as reading
use Rattle.spec_reading.specs.Packets as packets

-- A record: the term and the vote in it; the last place that stays; an entry of a journal of version 1;
-- the number of entries, from which on each entry stands with its place; an entry with its place.
pub data Record : Type 0 where
  Vote : (term : ℕ) (vote : Option ℕ) → Record
  Cut : (last : ℕ) → Record
  Plain : (entry : Entry) → Record
  Count : (entries : ℕ) → Record
  Placed : (place : ℕ) (entry : Entry) → Record

-- the node that was voted for, or 0
abbrev pub vote_bytes : Option ℕ → List ℕ
vote_bytes None = 0 ∷ []
vote_bytes (Some node) = node ∷ []

-- a record: its kind and its fields
abbrev pub record_bytes : Record → List ℕ
record_bytes (Vote term vote) = 0x11 ∷ number_bytes.u64_bytes term ++ vote_bytes vote
record_bytes (Cut last) = 0x12 ∷ number_bytes.u64_bytes last
record_bytes (Plain entry) = 0x13 ∷ spelling.entry_bytes entry
record_bytes (Count entries) = 0x14 ∷ number_bytes.u64_bytes entries
record_bytes (Placed place entry) = 0x15 ∷ number_bytes.u64_bytes place ++ spelling.entry_bytes entry

-- a term and places are within their type, a vote names a node, and the record may stand where `record_at` reads it
abbrev pub IsVote : Option ℕ → Type 0
IsVote None = Unit {0}
IsVote (Some node) = (1 ≤ node) × (node ≤ MAX_NODES)

abbrev pub FitsRecord : Bool → ℕ → Record → Type 0
FitsRecord counted entries (Vote term vote) = ranges.IsNumber term × IsVote vote
FitsRecord counted entries (Cut last) = ranges.IsNumber last
FitsRecord counted entries (Plain entry) = (counted ≡ false) × ranges.FitsEntry entry
FitsRecord counted entries (Count count) = (counted ≡ false) × (count ≡ entries) × ranges.IsNumber count
FitsRecord counted entries (Placed place entry) =
    (counted ≡ true) × (place ≡ entries + 1) × ranges.IsNumber place × ranges.FitsEntry entry

abbrev pub vote_at : List ℕ → reading.Reading (Option ℕ)
vote_at bytes = do
  node ← reading.small_at 0 MAX_NODES bytes
  if nat_eq node.0 0 then Ok (None, node.1) else Ok (Some node.0, node.1)

-- A record that may stand behind so many entries, and behind a record of their number if `counted`.
-- A number that is no longer the right one is wrong, though bytes of it lack.
unfoldable pub record_at : Bool → ℕ → List ℕ → reading.Reading Record
record_at counted entries bytes = do
  kind ← reading.byte_at bytes
  if nat_eq kind.0 0x11 then reading.two_fields reading.u64_at vote_at Vote kind.1 else
      if nat_eq kind.0 0x12 then reading.one_field reading.u64_at Cut kind.1 else
      if nat_eq kind.0 0x13 then (if counted then Err reading.Wrong else reading.one_field packets.entry_at Plain kind.1) else
      if nat_eq kind.0 0x14 then (if counted then Err reading.Wrong else reading.one_field (reading.within_at entries entries) Count kind.1) else
      if nat_eq kind.0 0x15 then (if counted then reading.two_fields (reading.within_at (entries + 1) (entries + 1)) packets.entry_at Placed kind.1 else Err reading.Wrong) else
      Err reading.Wrong
