-- A store over the bytes of a keeper: what their journal tells, and what the store knows of it after a load.
use Rattle.std.specs.Prelude.{◌≡◌, ℕ, Bool, true, false, List, [], ◌∷◌, length, Option, Some, None, Result, Ok, Err, nat_eq, if◌then◌else◌}
use Rattle.ax_types.specs.declared.entries.Loaded.{Loaded}
use Rattle.ax_types.specs.declared.refusals.StoreError.{StoreError}
use Rattle.ax_types.specs.declared.refusals.StoreError.TheVariants as store_error
use Rattle.ax_io.specs.Content as contents
use Rattle.spec_reading.specs.Reading as reading
use Rattle.spec_journal.specs.Records as journal_records
use Rattle.spec_journal.specs.Journal as journals
use Rattle.net_wire.specs.declared.unread.Unread.{Unread}
use Rattle.net_wire.specs.declared.unread.Unread.TheVariants as unread
use Rattle.store_journal.specs.declared.reading.Journal.{Journal}
use Rattle.store_journal.specs.declared.records.Record.{Record}
use Rattle.store_journal.specs.declared.records.Record.TheVariants as record_variants
use Rattle.store_journal.specs.KeeperTold as keepers
use Rattle.store_journal.specs.LeftBy as left_by
use Rattle.store_journal.specs.StoreTold as stores

-- the keeper, and whether the store has to be loaded before anything is kept in it
pub record Journaled (K : Type 0) : Type 0 where
  pub keeper : K
  pub needs_load : Bool

-- ---- what is told

abbrev pub answer_told : Result Loaded ℕ → stores.Told
answer_told (Ok content) = stores.Content content
answer_told (Err at) = stores.Bad at

-- what the journal of the keeper's bytes tells, where these are told
abbrev pub journal_told : Option (List ℕ) → stores.Told
journal_told None = stores.Untold
journal_told (Some bytes) = answer_told (journals.loaded_of (journals.journal_of bytes))

abbrev pub version_told : Option (List ℕ) → ℕ
version_told None = 0
version_told (Some bytes) = journals.version_of (journals.records_of bytes)

-- ---- what is known after a load

-- nothing stands behind the whole records of these bytes, and this is known of them: whether one of the number of entries stands, and that number
pub record IsWhole (bytes : List ℕ) (is_counted : Bool) (count : ℕ) : Type 0 where
  pub are_bytes : reading.IsBytes bytes
  pub whole : journals.journal_of bytes ≡ journals.whole_journal (journals.records_of bytes)
  pub counted : is_counted ≡ journals.has_count (journals.records_of bytes)
  pub entries : count ≡ length (journals.content (journals.records_of bytes)).log

abbrev pub IsWholeTold : Option (List ℕ) → Bool → ℕ → Type 0
IsWholeTold None counted entries = Unit {0}
IsWholeTold (Some bytes) counted entries = IsWhole bytes counted entries

-- the same records, and what stands behind them is bad in both, or in neither
abbrev pub AreSameRecords : Option (List ℕ) → Option (List ℕ) → Type 0
AreSameRecords None None = Unit {0}
AreSameRecords (Some before) (Some now) =
    (journals.records_of now ≡ journals.records_of before) × ((journals.journal_of now).why ≡ (journals.journal_of before).why)
AreSameRecords _ _ = ⊥

-- ---- reading

-- a record as the code has it
abbrev pub record_of : Record → journal_records.Record
record_of (record_variants.Vote term vote) = journal_records.Vote term vote
record_of (record_variants.Cut last) = journal_records.Cut last
record_of (record_variants.Plain entry) = journal_records.Plain entry
record_of (record_variants.Count entries) = journal_records.Count entries
record_of (record_variants.Placed place entry) = journal_records.Placed place entry

-- the call gives the record that is read, and leaves the reader at the bytes behind it, unless memory was wanting
abbrev pub GivesRecord : Result Record Unread → List ℕ → reading.Reading journal_records.Record → Type 0
GivesRecord (Ok value) rest read = read ≡ Ok (record_of value, rest)
GivesRecord (Err unread.Part) rest read = read ≡ Err reading.Part
GivesRecord (Err unread.Wrong) rest read = read ≡ Err reading.Wrong
GivesRecord (Err unread.NoMemory) rest read = Unit {0}

abbrev pub is_wrong : reading.Fault → Bool
is_wrong reading.Part = false
is_wrong reading.Wrong = true

-- ---- appending

-- the record with which an append begins
abbrev pub first_of : Bool → ℕ → List journal_records.Record
first_of counted entries = if counted then [] else (journal_records.Count entries ∷ [])

-- what an append leaves of the keeper's bytes: all of the bytes more, after `Failed` a strict front of them, or none
abbrev pub Appended : Option (List ℕ) → Option (List ℕ) → List ℕ → Result (Unit {0}) StoreError → Type 0
Appended before now bytes (Ok _) = now ≡ contents.append_told before bytes
Appended before now bytes (Err store_error.Failed) = keepers.IsTorn before now bytes
Appended before now bytes (Err (store_error.Bad at)) = ⊥
Appended before now bytes (Err store_error.NoMemory) = now ≡ before

-- ---- the journal that was read

-- it is the one of these bytes, and no bad byte stands behind its records
pub record IsReadJournal (bytes : List ℕ) (j : Journal) : Type 0 where
  pub left : j.left ≡ left_by.left_of (journals.records_of bytes)
  pub whole : j.whole ≡ journals.whole (journals.records_of bytes)
  pub part : (journals.journal_of bytes).why ≡ reading.Part

-- the bytes are no journal, from this offset on
pub record IsBadAt (bytes : List ℕ) (offset : ℕ) : Type 0 where
  pub wrong : (journals.journal_of bytes).why ≡ reading.Wrong
  pub at : offset ≡ journals.whole (journals.records_of bytes)

abbrev pub IsRead : Option (List ℕ) → Result Journal StoreError → Type 0
IsRead None _ = Unit {0}
IsRead (Some bytes) (Ok j) = IsReadJournal bytes j
IsRead (Some bytes) (Err (store_error.Bad at)) = IsBadAt bytes at
IsRead (Some bytes) (Err _) = Unit {0}

-- no record of the number of entries stands
abbrev pub IsPlainTold : Option (List ℕ) → Type 0
IsPlainTold None = Unit {0}
IsPlainTold (Some bytes) = journals.has_count (journals.records_of bytes) ≡ false

-- and then one does
abbrev pub IsCountedTold : Option (List ℕ) → Option (List ℕ) → Type 0
IsCountedTold None now = Unit {0}
IsCountedTold (Some bytes) now = version_told now ≡ 2

-- the version of a journal by the bytes of its records
abbrev pub version_by : ℕ → Bool → ℕ
version_by whole counted = if nat_eq whole 0 then 0 else (if counted then 2 else 1)

-- the answer is not that the bytes are no journal
abbrev pub IsNotBad : Result (Unit {0}) StoreError → Type 0
IsNotBad (Err (store_error.Bad at)) = ⊥
IsNotBad _ = Unit {0}
