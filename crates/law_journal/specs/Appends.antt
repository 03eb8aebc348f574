-- Which records may be appended behind others, and what an append of them leaves where it lacks its end.
use Rattle.std.specs.Prelude.{◌≡◌, ◌<◌, ◌≤◌, ℕ, List, [], ◌∷◌, ◌++◌, length, take}
use Rattle.ax_types.specs.declared.entries.Entry.{Entry}
use Rattle.ax_types.specs.declared.entries.Loaded.{Loaded}
use Rattle.spec_reading.specs.Reading as reading
use Rattle.spec_journal.specs.Records as journal_records
use Rattle.spec_journal.specs.Journal as journals

-- each record may stand where it comes
abbrev pub StandBehind : List journal_records.Record → List journal_records.Record → Type 0
StandBehind before [] = Unit {0}
StandBehind before (r ∷ records) =
    journal_records.FitsRecord (journals.has_count before) (length (journals.content before).log) r
    × StandBehind (before ++ r ∷ []) records

-- the first `count` of these records are whole, and behind them stands less than the next one
pub record IsTornAppend (before records : List journal_records.Record) (j : journals.Journal) : Type 0 where
  pub count : ℕ
  pub torn : List ℕ
  pub fewer : count < length records
  pub is : j ≡ record { records = before ++ take count records; rest = torn; why = reading.Part }

-- These records may stand there; all of them leave this content, and fewer leave it as before.
pub record IsWholeOrNone (before records : List journal_records.Record) (content : Loaded) : Type 0 where
  pub stand : StandBehind before records
  pub whole : journals.content (before ++ records) ≡ content
  pub part : (count : ℕ) → count < length records → journals.content (before ++ take count records) ≡ journals.content before

-- so many of the records add the first ones of the entries
pub record AddsFirst (before records : List journal_records.Record) (entries : List Entry) (count : ℕ) : Type 0 where
  pub added : ℕ
  pub within : added ≤ length entries
  pub is : journals.content (before ++ take count records)
      ≡ journals.with_entries (journals.content before) (take added entries)

-- These records may stand there; all of them add these entries, and fewer the first ones of them.
pub record IsAdded (before records : List journal_records.Record) (entries : List Entry) : Type 0 where
  pub stand : StandBehind before records
  pub whole : journals.content (before ++ records) ≡ journals.with_entries (journals.content before) entries
  pub part : (count : ℕ) → count < length records → AddsFirst before records entries count
