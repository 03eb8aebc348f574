-- A journal: the whole records with which bytes begin, what they leave, and what each call of a store appends to them.
use Rattle.std.specs.List.{flat_map, list_any}
use Rattle.std.specs.Prelude.{ℕ, zero, suc, Bool, true, false, List, [], ◌∷◌, ◌++◌, ◌+◌, length, take, fold, Option, Result, Ok, Err, nat_eq, if◌then◌else◌, ◌&&◌, is_none}
use Rattle.ax_types.specs.Loads as loads
use Rattle.ax_types.specs.declared.entries.Entry.{Entry}
use Rattle.ax_types.specs.declared.entries.Loaded.{Loaded}
use Rattle.spec_reading.specs.Reading as reading
use Rattle.spec_journal.specs.Records as journal_records

-- ---- what records leave

-- the content with more entries
abbrev pub with_entries : Loaded → List Entry → Loaded
with_entries c entries = record { term = c.term; vote = c.vote; log = c.log ++ entries }

-- what a record leaves: a cut to more entries than there are cuts nothing
abbrev pub after_record : Loaded → journal_records.Record → Loaded
after_record c (journal_records.Vote term vote) = record { term = term; vote = vote; log = c.log }
after_record c (journal_records.Cut last) = record { term = c.term; vote = c.vote; log = take last c.log }
after_record c (journal_records.Plain entry) = with_entries c (entry ∷ [])
after_record c (journal_records.Count entries) = c
after_record c (journal_records.Placed place entry) = with_entries c (entry ∷ [])

-- the term, the vote and the log that records leave, one after the other
abbrev pub content : List journal_records.Record → Loaded
content records = fold after_record loads.nothing_loaded records

abbrev pub is_count : journal_records.Record → Bool
is_count (journal_records.Count entries) = true
is_count _ = false

-- whether a record of the number of entries stands among them
abbrev pub has_count : List journal_records.Record → Bool
has_count records = list_any is_count records

abbrev pub records_bytes : List journal_records.Record → List ℕ
records_bytes records = flat_map journal_records.record_bytes records

-- how many bytes they have
abbrev pub whole : List journal_records.Record → ℕ
whole records = length (records_bytes records)

-- 0 without a record, 2 where a record of the number of entries stands, else 1
abbrev pub version_of : List journal_records.Record → ℕ
version_of [] = 0
version_of (r ∷ records) = if has_count (r ∷ records) then 2 else 1

-- ---- what bytes are

-- The whole records, the bytes behind them, and why these begin with no record that may stand there:
-- they are a strict part of one, as no bytes are, or no record begins as they do.
pub record Journal : Type 0 where
  pub records : List journal_records.Record
  pub rest : List ℕ
  pub why : reading.Fault

-- the record with which bytes begin, where it stands behind these records
abbrev pub next_at : List journal_records.Record → List ℕ → reading.Reading journal_records.Record
next_at before bytes = journal_records.record_at (has_count before) (length (content before).log) bytes

-- the journal of these records and of at most so many of those with which the bytes behind them begin
unfoldable pub read_on : ℕ → List journal_records.Record → List ℕ → Journal
read_on zero before bytes = record { records = before; rest = bytes; why = reading.Part }
read_on (suc most) before bytes = elim (next_at before bytes) [
  | Ok next ↦ read_on most (before ++ next.0 ∷ []) next.1
  | Err why ↦ record { records = before; rest = bytes; why = why }
]

-- the journal of these records and the bytes behind them: each record has a byte, so there are no more records than bytes
abbrev pub journal_behind : List journal_records.Record → List ℕ → Journal
journal_behind before bytes = read_on (length bytes) before bytes

-- the journal of these bytes, and its records
abbrev pub journal_of : List ℕ → Journal
journal_of bytes = journal_behind [] bytes

abbrev pub records_of : List ℕ → List journal_records.Record
records_of bytes = (journal_of bytes).records

-- these records, and nothing behind them
abbrev pub whole_journal : List journal_records.Record → Journal
whole_journal records = record { records = records; rest = []; why = reading.Part }

-- what loading answers: what is kept, or the offset of the first byte that belongs to no whole record that may stand there
abbrev pub loaded_of : Journal → Result Loaded ℕ
loaded_of j = elim j.why [ reading.Part ↦ Ok (content j.records) | reading.Wrong ↦ Err (whole j.records) ]

-- ---- what is appended behind records

-- the record with which an append begins, where none of the number of entries stands yet
abbrev pub first_record : List journal_records.Record → List journal_records.Record
first_record before = if has_count before then [] else (journal_records.Count (length (content before).log) ∷ [])

-- the records of entries, the first of them at this place
abbrev pub placed_records : ℕ → List Entry → List journal_records.Record
placed_records place [] = []
placed_records place (entry ∷ entries) = journal_records.Placed place entry ∷ placed_records (place + 1) entries

-- what keeping a term and a vote appends
abbrev pub vote_records : List journal_records.Record → ℕ → Option ℕ → List journal_records.Record
vote_records before term vote = first_record before ++ journal_records.Vote term vote ∷ []

-- what cutting the log appends
abbrev pub cut_records : List journal_records.Record → ℕ → List journal_records.Record
cut_records before last = first_record before ++ journal_records.Cut last ∷ []

-- what adding entries appends: nothing where there is no entry
abbrev pub add_records : List journal_records.Record → List Entry → List journal_records.Record
add_records before [] = []
add_records before (entry ∷ entries) =
    first_record before ++ placed_records (length (content before).log + 1) (entry ∷ entries)

-- what an upgrade appends: a journal of version 1 becomes one of version 2
abbrev pub upgrade_records : List journal_records.Record → List journal_records.Record
upgrade_records before = if nat_eq (version_of before) 1 then first_record before else []

-- ---- what a store is to the one who looks for what is left of a cluster

-- nothing is kept: no term, no vote and no entry
abbrev pub is_nothing : Loaded → Bool
is_nothing c = nat_eq c.term 0 && is_none c.vote && nat_eq (length c.log) 0

pub data Remains : Type 0 where
  Nothing : Remains
  Good : (content : Loaded) → Remains
  Bad : (at : ℕ) → Remains

abbrev pub good_of : Loaded → Remains
good_of c = if is_nothing c then Nothing else Good c

abbrev pub remains_of : Journal → Remains
remains_of j = elim (loaded_of j) [ Ok content ↦ good_of content | Err at ↦ Bad at ]
