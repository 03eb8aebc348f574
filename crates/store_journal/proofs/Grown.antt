-- What an append leaves of bytes with nothing behind their whole records.
use Rattle.std.proofs.Common.{◌≡◌, ℕ, ◌+◌, ◌-◌, ◌<◌, ◌≤◌, List, [], ◌∷◌, ◌++◌, length, take, drop, refl, sym, ap, subst, arith, ◌∙◌, inl, inr}
use Rattle.std.proofs.lemmas.Bool.{cases_lt}
use Rattle.std.proofs.lemmas.List.{append-nil, take_at, take-append-drop, length-append, length-drop, get_or_append_left, get_or-append_right}
use Rattle.spec_reading.specs.Reading as reading
use Rattle.law_reading.proofs.Fields.{IsBytes-take}
use Rattle.spec_journal.specs.Records as journal_records
use Rattle.spec_journal.specs.Journal as journals
use Rattle.law_journal.specs.Appends as appends
use Rattle.law_journal.proofs.RecordByRecord.{bytes_are, records_stand, whole_read, whole_read_all}
use Rattle.law_journal.proofs.Appended.{torn_read}

pub IsBytes-append : (xs ys : List ℕ) → reading.IsBytes xs → reading.IsBytes ys → reading.IsBytes (xs ++ ys)
IsBytes-append xs ys fx fy i =
    elim (cases_lt i (length xs)) [
      | inl lt ↦ omega (arith, get_or_append_left xs ys 0 i lt, fx i)
      | inr le ↦ omega (arith, get_or-append_right xs ys (length xs) i 0 refl le, fy (i - length xs))
    ]

-- the bytes are those of their records
pub only_records : (bytes : List ℕ) → reading.IsBytes bytes → journals.journal_of bytes ≡ journals.whole_journal (journals.records_of bytes) → bytes ≡ journals.records_bytes (journals.records_of bytes)
only_records bytes fits whole =
    sym (bytes_are bytes fits)
    ∙ ap (λ (j : journals.Journal). journals.records_bytes (journals.records_of bytes) ++ j.rest) whole
    ∙ append-nil (journals.records_bytes (journals.records_of bytes))

-- what is appended is read behind the records
pub read_behind : (bytes more : List ℕ) → reading.IsBytes bytes → journals.journal_of bytes ≡ journals.whole_journal (journals.records_of bytes) → reading.IsBytes more
    → journals.journal_of (bytes ++ more) ≡ journals.journal_behind (journals.records_of bytes) more
read_behind bytes more fits whole fits_more =
    let same = only_records bytes fits whole in
    ap (λ (t : List ℕ). journals.journal_of (t ++ more)) same
    ∙ whole_read [] (journals.records_of bytes) more (records_stand bytes fits) (subst reading.IsBytes (ap (λ (t : List ℕ). t ++ more) same) (IsBytes-append bytes more fits fits_more))

pub grown : (bytes : List ℕ) (records : List journal_records.Record) → reading.IsBytes bytes → journals.journal_of bytes ≡ journals.whole_journal (journals.records_of bytes)
    → appends.StandBehind (journals.records_of bytes) records → reading.IsBytes (journals.records_bytes records)
    → journals.journal_of (bytes ++ journals.records_bytes records) ≡ journals.whole_journal (journals.records_of bytes ++ records)
grown bytes records fits whole stand fits_more = read_behind bytes (journals.records_bytes records) fits whole fits_more ∙ whole_read_all (journals.records_of bytes) records stand fits_more

-- a journal that is whole is that of its own records
pub whole_of : (j : journals.Journal) (records : List journal_records.Record) → j ≡ journals.whole_journal records → j ≡ journals.whole_journal j.records
whole_of j records e = e ∙ sym (ap (λ (k : journals.Journal). journals.whole_journal k.records) e)

pub grown_torn : (bytes : List ℕ) (records : List journal_records.Record) (count : ℕ) → reading.IsBytes bytes → journals.journal_of bytes ≡ journals.whole_journal (journals.records_of bytes)
    → appends.StandBehind (journals.records_of bytes) records → reading.IsBytes (journals.records_bytes records) → count < length (journals.records_bytes records)
    → appends.IsTornAppend (journals.records_of bytes) records (journals.journal_of (bytes ++ take count (journals.records_bytes records)))
grown_torn bytes records count fits whole stand fits_more lt =
    subst (appends.IsTornAppend (journals.records_of bytes) records) (sym (read_behind bytes (take count (journals.records_bytes records)) fits whole (IsBytes-take count (journals.records_bytes records) fits_more)))
    (by_rest (drop count (journals.records_bytes records)) refl)
  where
    by_rest : (rest : List ℕ) → drop count (journals.records_bytes records) ≡ rest → appends.IsTornAppend (journals.records_of bytes) records (journals.journal_behind (journals.records_of bytes) (take count (journals.records_bytes records)))
    by_rest [] e = absurd (omega (arith, ap length e, length-drop count (journals.records_bytes records)))
    by_rest (b ∷ more) e =
        torn_read (journals.records_of bytes) records (take count (journals.records_bytes records)) b more stand fits_more
        (sym (take-append-drop count (journals.records_bytes records)) ∙ ap (λ (t : List ℕ). take count (journals.records_bytes records) ++ t) e)

-- the bytes of the whole records are a journal with nothing behind them
pub trimmed : (bytes : List ℕ) → reading.IsBytes bytes → journals.journal_of (take (journals.whole (journals.records_of bytes)) bytes) ≡ journals.whole_journal (journals.records_of bytes)
trimmed bytes fits =
    let own : take (journals.whole (journals.records_of bytes)) bytes ≡ journals.records_bytes (journals.records_of bytes) =
    ap (take (journals.whole (journals.records_of bytes))) (sym (bytes_are bytes fits))
    ∙ take_at (journals.records_bytes (journals.records_of bytes)) (journals.journal_of bytes).rest (journals.whole (journals.records_of bytes)) refl in
    ap journals.journal_of own
    ∙ whole_read_all [] (journals.records_of bytes) (records_stand bytes fits) (subst reading.IsBytes own (IsBytes-take (journals.whole (journals.records_of bytes)) bytes fits))

-- where these are all of the bytes, and none that is bad stands behind them
pub untrimmed : (bytes : List ℕ) → reading.IsBytes bytes → length bytes ≤ journals.whole (journals.records_of bytes) → (journals.journal_of bytes).why ≡ reading.Part
    → journals.journal_of bytes ≡ journals.whole_journal (journals.records_of bytes)
untrimmed bytes fits le part =
    let total : length bytes ≡ journals.whole (journals.records_of bytes) + length (journals.journal_of bytes).rest =
    sym (ap length (bytes_are bytes fits)) ∙ length-append (journals.records_bytes (journals.records_of bytes)) (journals.journal_of bytes).rest in
    let none : (journals.journal_of bytes).rest ≡ [] = no_length (journals.journal_of bytes).rest (omega (arith, total, le)) in
    ap (λ (t : List ℕ). made t (journals.journal_of bytes).why) none ∙ ap (made []) part
  where
    made : List ℕ → reading.Fault → journals.Journal
    made rest why = record { records = journals.records_of bytes; rest = rest; why = why }

    no_length : (xs : List ℕ) → length xs ≡ 0 → xs ≡ []
    no_length [] e = refl
    no_length (x ∷ xs) e = absurd (omega arith)
