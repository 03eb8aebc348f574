-- Bytes are read record by record, and are spelled by what is read.
use Rattle.std.proofs.Common.{◌≡◌, ℕ, zero, suc, ◌+◌, ◌-◌, ◌<◌, ◌≤◌, List, [], ◌∷◌, ◌++◌, length, take, Ok, Err, refl, sym, ap, subst, append_assoc, arith, ◌∙◌}
use Rattle.std.proofs.lemmas.List.{take_at, length-append, append-nil}
use Rattle.std.proofs.lemmas.Grind.{flat_map-append}
use Rattle.spec_reading.specs.Reading as reading
use Rattle.law_reading.proofs.Fields.{IsBytes-take}
use Rattle.spec_journal.specs.Records as journal_records
use Rattle.spec_journal.specs.Journal as journals
use Rattle.law_journal.specs.Appends as appends
use Rattle.law_journal.proofs.RecordsRead.{record_again, record_exact}

abbrev ok : journal_records.Record → List ℕ → reading.Reading journal_records.Record
ok r rest = Ok (r, rest)

-- a record has a kind, so it has a byte
some_byte : (r : journal_records.Record) → 1 ≤ length (journal_records.record_bytes r)
some_byte (journal_records.Vote term vote) = omega arith
some_byte (journal_records.Cut last) = omega arith
some_byte (journal_records.Plain entry) = omega arith
some_byte (journal_records.Count entries) = omega arith
some_byte (journal_records.Placed place entry) = omega arith

-- what was read is spelled by the bytes that it took
pub record IsNext (before : List journal_records.Record) (bytes : List ℕ) (r : journal_records.Record) (rest : List ℕ) : Type 0 where
  pub spelled : bytes ≡ journal_records.record_bytes r ++ rest
  pub fits : journal_records.FitsRecord (journals.has_count before) (length (journals.content before).log) r
  pub are_bytes : reading.IsBytes rest
  pub shorter : length rest < length bytes

pub next_is : (before : List journal_records.Record) (bytes : List ℕ) (r : journal_records.Record) (rest : List ℕ) → reading.IsBytes bytes → journals.next_at before bytes ≡ ok r rest
    → IsNext before bytes r rest
next_is before bytes r rest fits e =
    let s = (record_exact (journals.has_count before) (length (journals.content before).log)).spelled bytes r rest fits e in
    record { spelled = s.0; fits = s.1; are_bytes = s.2; shorter = omega (arith, ap length s.0, length-append (journal_records.record_bytes r) rest, some_byte r) }

-- ---- more steps than bytes change nothing

-- what follows the reading of a record
abbrev goes_on : ℕ → List journal_records.Record → List ℕ → reading.Reading journal_records.Record → journals.Journal
goes_on most before bytes read = elim read [
  | Ok next ↦ journals.read_on most (before ++ next.0 ∷ []) next.1
  | Err why ↦ record { records = before; rest = bytes; why = why }
]

one-step : (most : ℕ) (before : List journal_records.Record) (bytes : List ℕ) → journals.read_on (suc most) before bytes ≡ goes_on most before bytes (journals.next_at before bytes)
unfolding journals.read_on
one-step most before bytes = refl

no-bytes : (most : ℕ) (before : List journal_records.Record) → journals.read_on most before [] ≡ journals.whole_journal before
unfolding journals.read_on journal_records.record_at
no-bytes zero before = refl
no-bytes (suc most) before = refl

same_step : (m n : ℕ) (before : List journal_records.Record) (bytes : List ℕ) (read : reading.Reading journal_records.Record)
    → ((r : journal_records.Record) (rest : List ℕ) → read ≡ ok r rest → journals.read_on m (before ++ r ∷ []) rest ≡ journals.read_on n (before ++ r ∷ []) rest)
    → goes_on m before bytes read ≡ goes_on n before bytes read
same_step m n before bytes (Ok next) later = later next.0 next.1 refl
same_step m n before bytes (Err why) later = refl

pub more_steps : (m n : ℕ) (before : List journal_records.Record) (bytes : List ℕ) → reading.IsBytes bytes → length bytes ≤ m → length bytes ≤ n → journals.read_on m before bytes ≡ journals.read_on n before bytes
more_steps m n before [] fits lm ln = no-bytes m before ∙ sym (no-bytes n before)
more_steps zero n before (b ∷ bytes) fits lm ln = absurd (omega arith)
more_steps (suc m) zero before (b ∷ bytes) fits lm ln = absurd (omega arith)
more_steps (suc m) (suc n) before (b ∷ bytes) fits lm ln =
    one-step m before (b ∷ bytes)
    ∙ same_step m n before (b ∷ bytes) (journals.next_at before (b ∷ bytes)) (λ r rest e.
    let next = next_is before (b ∷ bytes) r rest fits e in
    more_steps m n (before ++ r ∷ []) rest next.are_bytes (omega (arith, next.shorter)) (omega (arith, next.shorter)))
    ∙ sym (one-step n before (b ∷ bytes))

-- ---- the next record

no_record : (before : List journal_records.Record) (r : journal_records.Record) (rest : List ℕ) → journals.next_at before [] ≡ ok r rest → ⊥
unfolding journal_records.record_at
no_record before r rest e = cc

pub next_whole : (before : List journal_records.Record) (bytes : List ℕ) (r : journal_records.Record) (rest : List ℕ) → reading.IsBytes bytes → journals.next_at before bytes ≡ ok r rest
    → journals.journal_behind before bytes ≡ journals.journal_behind (before ++ r ∷ []) rest
next_whole before [] r rest fits e = absurd (no_record before r rest e)
next_whole before (b ∷ bytes) r rest fits e =
    let next = next_is before (b ∷ bytes) r rest fits e in
    one-step (length bytes) before (b ∷ bytes)
    ∙ ap (goes_on (length bytes) before (b ∷ bytes)) e
    ∙ more_steps (length bytes) (length rest) (before ++ r ∷ []) rest next.are_bytes (omega (arith, next.shorter)) (omega arith)

-- behind whole records nothing is left out
pub next_stop : (before : List journal_records.Record) (bytes : List ℕ) (why : reading.Fault) → journals.next_at before bytes ≡ Err why
    → journals.journal_behind before bytes ≡ record { records = before; rest = bytes; why = why }
unfolding journals.read_on journal_records.record_at
next_stop before [] why e = ap (λ (w : reading.Fault). record { records = before; rest = []; why = w }) (cc (e))
next_stop before (b ∷ bytes) why e = ap (goes_on (length bytes) before (b ∷ bytes)) e

whole-more : (before : List journal_records.Record) (r : journal_records.Record) → journals.whole (before ++ r ∷ []) ≡ journals.whole before + length (journal_records.record_bytes r)
whole-more before r =
    ap length (flat_map-append journal_records.record_bytes before (r ∷ []))
    ∙ ap (λ (t : List ℕ). length (journals.records_bytes before ++ t)) (append-nil (journal_records.record_bytes r))
    ∙ length-append (journals.records_bytes before) (journal_records.record_bytes r)

pub next_size : (before : List journal_records.Record) (bytes : List ℕ) (r : journal_records.Record) (rest : List ℕ) → reading.IsBytes bytes → journals.next_at before bytes ≡ ok r rest
    → journals.whole (before ++ r ∷ []) ≡ journals.whole before + (length bytes - length rest)
next_size before bytes r rest fits e =
    let next = next_is before bytes r rest fits e in
    omega (arith, whole-more before r, ap length next.spelled, length-append (journal_records.record_bytes r) rest)

-- ---- whole records

pub whole_read : (before records : List journal_records.Record) (more : List ℕ) → appends.StandBehind before records → reading.IsBytes (journals.records_bytes records ++ more)
    → journals.journal_behind before (journals.records_bytes records ++ more) ≡ journals.journal_behind (before ++ records) more
whole_read before [] more stand fits = ap (λ (t : List journal_records.Record). journals.journal_behind t more) (sym (append-nil before))
whole_read before (r ∷ records) more stand fits =
    let same : journals.records_bytes (r ∷ records) ++ more ≡ journal_records.record_bytes r ++ (journals.records_bytes records ++ more) =
    append_assoc (journal_records.record_bytes r) (journals.records_bytes records) more in
    let all : reading.IsBytes (journal_records.record_bytes r ++ (journals.records_bytes records ++ more)) = subst reading.IsBytes same fits in
    let read = record_again (journals.has_count before) (length (journals.content before).log) r (journals.records_bytes records ++ more) stand.0 in
    let next = next_is before (journal_records.record_bytes r ++ (journals.records_bytes records ++ more)) r (journals.records_bytes records ++ more) all read in
    ap (journals.journal_behind before) same
    ∙ next_whole before (journal_records.record_bytes r ++ (journals.records_bytes records ++ more)) r (journals.records_bytes records ++ more) all read
    ∙ whole_read (before ++ r ∷ []) records more stand.1 next.are_bytes
    ∙ ap (λ (t : List journal_records.Record). journals.journal_behind t more) (append_assoc before (r ∷ []) records)

pub whole_read_all : (before records : List journal_records.Record) → appends.StandBehind before records → reading.IsBytes (journals.records_bytes records)
    → journals.journal_behind before (journals.records_bytes records) ≡ journals.whole_journal (before ++ records)
whole_read_all before records stand fits =
    let same = append-nil (journals.records_bytes records) in
    ap (journals.journal_behind before) (sym same)
    ∙ whole_read before records [] stand (subst reading.IsBytes (sym same) fits)
    ∙ no-bytes 0 (before ++ records)

-- ---- what is read

-- the journal j has more records than these, by which the bytes are spelled
pub record IsSpelled (before : List journal_records.Record) (bytes : List ℕ) (j : journals.Journal) : Type 0 where
  pub more : List journal_records.Record
  pub records : j.records ≡ before ++ more
  pub stand : appends.StandBehind before more
  pub same : journals.records_bytes more ++ j.rest ≡ bytes

spelled_stop : (before : List journal_records.Record) (bytes : List ℕ) (why : reading.Fault) → IsSpelled before bytes (record { records = before; rest = bytes; why = why })
spelled_stop before bytes why = record { more = []; records = sym (append-nil before); stand = tt; same = refl }

spelled_next : (before : List journal_records.Record) (bytes : List ℕ) (r : journal_records.Record) (rest : List ℕ) (j : journals.Journal) → IsNext before bytes r rest → IsSpelled (before ++ r ∷ []) rest j
    → IsSpelled before bytes j
spelled_next before bytes r rest j next later = record {
  more = r ∷ later.more;
  records = later.records ∙ append_assoc before (r ∷ []) later.more;
  stand = (next.fits, later.stand);
  same = append_assoc (journal_records.record_bytes r) (journals.records_bytes later.more) j.rest ∙ ap (λ (t : List ℕ). journal_records.record_bytes r ++ t) later.same ∙ sym next.spelled;
}

spelled_step : (most : ℕ) (before : List journal_records.Record) (bytes : List ℕ) (read : reading.Reading journal_records.Record)
    → ((r : journal_records.Record) (rest : List ℕ) → read ≡ ok r rest → IsSpelled before bytes (journals.read_on most (before ++ r ∷ []) rest))
    → IsSpelled before bytes (goes_on most before bytes read)
spelled_step most before bytes (Ok next) later = later next.0 next.1 refl
spelled_step most before bytes (Err why) later = spelled_stop before bytes why

pub spelled_read : (most : ℕ) (before : List journal_records.Record) (bytes : List ℕ) → reading.IsBytes bytes → IsSpelled before bytes (journals.read_on most before bytes)
unfolding journals.read_on
spelled_read zero before bytes fits = spelled_stop before bytes reading.Part
spelled_read (suc most) before bytes fits =
    spelled_step most before bytes (journals.next_at before bytes) (λ r rest e.
    let next = next_is before bytes r rest fits e in
    spelled_next before bytes r rest (journals.read_on most (before ++ r ∷ []) rest) next (spelled_read most (before ++ r ∷ []) rest next.are_bytes))

-- the bytes that a record took are a journal of it alone
pub next_own : (before : List journal_records.Record) (bytes : List ℕ) (r : journal_records.Record) (rest : List ℕ) → reading.IsBytes bytes → journals.next_at before bytes ≡ ok r rest
    → journals.journal_behind before (take (length bytes - length rest) bytes) ≡ journals.whole_journal (before ++ r ∷ [])
next_own before bytes r rest fits e =
    let next = next_is before bytes r rest fits e in
    let size : length (journal_records.record_bytes r) ≡ length bytes - length rest = omega (arith, ap length next.spelled, length-append (journal_records.record_bytes r) rest) in
    let front : take (length bytes - length rest) bytes ≡ journals.records_bytes (r ∷ []) =
    ap (λ (n : ℕ). take n bytes) (sym size)
    ∙ ap (take (length (journal_records.record_bytes r))) next.spelled
    ∙ take_at (journal_records.record_bytes r) rest (length (journal_records.record_bytes r)) refl
    ∙ sym (append-nil (journal_records.record_bytes r)) in
    ap (journals.journal_behind before) front
    ∙ whole_read_all before (r ∷ []) (next.fits, tt) (subst reading.IsBytes front (IsBytes-take (length bytes - length rest) bytes fits))

pub bytes_are : (bytes : List ℕ) → reading.IsBytes bytes → journals.records_bytes (journals.records_of bytes) ++ (journals.journal_of bytes).rest ≡ bytes
bytes_are bytes fits =
    let s = spelled_read (length bytes) [] bytes fits in
    ap (λ (t : List journal_records.Record). journals.records_bytes t ++ (journals.journal_of bytes).rest) s.records ∙ s.same

pub records_stand : (bytes : List ℕ) → reading.IsBytes bytes → appends.StandBehind [] (journals.records_of bytes)
records_stand bytes fits =
    let s = spelled_read (length bytes) [] bytes fits in
    subst (appends.StandBehind []) (sym s.records) s.stand
