-- An append that lacks its end: its first records are whole, and the rest is a part of the next one.
use Rattle.std.proofs.Common.{◌≡◌, ℕ, suc, ◌+◌, List, [], ◌∷◌, ◌++◌, length, take, refl, sym, ap, subst, append_assoc, arith, ◌∙◌, ◌⊎◌, inl, inr}
use Rattle.std.proofs.lemmas.Bool.{cases_lt}
use Rattle.std.proofs.lemmas.List.{append-nil, get_or_append_left, get_or_past, get_or-append-add}
use Rattle.spec_reading.specs.Reading as reading
use Rattle.spec_journal.specs.Records as journal_records
use Rattle.spec_journal.specs.Journal as journals
use Rattle.law_journal.specs.Appends as appends
use Rattle.law_journal.proofs.RecordsRead.{record_front}
use Rattle.law_journal.proofs.RecordByRecord.{next_stop, whole_read}

abbrev Splits : List ℕ → List ℕ → List ℕ → List ℕ → Type 0
Splits a b c d = ((x : ℕ) × (e : List ℕ) × (a ≡ c ++ (x ∷ e))) ⊎ ((e : List ℕ) × (c ≡ a ++ e) × (b ≡ e ++ d))

-- of two ways to cut one list the second is before the first, or behind it
split : (a b c d : List ℕ) → a ++ b ≡ c ++ d → Splits a b c d
split [] b c d h = inr (c, refl, h)
split (x ∷ a) b [] d h = inl (x, a, refl)
split (x ∷ a) b (y ∷ c) d h =
    let head : x ≡ y = cc in
    let tail : a ++ b ≡ c ++ d = cc in
    elim (split a b c d tail) [
      | inl s ↦ inl (s.0, s.1, cc (s.2))
      | inr s ↦ inr (s.0, cc (s.1), s.2)
    ]

no_front : (front : List ℕ) (b : ℕ) (more : List ℕ) → [] ≡ front ++ (b ∷ more) → ⊥
no_front [] b more h = cc
no_front (c ∷ front) b more h = cc

IsBytes-front : (xs ys : List ℕ) → reading.IsBytes (xs ++ ys) → reading.IsBytes xs
IsBytes-front xs ys h i =
    elim (cases_lt i (length xs)) [
      | inl lt ↦ omega (arith, get_or_append_left xs ys 0 i lt, h i)
      | inr le ↦ omega (arith, get_or_past xs i 0 le)
    ]

IsBytes-behind : (xs ys : List ℕ) → reading.IsBytes (xs ++ ys) → reading.IsBytes ys
IsBytes-behind xs ys h i = omega (arith, get_or-append-add xs ys i 0, h (length xs + i))

-- the first record is torn
torn_now : (before : List journal_records.Record) (r : journal_records.Record) (records : List journal_records.Record) (front : List ℕ) (x : ℕ) (e : List ℕ)
    → journal_records.FitsRecord (journals.has_count before) (length (journals.content before).log) r → journal_records.record_bytes r ≡ front ++ (x ∷ e) → reading.IsBytes (x ∷ e)
    → appends.IsTornAppend before (r ∷ records) (journals.journal_behind before front)
torn_now before r records front x e fits same bytes = record {
  count = 0;
  torn = front;
  fewer = omega arith;
  is =
      next_stop before front reading.Part (record_front (journals.has_count before) (length (journals.content before).log) r front x e fits bytes same)
      ∙ ap (λ (t : List journal_records.Record). record { records = t; rest = front; why = reading.Part }) (sym (append-nil before));
}

-- the first record is whole, and the torn one is behind it
torn_later : (before : List journal_records.Record) (r : journal_records.Record) (records : List journal_records.Record) (front rest : List ℕ) → front ≡ journal_records.record_bytes r ++ rest
    → journal_records.FitsRecord (journals.has_count before) (length (journals.content before).log) r → reading.IsBytes (journal_records.record_bytes r ++ rest)
    → appends.IsTornAppend (before ++ r ∷ []) records (journals.journal_behind (before ++ r ∷ []) rest)
    → appends.IsTornAppend before (r ∷ records) (journals.journal_behind before front)
torn_later before r records front rest same fits bytes later =
    let one : journals.records_bytes (r ∷ []) ++ rest ≡ journal_records.record_bytes r ++ rest = ap (λ (t : List ℕ). t ++ rest) (append-nil (journal_records.record_bytes r)) in
    record {
      count = suc later.count;
      torn = later.torn;
      fewer = omega (arith, later.fewer);
      is =
          ap (journals.journal_behind before) (same ∙ sym one)
          ∙ whole_read before (r ∷ []) rest (fits, tt) (subst reading.IsBytes (sym one) bytes)
          ∙ later.is
          ∙ ap (λ (t : List journal_records.Record). record { records = t; rest = later.torn; why = reading.Part }) (append_assoc before (r ∷ []) (take later.count records));
    }

pub torn_read : (before records : List journal_records.Record) (front : List ℕ) (b : ℕ) (more : List ℕ) → appends.StandBehind before records
    → reading.IsBytes (journals.records_bytes records) → journals.records_bytes records ≡ front ++ (b ∷ more) → appends.IsTornAppend before records (journals.journal_behind before front)
torn_read before [] front b more stand bytes same = absurd (no_front front b more same)
torn_read before (r ∷ records) front b more stand bytes same =
    elim (split (journal_records.record_bytes r) (journals.records_bytes records) front (b ∷ more) same) [
      | inl s ↦
          let own : reading.IsBytes (front ++ (s.0 ∷ s.1)) = subst reading.IsBytes s.2 (IsBytes-front (journal_records.record_bytes r) (journals.records_bytes records) bytes) in
          torn_now before r records front s.0 s.1 stand.0 s.2 (IsBytes-behind front (s.0 ∷ s.1) own)
      | inr s ↦
          let others : reading.IsBytes (journals.records_bytes records) = IsBytes-behind (journal_records.record_bytes r) (journals.records_bytes records) bytes in
          let later = torn_read (before ++ r ∷ []) records s.0 b more stand.1 others s.2 in
          let own : reading.IsBytes (journal_records.record_bytes r ++ s.0) = IsBytes-front (journal_records.record_bytes r ++ s.0) (b ∷ more) (subst reading.IsBytes (same ∙ ap (λ (t : List ℕ). t ++ (b ∷ more)) s.1) bytes) in
          torn_later before r records front s.0 (s.1) stand.0 own later
    ]
