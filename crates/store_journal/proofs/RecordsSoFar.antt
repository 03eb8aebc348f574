-- Reading a journal record by record: what was read so far, and what is left.
use Rattle.std.proofs.Common.{◌≡◌, ℕ, ◌-◌, ◌<◌, ◌≤◌, List, [], ◌∷◌, ◌++◌, length, Bool, true, false, Ok, Err, refl, sym, ap, subst, arith, append_assoc, ◌∙◌}
use Rattle.std.specs.Prelude.{◌||◌}
use Rattle.std.proofs.lemmas.List.{append-nil, length-append}
use Rattle.std.proofs.lemmas.List.Folds.{list_any-append}
use Rattle.std.proofs.lemmas.Grind.{flat_map-append}
use Rattle.ax_types.specs.declared.entries.Loaded.{Loaded}
use Rattle.spec_reading.specs.Reading as reading
use Rattle.spec_journal.specs.Records as journal_records
use Rattle.spec_journal.specs.Journal as journals
use Rattle.law_journal.proofs.RecordByRecord.{next_is, next_whole, next_stop}
use Rattle.law_journal.proofs.CallRecords.{content-more}
use Rattle.store_journal.specs.LeftBy as left_by

pub record IsReadSoFar (bytes : List ℕ) (left : left_by.Left) (rest : List ℕ) : Type 0 where
  pub before : List journal_records.Record
  pub left_is : left ≡ left_by.left_of before
  pub spelled : journals.records_bytes before ++ rest ≡ bytes
  pub are_bytes : reading.IsBytes rest
  pub same : journals.journal_of bytes ≡ journals.journal_behind before rest

pub none_read : (bytes : List ℕ) → reading.IsBytes bytes → IsReadSoFar bytes (left_by.left_of []) bytes
none_read bytes fits = record { before = []; left_is = refl; spelled = refl; are_bytes = fits; same = refl }

or_false : (b : Bool) → (b || false) ≡ b
or_false true = refl
or_false false = refl

left-more : (before : List journal_records.Record) (r : journal_records.Record) → left_by.left_then (left_by.left_of before) r ≡ left_by.left_of (before ++ r ∷ [])
left-more before r =
    ap (λ (b : Bool). made (journals.after_record (journals.content before) r) b) (sym (list_any-append journals.is_count before (r ∷ []) ∙ ap (λ (b : Bool). journals.has_count before || b) (or_false (journals.is_count r))))
    ∙ ap (λ (c : Loaded). made c (journals.has_count (before ++ r ∷ []))) (sym (content-more before (r ∷ [])))
  where
    made : Loaded → Bool → left_by.Left
    made content counted = record { content = content; counted = counted }

pub one_more_read : (bytes : List ℕ) (left : left_by.Left) (rest : List ℕ) (r : journal_records.Record) (next : List ℕ) → IsReadSoFar bytes left rest
    → journal_records.record_at left.counted (length left.content.log) rest ≡ Ok (r, next) → IsReadSoFar bytes (left_by.left_then left r) next
one_more_read bytes left rest r next so_far e =
    let is : journals.next_at so_far.before rest ≡ Ok (r, next) = subst (λ (l : left_by.Left). journal_records.record_at l.counted (length l.content.log) rest ≡ Ok (r, next)) so_far.left_is e in
    let n = next_is so_far.before rest r next so_far.are_bytes is in
    record {
      before = so_far.before ++ r ∷ [];
      left_is = ap (λ (l : left_by.Left). left_by.left_then l r) so_far.left_is ∙ left-more so_far.before r;
      spelled =
          ap (λ (t : List ℕ). t ++ next) (flat_map-append journal_records.record_bytes so_far.before (r ∷ []) ∙ ap (λ (t : List ℕ). journals.records_bytes so_far.before ++ t) (append-nil (journal_records.record_bytes r)))
          ∙ append_assoc (journals.records_bytes so_far.before) (journal_records.record_bytes r) next
          ∙ ap (λ (t : List ℕ). journals.records_bytes so_far.before ++ t) (sym n.spelled)
          ∙ so_far.spelled;
      are_bytes = n.are_bytes;
      same = so_far.same ∙ next_whole so_far.before rest r next so_far.are_bytes is;
    }

pub less_is_left : (bytes : List ℕ) (left : left_by.Left) (rest : List ℕ) (r : journal_records.Record) (next : List ℕ) → IsReadSoFar bytes left rest
    → journal_records.record_at left.counted (length left.content.log) rest ≡ Ok (r, next) → length next < length rest
less_is_left bytes left rest r next so_far e =
    let is : journals.next_at so_far.before rest ≡ Ok (r, next) = subst (λ (l : left_by.Left). journal_records.record_at l.counted (length l.content.log) rest ≡ Ok (r, next)) so_far.left_is e in
    (next_is so_far.before rest r next so_far.are_bytes is).shorter

-- all whole records were read
pub record IsReadTo (bytes : List ℕ) (left : left_by.Left) (whole : ℕ) (why : reading.Fault) : Type 0 where
  pub left_is : left ≡ left_by.left_of (journals.records_of bytes)
  pub whole_is : whole ≡ journals.whole (journals.records_of bytes)
  pub why_is : (journals.journal_of bytes).why ≡ why

pub all_read : (bytes : List ℕ) (left : left_by.Left) (rest : List ℕ) (why : reading.Fault) → IsReadSoFar bytes left rest
    → journal_records.record_at left.counted (length left.content.log) rest ≡ Err why → IsReadTo bytes left (length bytes - length rest) why
all_read bytes left rest why so_far e =
    let is : journals.next_at so_far.before rest ≡ Err why = subst (λ (l : left_by.Left). journal_records.record_at l.counted (length l.content.log) rest ≡ Err why) so_far.left_is e in
    let end = so_far.same ∙ next_stop so_far.before rest why is in
    let records : journals.records_of bytes ≡ so_far.before = ap (λ (j : journals.Journal). j.records) end in
    record {
      left_is = so_far.left_is ∙ ap left_by.left_of (sym records);
      whole_is = omega (arith, ap journals.whole records, ap length so_far.spelled, length-append (journals.records_bytes so_far.before) rest);
      why_is = ap (λ (j : journals.Journal). j.why) end;
    }

pub left_within : (bytes : List ℕ) (left : left_by.Left) (rest : List ℕ) → IsReadSoFar bytes left rest → length rest ≤ length bytes
left_within bytes left rest so_far = omega (arith, ap length so_far.spelled, length-append (journals.records_bytes so_far.before) rest)
