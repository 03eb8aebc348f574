-- What each call of a store appends leaves what the call keeps, and a strict front of it what the call may leave.
use Rattle.std.proofs.Common.{◌≡◌, ℕ, ◌+◌, ◌<◌, ◌≤◌, List, [], ◌∷◌, ◌++◌, length, take, Bool, true, false, Option, Some, None, Result, Ok, Err, refl, sym, ap, subst, arith, ◌∙◌}
use Rattle.std.specs.Prelude.{◌^◌, ◌||◌}
use Rattle.std.specs.List.{AllByRecursion}
use Rattle.std.proofs.lemmas.List.{append-nil}
use Rattle.std.proofs.lemmas.List.Folds.{list_any-append}
use Rattle.ax_types.specs.declared.entries.Entry.{Entry}
use Rattle.ax_types.specs.declared.entries.Loaded.{Loaded}
use Rattle.ax_types.specs.declared.refusals.StoreError.{StoreError}
use Rattle.ax_types.specs.declared.refusals.StoreError.TheVariants as store_error
use Rattle.spec_wire.specs.Ranges as ranges
use Rattle.spec_reading.specs.Reading as reading
use Rattle.spec_node.specs.Saving as saving
use Rattle.spec_journal.specs.Records as journal_records
use Rattle.spec_journal.specs.Journal as journals
use Rattle.law_journal.specs.Appends as appends
use Rattle.law_journal.proofs.CallRecords.{vote_is, cut_is, entries_are}
use Rattle.store_journal.specs.StoreTold as stores
use Rattle.store_journal.specs.Journaled as journaled
use Rattle.store_journal.proofs.Grown.{grown, grown_torn, whole_of, IsBytes-append}

-- so many of the records leave the first ones of the entries at stake
pub record LeavesFirst (before records : List journal_records.Record) (call : saving.Save) (count : ℕ) : Type 0 where
  pub added : ℕ
  pub within : added ≤ length (saving.at_stake (Some call))
  pub is : journals.content (before ++ take count records) ≡ saving.with_rest (journals.content before) (saving.at_stake (Some call)) added

-- these records, behind those before, are what the call appends
pub record AreOf (before records : List journal_records.Record) (call : saving.Save) : Type 0 where
  pub stand : appends.StandBehind before records
  pub whole : journals.content (before ++ records) ≡ saving.saved (journals.content before) call
  pub part : (count : ℕ) → count < length records → LeavesFirst before records call count
  pub counted : journals.has_count (before ++ records) ≡ true

-- ---- the calls

counted-more : (before records : List journal_records.Record) → journals.has_count (before ++ records) ≡ (journals.has_count before || journals.has_count records)
counted-more before records = list_any-append journals.is_count before records

first_counts : (before : List journal_records.Record) (counted : Bool) (n : ℕ) (records : List journal_records.Record) → journals.has_count before ≡ counted
    → journals.has_count (before ++ (journaled.first_of counted n ++ records)) ≡ true
first_counts before true n records is = counted-more before records ∙ ap (λ (b : Bool). b || journals.has_count records) is
first_counts before false n records is = counted-more before (journal_records.Count n ∷ records) ∙ ap (λ (b : Bool). b || true) is

none_left : (c : Loaded) → saving.with_rest c [] 0 ≡ c
none_left c = ap (λ (log : List Entry). record { term = c.term; vote = c.vote; log = log }) (append-nil c.log)

pub vote_records_are : (before : List journal_records.Record) (term : ℕ) (vote : Option ℕ) → ranges.IsNumber (length (journals.content before).log) → ranges.IsNumber term → journal_records.IsVote vote
    → AreOf before (journals.vote_records before term vote) (saving.Vote term vote)
vote_records_are before term vote room ft fv =
    let law = vote_is before term vote room ft fv in
    record {
      stand = law.stand;
      whole = law.whole;
      part = λ count lt. record { added = 0; within = omega arith; is = law.part count lt ∙ sym (none_left (journals.content before)) };
      counted = first_counts before (journals.has_count before) _ (journal_records.Vote term vote ∷ []) refl;
    }

pub cut_records_are : (before : List journal_records.Record) (last : ℕ) → ranges.IsNumber (length (journals.content before).log) → ranges.IsNumber last
    → AreOf before (journals.cut_records before last) (saving.Cut last)
cut_records_are before last room fl =
    let law = cut_is before last room fl in
    record {
      stand = law.stand;
      whole = law.whole;
      part = λ count lt. record { added = 0; within = omega arith; is = law.part count lt ∙ sym (none_left (journals.content before)) };
      counted = first_counts before (journals.has_count before) _ (journal_records.Cut last ∷ []) refl;
    }

pub add_records_are : (before : List journal_records.Record) (e : Entry) (entries : List Entry) → length (journals.content before).log + length (e ∷ entries) < 2 ^ 64 → AllByRecursion ranges.FitsEntry (e ∷ entries)
    → AreOf before (journals.add_records before (e ∷ entries)) (saving.Add (e ∷ entries))
add_records_are before e entries room fits =
    let law = entries_are before (e ∷ entries) room fits in
    record {
      stand = law.stand;
      whole = law.whole;
      part = λ count lt. let some = law.part count lt in record { added = some.added; within = some.within; is = some.is };
      counted = first_counts before (journals.has_count before) _ (journals.placed_records (length (journals.content before).log + 1) (e ∷ entries)) refl;
    }

-- ---- what they keep

told-whole : (bytes : List ℕ) (records : List journal_records.Record) → journals.journal_of bytes ≡ journals.whole_journal records → journaled.journal_told (Some bytes) ≡ stores.Content (journals.content records)
told-whole bytes records e = ap (λ (j : journals.Journal). journaled.answer_told (journals.loaded_of j)) e

told-torn : (bytes : List ℕ) (records : List journal_records.Record) (torn : List ℕ) → journals.journal_of bytes ≡ record { records = records; rest = torn; why = reading.Part }
    → journaled.journal_told (Some bytes) ≡ stores.Content (journals.content records)
told-torn bytes records torn e = ap (λ (j : journals.Journal). journaled.answer_told (journals.loaded_of j)) e

-- after the call the bytes are whole
pub kept_whole : (bytes out : List ℕ) (counted : Bool) (entries count : ℕ) (records : List journal_records.Record) (call : saving.Save)
    → journaled.IsWhole bytes counted entries → AreOf (journals.records_of bytes) records call → reading.IsBytes out → out ≡ journals.records_bytes records
    → count ≡ length (saving.saved (journals.content (journals.records_of bytes)) call).log
    → journaled.IsWhole (bytes ++ out) true count
kept_whole bytes out counted entries count records call is are fits same length_is =
    let all : journals.journal_of (bytes ++ out) ≡ journals.whole_journal (journals.records_of bytes ++ records) =
    ap (λ (t : List ℕ). journals.journal_of (bytes ++ t)) same ∙ grown bytes records is.are_bytes is.whole are.stand (subst reading.IsBytes same fits) in
    record {
      are_bytes = IsBytes-append bytes out is.are_bytes fits;
      whole = whole_of (journals.journal_of (bytes ++ out)) (journals.records_of bytes ++ records) all;
      counted = sym (ap (λ (j : journals.Journal). journals.has_count j.records) all ∙ are.counted);
      entries = length_is ∙ sym (ap (λ (j : journals.Journal). length (journals.content j.records).log) all ∙ ap (λ (c : Loaded). length c.log) are.whole);
    }

left_told : (kept : Loaded) (call : saving.Save) (told : stores.Told) (added : ℕ) → added ≤ length (saving.at_stake (Some call)) → told ≡ stores.Content (saving.with_rest kept (saving.at_stake (Some call)) added)
    → stores.IsLeftTold kept call told
left_told kept call told added within e = subst (stores.IsLeftTold kept call) (sym e) (record { added = added; within = within; same = refl })

saves_by : (bytes out : List ℕ) (records : List journal_records.Record) (call : saving.Save) (now : Option (List ℕ)) (result : Result (Unit {0}) StoreError)
    → reading.IsBytes bytes → journals.journal_of bytes ≡ journals.whole_journal (journals.records_of bytes) → AreOf (journals.records_of bytes) records call → reading.IsBytes out → out ≡ journals.records_bytes records
    → journaled.Appended (Some bytes) now out result
    → stores.Saves call (stores.Content (journals.content (journals.records_of bytes))) (journaled.journal_told now) result
saves_by bytes out records call now (Ok u) fits whole are fits_out same done =
    let all : journals.journal_of (bytes ++ out) ≡ journals.whole_journal (journals.records_of bytes ++ records) =
    ap (λ (t : List ℕ). journals.journal_of (bytes ++ t)) same ∙ grown bytes records fits whole are.stand (subst reading.IsBytes same fits_out) in
    ap journaled.journal_told done ∙ told-whole (bytes ++ out) (journals.records_of bytes ++ records) all ∙ ap stores.Content are.whole
saves_by bytes out records call now (Err store_error.Failed) fits whole are fits_out same torn =
    let law = grown_torn bytes records torn.count fits whole are.stand (subst reading.IsBytes same fits_out) (subst (λ (t : List ℕ). torn.count < length t) same torn.fewer) in
    let part = are.part law.count law.fewer in
    left_told (journals.content (journals.records_of bytes)) call (journaled.journal_told now) part.added part.within
    (ap journaled.journal_told torn.same
    ∙ ap (λ (t : List ℕ). journaled.journal_told (Some (bytes ++ take torn.count t))) same
    ∙ told-torn (bytes ++ take torn.count (journals.records_bytes records)) (journals.records_of bytes ++ take law.count records) law.torn law.is
    ∙ ap stores.Content part.is)
saves_by bytes out records call now (Err (store_error.Bad at)) fits whole are fits_out same none = none
saves_by bytes out records call now (Err store_error.NoMemory) fits whole are fits_out same kept =
    ap journaled.journal_told kept ∙ told-whole bytes (journals.records_of bytes) whole

pub call_saves : (bytes out : List ℕ) (counted : Bool) (entries : ℕ) (records : List journal_records.Record) (call : saving.Save) (now : Option (List ℕ)) (result : Result (Unit {0}) StoreError)
    → journaled.IsWhole bytes counted entries → AreOf (journals.records_of bytes) records call → reading.IsBytes out → out ≡ journals.records_bytes records
    → journaled.Appended (Some bytes) now out result
    → stores.Saves call (journaled.journal_told (Some bytes)) (journaled.journal_told now) result
call_saves bytes out counted entries records call now result is are fits same done =
    subst (λ (t : stores.Told). stores.Saves call t (journaled.journal_told now) result) (sym (told-whole bytes (journals.records_of bytes) is.whole))
    (saves_by bytes out records call now result is.are_bytes is.whole are fits same done)

pub untold_saves : (call : saving.Save) (out : List ℕ) (now : Option (List ℕ)) (result : Result (Unit {0}) StoreError) → journaled.Appended None now out result
    → stores.Saves call stores.Untold (journaled.journal_told now) result
untold_saves call out now (Ok u) done = ap journaled.journal_told done
untold_saves call out now (Err store_error.Failed) torn = ap journaled.journal_told torn.same
untold_saves call out now (Err (store_error.Bad at)) none = none
untold_saves call out now (Err store_error.NoMemory) kept = ap journaled.journal_told kept
