-- What each call of a store appends may stand there, and leaves what the call keeps, or a part of it where it is torn.
use Rattle.std.proofs.Common.{◌≡◌, ℕ, zero, suc, ◌+◌, ◌<◌, Bool, true, false, cond, List, [], ◌∷◌, ◌++◌, length, take, fold, Option, refl, sym, ap, append_assoc, arith, ◌∙◌}
use Rattle.std.specs.Prelude.{◌^◌, ◌||◌}
use Rattle.std.specs.List.{AllByRecursion}
use Rattle.std.proofs.lemmas.List.{length-append, append-nil}
use Rattle.std.proofs.lemmas.List.Folds.{list_any-append}
use Rattle.std.proofs.lemmas.Grind.{fold-append}
use Rattle.ax_types.specs.declared.entries.Entry.{Entry}
use Rattle.ax_types.specs.declared.entries.Loaded.{Loaded}
use Rattle.spec_wire.specs.Ranges as ranges
use Rattle.spec_journal.specs.Records as journal_records
use Rattle.spec_journal.specs.Journal as journals
use Rattle.law_journal.specs.Appends as appends

-- what more records leave
pub content-more : (before records : List journal_records.Record) → journals.content (before ++ records) ≡ fold journals.after_record (journals.content before) records
content-more before records = fold-append journals.after_record _ before records

counted-more : (before records : List journal_records.Record) → journals.has_count (before ++ records) ≡ (journals.has_count before || journals.has_count records)
counted-more before records = list_any-append journals.is_count before records

is_counted_more : (before records : List journal_records.Record) → journals.has_count before ≡ true → journals.has_count (before ++ records) ≡ true
is_counted_more before records is = counted-more before records ∙ ap (λ (b : Bool). b || journals.has_count records) is

counted_now : (before : List journal_records.Record) (n : ℕ) → journals.has_count (before ++ journal_records.Count n ∷ []) ≡ true
counted_now before n = counted-more before (journal_records.Count n ∷ []) ∙ either (journals.has_count before)
  where
    either : (b : Bool) → (b || true) ≡ true
    either true = refl
    either false = refl

same_content : (before : List journal_records.Record) → journals.content (before ++ []) ≡ journals.content before
same_content before = ap journals.content (append-nil before)

-- ---- a vote, or a cut: one record that stands behind any

one_is : (before : List journal_records.Record) (counted : Bool) (r : journal_records.Record) → journals.has_count before ≡ counted → ranges.IsNumber (length (journals.content before).log)
    → ((c : Bool) (n : ℕ) → journal_records.FitsRecord c n r)
    → appends.IsWholeOrNone before (cond counted [] (journal_records.Count (length (journals.content before).log) ∷ []) ++ r ∷ []) (journals.after_record (journals.content before) r)
one_is before true r is room fits = record { stand = (fits _ _, tt); whole = content-more before (r ∷ []); part = part }
  where
    part : (count : ℕ) → count < 1 → journals.content (before ++ take count (r ∷ [])) ≡ journals.content before
    part zero h = same_content before
    part (suc n) h = absurd (omega arith)
one_is before false r is room fits = record { stand = ((is, refl, room), (fits _ _, tt)); whole = content-more before (journal_records.Count _ ∷ r ∷ []); part = part }
  where
    part : (count : ℕ) → count < 2 → journals.content (before ++ take count (journal_records.Count (length (journals.content before).log) ∷ r ∷ [])) ≡ journals.content before
    part zero h = same_content before
    part (suc zero) h = content-more before (journal_records.Count _ ∷ [])
    part (suc (suc n)) h = absurd (omega arith)

pub vote_is : (before : List journal_records.Record) (term : ℕ) (vote : Option ℕ) → ranges.IsNumber (length (journals.content before).log) → ranges.IsNumber term → journal_records.IsVote vote
    → appends.IsWholeOrNone before (journals.vote_records before term vote) (journals.after_record (journals.content before) (journal_records.Vote term vote))
vote_is before term vote room ft fv = one_is before (journals.has_count before) (journal_records.Vote term vote) refl room (λ c n. (ft, fv))

pub cut_is : (before : List journal_records.Record) (last : ℕ) → ranges.IsNumber (length (journals.content before).log) → ranges.IsNumber last
    → appends.IsWholeOrNone before (journals.cut_records before last) (journals.after_record (journals.content before) (journal_records.Cut last))
cut_is before last room fl = one_is before (journals.has_count before) (journal_records.Cut last) refl room (λ c n. fl)

-- ---- entries

with_none : (c : Loaded) → journals.with_entries c [] ≡ c
with_none c = ap (λ (log : List Entry). record { term = c.term; vote = c.vote; log = log }) (append-nil c.log)

-- records of entries behind a record of the number of entries
placed_stand : (before : List journal_records.Record) (place : ℕ) (entries : List Entry) → journals.has_count before ≡ true → place ≡ length (journals.content before).log + 1
    → length (journals.content before).log + length entries < 2 ^ 64 → AllByRecursion ranges.FitsEntry entries
    → appends.StandBehind before (journals.placed_records place entries)
placed_stand before place [] is at room fits = tt
placed_stand before place (e ∷ entries) is at room fits =
    let longer : length (journals.content (before ++ journal_records.Placed place e ∷ [])).log ≡ length (journals.content before).log + 1 =
    ap (λ (c : Loaded). length c.log) (content-more before (journal_records.Placed place e ∷ [])) ∙ length-append (journals.content before).log (e ∷ []) in
    ((is, at, omega arith, fits.0), placed_stand (before ++ journal_records.Placed place e ∷ []) (place + 1) entries (is_counted_more before _ is) (omega (arith, longer)) (omega (arith, longer)) fits.1)

placed_content : (c : Loaded) (place : ℕ) (entries : List Entry) → fold journals.after_record c (journals.placed_records place entries) ≡ journals.with_entries c entries
placed_content c place [] = sym (with_none c)
placed_content c place (e ∷ entries) =
    placed_content (journals.with_entries c (e ∷ [])) (place + 1) entries
    ∙ ap (λ (log : List Entry). record { term = c.term; vote = c.vote; log = log }) (append_assoc c.log (e ∷ []) entries)

take_placed : (count place : ℕ) (entries : List Entry) → take count (journals.placed_records place entries) ≡ journals.placed_records place (take count entries)
take_placed zero place entries = refl
take_placed (suc n) place [] = refl
take_placed (suc n) place (e ∷ entries) = ap (λ (t : List journal_records.Record). journal_records.Placed place e ∷ t) (take_placed n (place + 1) entries)

length-placed : (place : ℕ) (entries : List Entry) → length (journals.placed_records place entries) ≡ length entries
length-placed place [] = refl
length-placed place (e ∷ entries) = ap suc (length-placed (place + 1) entries)

placed_first : (before : List journal_records.Record) (place : ℕ) (entries : List Entry) (count : ℕ)
    → journals.content (before ++ take count (journals.placed_records place entries)) ≡ journals.with_entries (journals.content before) (take count entries)
placed_first before place entries count =
    ap (λ (t : List journal_records.Record). journals.content (before ++ t)) (take_placed count place entries)
    ∙ content-more before (journals.placed_records place (take count entries))
    ∙ placed_content (journals.content before) place (take count entries)

none_added : (before : List journal_records.Record) (records : List journal_records.Record) (entries : List Entry) → appends.AddsFirst before records entries zero
none_added before records entries = record { added = 0; within = omega arith; is = same_content before ∙ sym (with_none (journals.content before)) }

counted_first : (before : List journal_records.Record) (n : ℕ) (records : List journal_records.Record) → journals.content (before ++ (journal_records.Count n ∷ records)) ≡ journals.content (before ++ records)
counted_first before n records = content-more before (journal_records.Count n ∷ records) ∙ sym (content-more before records)

added_is : (before : List journal_records.Record) (counted : Bool) (entries : List Entry) → journals.has_count before ≡ counted
    → length (journals.content before).log + length entries < 2 ^ 64 → AllByRecursion ranges.FitsEntry entries
    → appends.IsAdded before (cond counted [] (journal_records.Count (length (journals.content before).log) ∷ []) ++ journals.placed_records (length (journals.content before).log + 1) entries) entries
added_is before true entries is room fits = record {
  stand = placed_stand before _ entries is refl room fits;
  whole = content-more before (journals.placed_records _ entries) ∙ placed_content (journals.content before) _ entries;
  part = λ count lt. record { added = count; within = omega (arith, lt, length-placed (length (journals.content before).log + 1) entries); is = placed_first before _ entries count };
}
added_is before false entries is room fits = record { stand = stand; whole = whole; part = part }
  where
    at : ℕ
    at = length (journals.content before).log + 1

    own : journal_records.Record
    own = journal_records.Count (length (journals.content before).log)

    behind : journals.content (before ++ journal_records.Count (length (journals.content before).log) ∷ []) ≡ journals.content before
    behind = counted_first before _ [] ∙ same_content before

    stand : appends.StandBehind before (journal_records.Count (length (journals.content before).log) ∷ journals.placed_records (length (journals.content before).log + 1) entries)
    stand =
        let later : appends.StandBehind (before ++ journal_records.Count (length (journals.content before).log) ∷ []) (journals.placed_records (length (journals.content before).log + 1) entries) =
        placed_stand (before ++ journal_records.Count (length (journals.content before).log) ∷ []) _ entries (counted_now before _)
        (ap (λ (c : Loaded). length c.log + 1) (sym behind)) (omega (arith, ap (λ (c : Loaded). length c.log) behind, room)) fits in
        ((is, refl, omega (arith, room)), later)

    whole : journals.content (before ++ (journal_records.Count (length (journals.content before).log) ∷ journals.placed_records (length (journals.content before).log + 1) entries)) ≡ journals.with_entries (journals.content before) entries
    whole = content-more before _ ∙ placed_content (journals.content before) _ entries

    part : (count : ℕ) → count < suc (length (journals.placed_records (length (journals.content before).log + 1) entries))
        → appends.AddsFirst before (journal_records.Count (length (journals.content before).log) ∷ journals.placed_records (length (journals.content before).log + 1) entries) entries count
    part zero lt = none_added before _ entries
    part (suc n) lt = record {
      added = n;
      within = omega (arith, lt, length-placed (length (journals.content before).log + 1) entries);
      is = counted_first before _ (take n (journals.placed_records _ entries)) ∙ placed_first before _ entries n;
    }

pub entries_are : (before : List journal_records.Record) (entries : List Entry) → length (journals.content before).log + length entries < 2 ^ 64 → AllByRecursion ranges.FitsEntry entries
    → appends.IsAdded before (journals.add_records before entries) entries
entries_are before [] room fits = record {
  stand = tt;
  whole = same_content before ∙ sym (with_none (journals.content before));
  part = λ count lt. absurd (omega arith);
}
entries_are before (e ∷ entries) room fits = added_is before (journals.has_count before) (e ∷ entries) refl room fits
