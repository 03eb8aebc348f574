-- Writing entries with their places one by one.
use Rattle.std.proofs.Common.{◌≡◌, ℕ, zero, suc, ◌+◌, ◌<◌, ◌≤◌, List, [], ◌∷◌, ◌++◌, length, take, get_or, sym, ap, subst, arith, add-one, append_assoc, ◌∙◌}
use Rattle.std.specs.List.{AllByRecursion}
use Rattle.std.proofs.lemmas.List.{append-nil, take_all}
use Rattle.ax_types.specs.declared.entries.Entry.{Entry}
use Rattle.spec_wire.specs.Ranges as ranges
use Rattle.spec_journal.specs.Records as journal_records
use Rattle.spec_journal.specs.Journal as journals

-- so many of the entries stand behind the bytes that there were before, the last of them at this place
pub record IsPutSoFar (before now : List ℕ) (last place : ℕ) (entries : List Entry) (count : ℕ) : Type 0 where
  pub bytes : now ≡ before ++ journals.records_bytes (journals.placed_records (last + 1) (take count entries))
  pub at : place ≡ last + count
  pub fits : AllByRecursion ranges.FitsEntry (take count entries)

pub none_put : (before : List ℕ) (last : ℕ) (entries : List Entry) → IsPutSoFar before before last last entries 0
none_put before last entries = record { bytes = sym (append-nil before); at = omega arith; fits = tt }

each_fits : (xs : List Entry) (i : ℕ) (x : Entry) → i < length xs → x ≡ get_or xs i x → AllByRecursion ranges.FitsEntry (take i xs) → ranges.FitsEntry x → AllByRecursion ranges.FitsEntry (take (suc i) xs)
each_fits [] i x lt same all p = absurd (omega arith)
each_fits (y ∷ xs) zero x lt same all p = (subst ranges.FitsEntry same p, tt)
each_fits (y ∷ xs) (suc i) x lt same all p = (all.0, each_fits xs i x (omega arith) same all.1 p)

each_put : (place : ℕ) (xs : List Entry) (i : ℕ) (x : Entry) → i < length xs → x ≡ get_or xs i x
    → journals.records_bytes (journals.placed_records place (take (suc i) xs)) ≡ journals.records_bytes (journals.placed_records place (take i xs)) ++ journal_records.record_bytes (journal_records.Placed (place + i) x)
each_put place [] i x lt same = absurd (omega arith)
each_put place (y ∷ xs) zero x lt same =
    let at : place ≡ place + 0 = omega arith in
    append-nil (journal_records.record_bytes (journal_records.Placed place y))
    ∙ ap (λ (e : Entry). journal_records.record_bytes (journal_records.Placed place e)) (sym same)
    ∙ ap (λ (n : ℕ). journal_records.record_bytes (journal_records.Placed n x)) at
each_put place (y ∷ xs) (suc i) x lt same =
    let at : (place + 1) + i ≡ place + suc i = omega arith in
    ap (λ (t : List ℕ). journal_records.record_bytes (journal_records.Placed place y) ++ t) (each_put (place + 1) xs i x (omega arith) same)
    ∙ sym (append_assoc (journal_records.record_bytes (journal_records.Placed place y)) (journals.records_bytes (journals.placed_records (place + 1) (take i xs))) (journal_records.record_bytes (journal_records.Placed ((place + 1) + i) x)))
    ∙ ap (λ (n : ℕ). journals.records_bytes (journals.placed_records place (y ∷ take i xs)) ++ journal_records.record_bytes (journal_records.Placed n x)) at

pub one_more_put : (before now next : List ℕ) (last place : ℕ) (entries : List Entry) (count : ℕ) (x : Entry) → count < length entries → x ≡ get_or entries count x
    → IsPutSoFar before now last place entries count → next ≡ now ++ journal_records.record_bytes (journal_records.Placed (place + 1) x) → ranges.FitsEntry x
    → IsPutSoFar before next last (place + 1) entries (count + 1)
one_more_put before now next last place entries count x lt same so_far put fits =
    let at : place + 1 ≡ (last + 1) + count = omega (arith, so_far.at) in
    rw (add-one count) (record {
      bytes =
          put
          ∙ ap (λ (n : ℕ). now ++ journal_records.record_bytes (journal_records.Placed n x)) at
          ∙ ap (λ (t : List ℕ). t ++ journal_records.record_bytes (journal_records.Placed ((last + 1) + count) x)) so_far.bytes
          ∙ append_assoc before (journals.records_bytes (journals.placed_records (last + 1) (take count entries))) (journal_records.record_bytes (journal_records.Placed ((last + 1) + count) x))
          ∙ ap (λ (t : List ℕ). before ++ t) (sym (each_put (last + 1) entries count x lt same));
      at = omega (arith, so_far.at);
      fits = each_fits entries count x lt same so_far.fits fits;
    })

pub record IsPut (before now : List ℕ) (last : ℕ) (entries : List Entry) : Type 0 where
  pub bytes : now ≡ before ++ journals.records_bytes (journals.placed_records (last + 1) entries)
  pub fits : AllByRecursion ranges.FitsEntry entries

pub all_put : (before now : List ℕ) (last place : ℕ) (entries : List Entry) (count : ℕ) → length entries ≤ count → IsPutSoFar before now last place entries count → IsPut before now last entries
all_put before now last place entries count le so_far =
    let all : take count entries ≡ entries = take_all count entries le in
    record {
      bytes = so_far.bytes ∙ ap (λ (t : List Entry). before ++ journals.records_bytes (journals.placed_records (last + 1) t)) all;
      fits = subst (AllByRecursion ranges.FitsEntry) all so_far.fits;
    }
