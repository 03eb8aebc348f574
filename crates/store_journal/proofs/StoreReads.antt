-- Reading the journal of a store, where the keeper's bytes are told and where they are not.
use Rattle.std.proofs.Common.{◌≡◌, ℕ, zero, suc, ◌<◌, ◌≤◌, List, [], ◌∷◌, ◌++◌, length, take, Bool, true, false, cond, Option, Some, None, Result, Ok, Err, refl, sym, ap, subst, arith, ◌∙◌}
use Rattle.std.specs.Prelude.{◌||◌, OnOk}
use Rattle.std.proofs.lemmas.Bool.{ne_eqb}
use Rattle.std.proofs.lemmas.List.{append-nil, length-append}
use Rattle.std.proofs.lemmas.List.Folds.{list_any-append}
use Rattle.ax_types.specs.declared.entries.Loaded.{Loaded}
use Rattle.ax_types.specs.declared.refusals.KeeperError.{KeeperError}
use Rattle.ax_types.specs.declared.refusals.KeeperError.TheVariants as keeper_error
use Rattle.ax_types.specs.declared.refusals.StoreError.{StoreError}
use Rattle.ax_types.specs.declared.refusals.StoreError.TheVariants as store_error
use Rattle.ax_io.specs.Content as contents
use Rattle.spec_wire.specs.Ranges as ranges
use Rattle.spec_reading.specs.Reading as reading
use Rattle.law_reading.proofs.Fields.{IsBytes-take}
use Rattle.spec_journal.specs.Records as journal_records
use Rattle.spec_journal.specs.Journal as journals
use Rattle.law_journal.specs.Appends as appends
use Rattle.law_journal.proofs.CallRecords.{content-more}
use Rattle.store_journal.specs.StoreTold as stores
use Rattle.store_journal.specs.KeeperTold as keepers
use Rattle.store_journal.specs.Journaled as journaled
use Rattle.store_journal.proofs.Grown.{grown, grown_torn, whole_of, trimmed, untrimmed, IsBytes-append}

-- ---- the same records

pub same_again : (before now : Option (List ℕ)) → now ≡ before → journaled.AreSameRecords before now
same_again before now e = subst (journaled.AreSameRecords before) (sym e) (itself before)
  where
    itself : (content : Option (List ℕ)) → journaled.AreSameRecords content content
    itself None = tt
    itself (Some bytes) = (refl, refl)

told_by_parts : List journal_records.Record → reading.Fault → stores.Told
told_by_parts records why = journaled.answer_told (journals.loaded_of (record { records = records; rest = []; why = why }))

pub same_told : (before now : Option (List ℕ)) → journaled.AreSameRecords before now → journaled.journal_told now ≡ journaled.journal_told before
unfolding told_by_parts
same_told None None same = refl
same_told None (Some now) same = absurd same
same_told (Some before) None same = absurd same
same_told (Some before) (Some now) same =
    ap (λ (rs : List journal_records.Record). told_by_parts rs (journals.journal_of now).why) same.0
    ∙ ap (told_by_parts (journals.records_of before)) same.1

pub same_version : (before now : Option (List ℕ)) → journaled.AreSameRecords before now → journaled.version_told now ≡ journaled.version_told before
same_version None None same = refl
same_version None (Some now) same = absurd same
same_version (Some before) None same = absurd same
same_version (Some before) (Some now) same = ap journals.version_of same.0

-- ---- after a trim, or where there is nothing to trim

pub record IsReadWhole (before now : Option (List ℕ)) (counted : Bool) (entries : ℕ) : Type 0 where
  pub is : journaled.IsWholeTold now counted entries
  pub same : journaled.AreSameRecords before now

whole_now : (bytes now : List ℕ) → reading.IsBytes now → (journals.journal_of bytes).why ≡ reading.Part → journals.journal_of now ≡ journals.whole_journal (journals.records_of bytes)
    → IsReadWhole (Some bytes) (Some now) (journals.has_count (journals.records_of bytes)) (length (journals.content (journals.records_of bytes)).log)
whole_now bytes now fits part e =
    let records : journals.records_of now ≡ journals.records_of bytes = ap (λ (j : journals.Journal). j.records) e in
    record {
      is = record {
        are_bytes = fits;
        whole = whole_of (journals.journal_of now) (journals.records_of bytes) e;
        counted = ap journals.has_count (sym records);
        entries = ap (λ (rs : List journal_records.Record). length (journals.content rs).log) (sym records);
      };
      same = (records, ap (λ (j : journals.Journal). j.why) e ∙ sym part);
    }

pub read_trimmed : (before now : Option (List ℕ)) (bytes : List ℕ) → keepers.AreBytes before (Ok bytes) → reading.IsBytes bytes → (journals.journal_of bytes).why ≡ reading.Part
    → now ≡ keepers.take_told (journals.whole (journals.records_of bytes)) before
    → IsReadWhole before now (journals.has_count (journals.records_of bytes)) (length (journals.content (journals.records_of bytes)).log)
read_trimmed None now bytes are fits part e = subst (λ (c : Option (List ℕ)). IsReadWhole None c (journals.has_count (journals.records_of bytes)) (length (journals.content (journals.records_of bytes)).log)) (sym e) (record { is = tt; same = tt })
read_trimmed (Some content) now bytes are fits part e =
    subst (λ (c : Option (List ℕ)). IsReadWhole (Some content) c (journals.has_count (journals.records_of bytes)) (length (journals.content (journals.records_of bytes)).log)) (sym e)
    (subst (λ (c : List ℕ). IsReadWhole (Some c) (Some (take (journals.whole (journals.records_of bytes)) c)) (journals.has_count (journals.records_of bytes)) (length (journals.content (journals.records_of bytes)).log)) are
    (whole_now bytes (take (journals.whole (journals.records_of bytes)) bytes) (IsBytes-take (journals.whole (journals.records_of bytes)) bytes fits) part (trimmed bytes fits)))

pub read_untrimmed : (before now : Option (List ℕ)) (bytes : List ℕ) → keepers.AreBytes before (Ok bytes) → reading.IsBytes bytes → (journals.journal_of bytes).why ≡ reading.Part
    → length bytes ≤ journals.whole (journals.records_of bytes) → now ≡ before
    → IsReadWhole before now (journals.has_count (journals.records_of bytes)) (length (journals.content (journals.records_of bytes)).log)
read_untrimmed None now bytes are fits part le e = subst (λ (c : Option (List ℕ)). IsReadWhole None c (journals.has_count (journals.records_of bytes)) (length (journals.content (journals.records_of bytes)).log)) (sym e) (record { is = tt; same = tt })
read_untrimmed (Some content) now bytes are fits part le e =
    subst (λ (c : Option (List ℕ)). IsReadWhole (Some content) c (journals.has_count (journals.records_of bytes)) (length (journals.content (journals.records_of bytes)).log)) (sym e)
    (subst (λ (c : List ℕ). IsReadWhole (Some c) (Some c) (journals.has_count (journals.records_of bytes)) (length (journals.content (journals.records_of bytes)).log)) are
    (whole_now bytes bytes fits part (untrimmed bytes fits le part)))

pub trims_whole : (before now : Option (List ℕ)) (bytes : List ℕ) (whole : ℕ) (result : Result (Unit {0}) KeeperError) → keepers.AreBytes before (Ok bytes) → reading.IsBytes bytes → (journals.journal_of bytes).why ≡ reading.Part
    → whole ≡ journals.whole (journals.records_of bytes) → keepers.Trims before now whole result
    → OnOk result (journaled.IsWholeTold now (journals.has_count (journals.records_of bytes)) (length (journals.content (journals.records_of bytes)).log)) × journaled.AreSameRecords before now
trims_whole before now bytes whole (Ok u) are fits part is done =
    let all = read_trimmed before now bytes are fits part (done ∙ ap (λ (n : ℕ). keepers.take_told n before) is) in (all.is, all.same)
trims_whole before now bytes whole (Err keeper_error.Failed) are fits part is kept = (tt, same_again before now kept)
trims_whole before now bytes whole (Err keeper_error.NoMemory) are fits part is kept = (tt, same_again before now kept)

-- ---- what loading answers

told-part : (bytes : List ℕ) → (journals.journal_of bytes).why ≡ reading.Part → journaled.journal_told (Some bytes) ≡ stores.Content (journals.content (journals.records_of bytes))
unfolding told_by_parts
told-part bytes part = ap (told_by_parts (journals.records_of bytes)) part

told-wrong : (bytes : List ℕ) → (journals.journal_of bytes).why ≡ reading.Wrong → journaled.journal_told (Some bytes) ≡ stores.Bad (journals.whole (journals.records_of bytes))
unfolding told_by_parts
told-wrong bytes wrong = ap (told_by_parts (journals.records_of bytes)) wrong

pub loads_content : (bytes : List ℕ) (loaded : Loaded) → (journals.journal_of bytes).why ≡ reading.Part → loaded ≡ journals.content (journals.records_of bytes) → stores.IsLoaded (journaled.journal_told (Some bytes)) (Ok loaded)
loads_content bytes loaded part same = subst (λ (t : stores.Told). stores.IsLoaded t (Ok loaded)) (sym (told-part bytes part)) same

pub loads_bad : (bytes : List ℕ) (at : ℕ) → (journals.journal_of bytes).why ≡ reading.Wrong → at ≡ journals.whole (journals.records_of bytes) → stores.IsLoaded (journaled.journal_told (Some bytes)) (Err (store_error.Bad at))
loads_bad bytes at wrong same = subst (λ (t : stores.Told). stores.IsLoaded t (Err (store_error.Bad at))) (sym (told-wrong bytes wrong)) same

pub loads_none : (told : stores.Told) (e : StoreError) → ((at : ℕ) → e ≡ store_error.Bad at → ⊥) → stores.IsLoaded told (Err e)
loads_none (stores.Content c) store_error.Failed other = tt
loads_none (stores.Content c) store_error.NoMemory other = tt
loads_none (stores.Content c) (store_error.Bad at) other = absurd (other at refl)
loads_none (stores.Bad b) store_error.Failed other = tt
loads_none (stores.Bad b) store_error.NoMemory other = tt
loads_none (stores.Bad b) (store_error.Bad at) other = absurd (other at refl)
loads_none stores.Untold e other = tt

-- ---- the record of the number of entries

count_stands : (bytes : List ℕ) (counted : Bool) (entries : ℕ) → journaled.IsWhole bytes counted entries → journals.has_count (journals.records_of bytes) ≡ false → ranges.IsNumber entries
    → appends.StandBehind (journals.records_of bytes) (journal_records.Count entries ∷ [])
count_stands bytes counted entries is plain room = ((plain, is.entries, room), tt)

counts : (records : List journal_records.Record) (n : ℕ) → journals.has_count (records ++ journal_records.Count n ∷ []) ≡ true
counts records n = list_any-append journals.is_count records (journal_records.Count n ∷ []) ∙ either (journals.has_count records)
  where
    either : (b : Bool) → (b || true) ≡ true
    either true = refl
    either false = refl

version_counted : (records : List journal_records.Record) → journals.has_count records ≡ true → journals.version_of records ≡ 2
version_counted [] is = absurd cc
version_counted (r ∷ records) is = ap (λ (b : Bool). cond b 2 1) is

count_whole : (bytes out : List ℕ) (counted : Bool) (entries : ℕ) → journaled.IsWhole bytes counted entries → journals.has_count (journals.records_of bytes) ≡ false → ranges.IsNumber entries → reading.IsBytes out
    → out ≡ journals.records_bytes (journal_records.Count entries ∷ []) → journals.journal_of (bytes ++ out) ≡ journals.whole_journal (journals.records_of bytes ++ journal_records.Count entries ∷ [])
count_whole bytes out counted entries is plain room fits same =
    ap (λ (t : List ℕ). journals.journal_of (bytes ++ t)) same
    ∙ grown bytes (journal_records.Count entries ∷ []) is.are_bytes is.whole (count_stands bytes counted entries is plain room) (subst reading.IsBytes same fits)

pub count_keeps_whole : (content : Option (List ℕ)) (out : List ℕ) (counted : Bool) (entries : ℕ) → journaled.IsWholeTold content counted entries → journaled.IsPlainTold content → ranges.IsNumber entries → reading.IsBytes out
    → out ≡ journals.records_bytes (journal_records.Count entries ∷ []) → journaled.IsWholeTold (contents.append_told content out) true entries
count_keeps_whole None out counted entries is plain room fits same = tt
count_keeps_whole (Some bytes) out counted entries is plain room fits same =
    let all = count_whole bytes out counted entries is plain room fits same in
    record {
      are_bytes = IsBytes-append bytes out is.are_bytes fits;
      whole = whole_of (journals.journal_of (bytes ++ out)) (journals.records_of bytes ++ journal_records.Count entries ∷ []) all;
      counted = sym (ap (λ (j : journals.Journal). journals.has_count j.records) all ∙ counts (journals.records_of bytes) entries);
      entries = is.entries ∙ sym (ap (λ (j : journals.Journal). length (journals.content j.records).log) all ∙ ap (λ (c : Loaded). length c.log) (content-more (journals.records_of bytes) (journal_records.Count entries ∷ [])));
    }

told-end : (bytes : List ℕ) (records : List journal_records.Record) (rest : List ℕ) → journals.journal_of bytes ≡ record { records = records; rest = rest; why = reading.Part }
    → journaled.journal_told (Some bytes) ≡ stores.Content (journals.content records)
told-end bytes records rest e = ap (λ (j : journals.Journal). journaled.answer_told (journals.loaded_of j)) e

-- a strict front of one record leaves none
none_of_one : (records : List journal_records.Record) (r : journal_records.Record) (count : ℕ) → count < 1 → journals.content (records ++ take count (r ∷ [])) ≡ journals.content records
none_of_one records r zero lt = ap journals.content (append-nil records)
none_of_one records r (suc n) lt = absurd (omega arith)

pub count_tells : (content now : Option (List ℕ)) (out : List ℕ) (counted : Bool) (entries : ℕ) (result : Result (Unit {0}) StoreError) → journaled.IsWholeTold content counted entries → journaled.IsPlainTold content → ranges.IsNumber entries → reading.IsBytes out
    → out ≡ journals.records_bytes (journal_records.Count entries ∷ []) → journaled.Appended content now out result → journaled.journal_told now ≡ journaled.journal_told content
count_tells None now out counted entries (Ok u) is plain room fits same done = ap journaled.journal_told done
count_tells None now out counted entries (Err store_error.Failed) is plain room fits same torn = ap journaled.journal_told torn.same
count_tells None now out counted entries (Err (store_error.Bad at)) is plain room fits same none = absurd none
count_tells None now out counted entries (Err store_error.NoMemory) is plain room fits same kept = ap journaled.journal_told kept
count_tells (Some bytes) now out counted entries (Ok u) is plain room fits same done =
    ap journaled.journal_told done
    ∙ told-end (bytes ++ out) (journals.records_of bytes ++ journal_records.Count entries ∷ []) [] (count_whole bytes out counted entries is plain room fits same)
    ∙ ap stores.Content (content-more (journals.records_of bytes) (journal_records.Count entries ∷ []))
    ∙ sym (told-end bytes (journals.records_of bytes) [] is.whole)
count_tells (Some bytes) now out counted entries (Err store_error.Failed) is plain room fits same torn =
    let law = grown_torn bytes (journal_records.Count entries ∷ []) torn.count is.are_bytes is.whole (count_stands bytes counted entries is plain room) (subst reading.IsBytes same fits) (subst (λ (t : List ℕ). torn.count < length t) same torn.fewer) in
    ap journaled.journal_told torn.same
    ∙ ap (λ (t : List ℕ). journaled.journal_told (Some (bytes ++ take torn.count t))) same
    ∙ told-end (bytes ++ take torn.count (journals.records_bytes (journal_records.Count entries ∷ []))) (journals.records_of bytes ++ take law.count (journal_records.Count entries ∷ [])) law.torn law.is
    ∙ ap stores.Content (none_of_one (journals.records_of bytes) (journal_records.Count entries) law.count law.fewer)
    ∙ sym (told-end bytes (journals.records_of bytes) [] is.whole)
count_tells (Some bytes) now out counted entries (Err (store_error.Bad at)) is plain room fits same none = absurd none
count_tells (Some bytes) now out counted entries (Err store_error.NoMemory) is plain room fits same kept = ap journaled.journal_told kept

pub count_is_counted : (content now : Option (List ℕ)) (out : List ℕ) (counted : Bool) (entries : ℕ) → journaled.IsWholeTold content counted entries → journaled.IsPlainTold content → ranges.IsNumber entries → reading.IsBytes out
    → out ≡ journals.records_bytes (journal_records.Count entries ∷ []) → now ≡ contents.append_told content out → journaled.IsCountedTold content now
count_is_counted None now out counted entries is plain room fits same done = tt
count_is_counted (Some bytes) now out counted entries is plain room fits same done =
    let all = count_whole bytes out counted entries is plain room fits same in
    ap journaled.version_told done
    ∙ ap (λ (j : journals.Journal). journals.version_of j.records) all
    ∙ version_counted (journals.records_of bytes ++ journal_records.Count entries ∷ []) (counts (journals.records_of bytes) entries)

pub on_ok : (content now : Option (List ℕ)) (out : List ℕ) (counted : Bool) (entries : ℕ) (result : Result (Unit {0}) StoreError) → journaled.IsWholeTold content counted entries → journaled.IsPlainTold content → ranges.IsNumber entries → reading.IsBytes out
    → out ≡ journals.records_bytes (journal_records.Count entries ∷ []) → journaled.Appended content now out result → OnOk result (journaled.IsCountedTold content now)
on_ok content now out counted entries (Ok u) is plain room fits same done = count_is_counted content now out counted entries is plain room fits same done
on_ok content now out counted entries (Err e) is plain room fits same done = tt

-- ---- versions

a_byte : (r : journal_records.Record) → 1 ≤ length (journal_records.record_bytes r)
a_byte (journal_records.Vote term vote) = omega arith
a_byte (journal_records.Cut last) = omega arith
a_byte (journal_records.Plain entry) = omega arith
a_byte (journal_records.Count entries) = omega arith
a_byte (journal_records.Placed place entry) = omega arith

pub version_is : (records : List journal_records.Record) → journaled.version_by (journals.whole records) (journals.has_count records) ≡ journals.version_of records
version_is [] = refl
version_is (r ∷ records) =
    let some : journals.whole (r ∷ records) ≡ 0 → ⊥ = λ e. omega (arith, e, length-append (journal_records.record_bytes r) (journals.records_bytes records), a_byte r) in
    ap (λ (b : Bool). cond b 0 (cond (journals.has_count (r ∷ records)) 2 1)) (ne_eqb (journals.whole (r ∷ records)) 0 some)
