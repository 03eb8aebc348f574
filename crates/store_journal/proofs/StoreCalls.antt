-- The calls of a store over a journal, where the keeper's bytes are told and where they are not.
use Rattle.std.proofs.Common.{◌≡◌, ◌≢◌, ℕ, ◌+◌, ◌<◌, ◌≤◌, List, [], ◌∷◌, ◌++◌, length, min, Bool, true, false, Option, Some, None, Result, Ok, Err, refl, sym, ap, subst, arith, ◌∙◌}
use Rattle.std.specs.Prelude.{◌^◌}
use Rattle.std.specs.List.{AllByRecursion}
use Rattle.std.proofs.lemmas.List.{length-append, length-take}
use Rattle.std.proofs.lemmas.Grind.{flat_map-append}
use Rattle.ax_types.specs.declared.entries.Entry.{Entry}
use Rattle.ax_types.specs.declared.entries.Upgraded.{Upgraded}
use Rattle.ax_types.specs.declared.refusals.StoreError.{StoreError}
use Rattle.ax_types.specs.declared.refusals.StoreError.TheVariants as store_error
use Rattle.ax_io.specs.Content as contents
use Rattle.spec_wire.specs.Ranges as ranges
use Rattle.spec_reading.specs.Reading as reading
use Rattle.spec_node.specs.Saving as saving
use Rattle.spec_journal.specs.Records as journal_records
use Rattle.spec_journal.specs.Journal as journals
use Rattle.store_journal.specs.StoreTold as stores
use Rattle.store_journal.specs.Journaled as journaled
use Rattle.store_journal.proofs.CallsKept.{AreOf, vote_records_are, cut_records_are, add_records_are, kept_whole, call_saves, untold_saves}

-- an append has a byte
some_record : (first : List journal_records.Record) (r : journal_records.Record) (records : List journal_records.Record) → journals.records_bytes (first ++ r ∷ records) ≡ [] → ⊥
some_record first r records e =
    omega (arith, ap length e, ap length (flat_map-append journal_records.record_bytes first (r ∷ records)), length-append (journals.records_bytes first) (journals.records_bytes (r ∷ records)), length-append (journal_records.record_bytes r) (journals.records_bytes records), a_byte r)
  where
    a_byte : (r : journal_records.Record) → 1 ≤ length (journal_records.record_bytes r)
    a_byte (journal_records.Vote term vote) = omega arith
    a_byte (journal_records.Cut last) = omega arith
    a_byte (journal_records.Plain entry) = omega arith
    a_byte (journal_records.Count entries) = omega arith
    a_byte (journal_records.Placed place entry) = omega arith

pub some_bytes : (out : List ℕ) (first : List journal_records.Record) (r : journal_records.Record) (records : List journal_records.Record) → out ≡ journals.records_bytes (first ++ r ∷ records) → out ≢ []
some_bytes out first r records same e = some_record first r records (sym same ∙ e)

-- what is appended by what is known is what is appended behind the records
by_known : (bytes : List ℕ) (counted : Bool) (entries : ℕ) (f : Bool → ℕ → List journal_records.Record) → journaled.IsWhole bytes counted entries
    → journals.records_bytes (f counted entries) ≡ journals.records_bytes (f (journals.has_count (journals.records_of bytes)) (length (journals.content (journals.records_of bytes)).log))
by_known bytes counted entries f is =
    ap (λ (b : Bool). journals.records_bytes (f b entries)) is.counted
    ∙ ap (λ (n : ℕ). journals.records_bytes (f (journals.has_count (journals.records_of bytes)) n)) is.entries

-- a call appends what is known: this many entries are kept then
pub record Appends (content : Option (List ℕ)) (counted : Bool) (entries : ℕ) (call : saving.Save) (count : ℕ) (out : List ℕ) : Type 0 where
  pub whole : journaled.IsWholeTold (contents.append_told content out) true count
  pub saves : (now : Option (List ℕ)) (result : Result (Unit {0}) StoreError) → journaled.Appended content now out result → stores.Saves call (journaled.journal_told content) (journaled.journal_told now) result

untold : (counted : Bool) (entries : ℕ) (call : saving.Save) (count : ℕ) (out : List ℕ) → Appends None counted entries call count out
untold counted entries call count out = record { whole = tt; saves = untold_saves call out }

told : (bytes : List ℕ) (counted : Bool) (entries : ℕ) (call : saving.Save) (count : ℕ) (out : List ℕ) (records : List journal_records.Record)
    → journaled.IsWhole bytes counted entries → AreOf (journals.records_of bytes) records call → reading.IsBytes out → out ≡ journals.records_bytes records
    → count ≡ length (saving.saved (journals.content (journals.records_of bytes)) call).log
    → Appends (Some bytes) counted entries call count out
told bytes counted entries call count out records is are fits same length_is = record {
  whole = kept_whole bytes out counted entries count records call is are fits same length_is;
  saves = λ now result done. call_saves bytes out counted entries records call now result is are fits same done;
}

pub vote_appends : (content : Option (List ℕ)) (counted : Bool) (entries term : ℕ) (vote : Option ℕ) (out : List ℕ) → journaled.IsWholeTold content counted entries
    → ranges.IsNumber entries → ranges.IsNumber term → journal_records.IsVote vote → reading.IsBytes out
    → out ≡ journals.records_bytes (journaled.first_of counted entries ++ journal_records.Vote term vote ∷ []) → Appends content counted entries (saving.Vote term vote) entries out
vote_appends None counted entries term vote out is room ft fv fits same = untold counted entries (saving.Vote term vote) entries out
vote_appends (Some bytes) counted entries term vote out is room ft fv fits same =
    told bytes counted entries (saving.Vote term vote) entries out (journals.vote_records (journals.records_of bytes) term vote) is
    (vote_records_are (journals.records_of bytes) term vote (subst ranges.IsNumber is.entries room) ft fv) fits
    (same ∙ by_known bytes counted entries (λ c n. journaled.first_of c n ++ journal_records.Vote term vote ∷ []) is) is.entries

pub cut_appends : (content : Option (List ℕ)) (counted : Bool) (entries last : ℕ) (out : List ℕ) → journaled.IsWholeTold content counted entries
    → ranges.IsNumber entries → ranges.IsNumber last → reading.IsBytes out
    → out ≡ journals.records_bytes (journaled.first_of counted entries ++ journal_records.Cut last ∷ []) → Appends content counted entries (saving.Cut last) (min last entries) out
cut_appends None counted entries last out is room fl fits same = untold counted entries (saving.Cut last) (min last entries) out
cut_appends (Some bytes) counted entries last out is room fl fits same =
    told bytes counted entries (saving.Cut last) (min last entries) out (journals.cut_records (journals.records_of bytes) last) is
    (cut_records_are (journals.records_of bytes) last (subst ranges.IsNumber is.entries room) fl) fits
    (same ∙ by_known bytes counted entries (λ c n. journaled.first_of c n ++ journal_records.Cut last ∷ []) is)
    (ap (min last) is.entries ∙ sym (length-take last (journals.content (journals.records_of bytes)).log))

pub add_appends : (content : Option (List ℕ)) (counted : Bool) (entries : ℕ) (added : List Entry) (count : ℕ) (out : List ℕ) → journaled.IsWholeTold content counted entries
    → added ≢ [] → count ≡ entries + length added → count < 2 ^ 64 → AllByRecursion ranges.FitsEntry added → reading.IsBytes out
    → out ≡ journals.records_bytes (journaled.first_of counted entries ++ journals.placed_records (entries + 1) added) → Appends content counted entries (saving.Add added) count out
add_appends None counted entries added count out is some sum room fa fits same = untold counted entries (saving.Add added) count out
add_appends (Some bytes) counted entries [] count out is some sum room fa fits same = absurd (some refl)
add_appends (Some bytes) counted entries (e ∷ added) count out is some sum room fa fits same =
    let total : count ≡ length (journals.content (journals.records_of bytes)).log + length (e ∷ added) = omega (arith, sum, is.entries) in
    told bytes counted entries (saving.Add (e ∷ added)) count out (journals.add_records (journals.records_of bytes) (e ∷ added)) is
    (add_records_are (journals.records_of bytes) e added (omega (arith, total, room)) fa) fits
    (same ∙ by_known bytes counted entries (λ c n. journaled.first_of c n ++ journals.placed_records (n + 1) (e ∷ added)) is)
    (total ∙ sym (length-append (journals.content (journals.records_of bytes)).log (e ∷ added)))

-- what is known of the fields is known of the store
pub known : {K : Type 0} (content : K → Option (List ℕ)) (keeper : K) (needs counted : Bool) (entries : ℕ) (now : journaled.Journaled K) → record { keeper = keeper; needs_load = needs } ≡ now
    → now.needs_load ≡ false → (needs ≡ false → journaled.IsWholeTold (content keeper) counted entries) → journaled.IsWholeTold (content now.keeper) counted entries
known {K = K} content keeper needs counted entries now is loaded invariant =
    subst (λ (s : journaled.Journaled K). journaled.IsWholeTold (content s.keeper) counted entries) is
    (invariant (subst (λ (s : journaled.Journaled K). s.needs_load ≡ false) (sym is) loaded))

pub add_some : (out : List ℕ) (first : List journal_records.Record) (place : ℕ) (added : List Entry) → added ≢ [] → out ≡ journals.records_bytes (first ++ journals.placed_records place added) → out ≢ []
add_some out first place [] some same e = some refl
add_some out first place (x ∷ added) some same e = some_record first (journal_records.Placed place x) (journals.placed_records (place + 1) added) (sym same ∙ e)

pub not_bad : (before now : Option (List ℕ)) (bytes : List ℕ) (result : Result (Unit {0}) StoreError) → journaled.Appended before now bytes result → journaled.IsNotBad result
not_bad before now bytes (Ok u) done = tt
not_bad before now bytes (Err store_error.Failed) done = tt
not_bad before now bytes (Err store_error.NoMemory) done = tt
not_bad before now bytes (Err (store_error.Bad at)) none = none

pub upgrade_fails : (told : stores.Told) (before now : ℕ) (e : StoreError) → journaled.IsNotBad (Err e) → stores.Upgrades told before now (Err e)
upgrade_fails (stores.Content kept) before now store_error.Failed other = tt
upgrade_fails (stores.Content kept) before now store_error.NoMemory other = tt
upgrade_fails (stores.Content kept) before now (store_error.Bad at) other = absurd other
upgrade_fails (stores.Bad b) before now store_error.Failed other = tt
upgrade_fails (stores.Bad b) before now store_error.NoMemory other = tt
upgrade_fails (stores.Bad b) before now (store_error.Bad at) other = absurd other
upgrade_fails stores.Untold before now e other = tt

pub upgrade_fails_as : (told : stores.Told) (before now : ℕ) (result : Result Upgraded StoreError) (e : StoreError) → journaled.IsNotBad (Err e) → result ≡ Err e → stores.Upgrades told before now result
upgrade_fails_as told before now result e other same = subst (stores.Upgrades told before now) (sym same) (upgrade_fails told before now e other)
