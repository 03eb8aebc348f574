-- An upgrade appends the record of the number of entries, or nothing.
use Rattle.std.proofs.Common.{◌≡◌, ℕ, Bool, true, false, List, [], ◌∷◌, ◌++◌, refl, sym, ap, ◌∙◌, subst, inl, inr, append-nil, length, arith}
use Rattle.std.specs.Prelude.{◌⊎◌, ◌||◌}
use Rattle.std.specs.List.{list_any}
use Rattle.std.proofs.lemmas.List.Folds.{list_any-append}
use Rattle.std.proofs.lemmas.List.Sums.{fold-append}
use Rattle.ax_types.specs.Loads as loads
use Rattle.spec_journal.specs.Records as journal_records
use Rattle.spec_journal.specs.Journal as journals
use Rattle.spec_upgrade.specs.Upgrade as upgrades
use Rattle.law_upgrade.specs.UpgradePromise as laws

-- no records, records with a number of entries, and records without one
data Case (records : List journal_records.Record) : Type 0 where
  none : records ≡ [] → upgrades.upgraded_records records ≡ [] → Case records
  new : journals.version_of records ≡ 2 → upgrades.upgraded_records records ≡ records → Case records
  old : (n : ℕ) → upgrades.upgraded_records records ≡ records ++ journal_records.Count n ∷ [] → Case records

case_at : (r : journal_records.Record) (rs : List journal_records.Record) (b : Bool) → journals.has_count (r ∷ rs) ≡ b → Case (r ∷ rs)
case_at r rs true e = new (rw e refl) (rw e (append-nil (r ∷ rs)))
case_at r rs false e = old (length (journals.content (r ∷ rs)).log) (rw e refl)

case_of : (records : List journal_records.Record) → Case records
case_of [] = none refl refl
case_of (r ∷ rs) = case_at r rs (journals.has_count (r ∷ rs)) refl

-- the number of entries behind records changes nothing that they leave, and makes them of version 2
counted_content : (records : List journal_records.Record) (n : ℕ) → journals.content (records ++ journal_records.Count n ∷ []) ≡ journals.content records
counted_content records n = fold-append journals.after_record loads.nothing_loaded records (journal_records.Count n ∷ [])

right_true : (b : Bool) → (b || true) ≡ true
right_true true = refl
right_true false = refl

counted : (records : List journal_records.Record) (n : ℕ) → journals.has_count (records ++ journal_records.Count n ∷ []) ≡ true
counted records n = list_any-append journals.is_count records (journal_records.Count n ∷ []) ∙ right_true (list_any journals.is_count records)

version_counted : (records : List journal_records.Record) → journals.has_count records ≡ true → journals.version_of records ≡ 2
version_counted [] e = absurd (grind (arith, e))
version_counted (r ∷ rs) e = rw e refl

counted_again : (records : List journal_records.Record) → journals.version_of records ≡ 2 → upgrades.upgraded_records records ≡ records
counted_again records v = rw v (append-nil records)

keeps_at : (records : List journal_records.Record) → Case records → journals.content (upgrades.upgraded_records records) ≡ journals.content records
keeps_at records (none e u) = ap journals.content (u ∙ sym e)
keeps_at records (new v u) = ap journals.content u
keeps_at records (old n u) = ap journals.content u ∙ counted_content records n

pub keeps : laws.UpgradeKeepsContent
keeps records = keeps_at records (case_of records)

ends_at : (records : List journal_records.Record) → Case records
    → ((records ≡ []) × (journals.version_of (upgrades.upgraded_records records) ≡ 0)) ⊎ (journals.version_of (upgrades.upgraded_records records) ≡ 2)
ends_at records (none e u) = inl (e, ap journals.version_of u)
ends_at records (new v u) = inr (ap journals.version_of u ∙ v)
ends_at records (old n u) = inr (ap journals.version_of u ∙ version_counted (records ++ journal_records.Count n ∷ []) (counted records n))

pub ends : laws.UpgradeEndsVersionOne
ends records = ends_at records (case_of records)

again_at : (records : List journal_records.Record) → Case records → upgrades.upgraded_records (upgrades.upgraded_records records) ≡ upgrades.upgraded_records records
again_at records (none e u) = ap upgrades.upgraded_records (u ∙ sym e)
again_at records (new v u) = ap upgrades.upgraded_records u
again_at records (old n u) =
    counted_again (upgrades.upgraded_records records) (ap journals.version_of u ∙ version_counted (records ++ journal_records.Count n ∷ []) (counted records n))

pub again : laws.SecondUpgradeChangesNothing
again records = again_at records (case_of records)
