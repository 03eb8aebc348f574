-- What an upgrade leaves of a journal's records.
use Rattle.std.specs.Prelude.{ℕ, ◌≡◌, ◌⊎◌, List, []}
use Rattle.spec_journal.specs.Records as journal_records
use Rattle.spec_journal.specs.Journal as journals
use Rattle.spec_upgrade.specs.Upgrade as upgrades

abbrev pub UpgradeKeepsContent : Type 0
UpgradeKeepsContent = (records : List journal_records.Record) → journals.content (upgrades.upgraded_records records) ≡ journals.content records

abbrev pub UpgradeEndsVersionOne : Type 0
UpgradeEndsVersionOne = (records : List journal_records.Record) →
    ((records ≡ []) × (journals.version_of (upgrades.upgraded_records records) ≡ 0)) ⊎ (journals.version_of (upgrades.upgraded_records records) ≡ 2)

abbrev pub SecondUpgradeChangesNothing : Type 0
SecondUpgradeChangesNothing = (records : List journal_records.Record) → upgrades.upgraded_records (upgrades.upgraded_records records) ≡ upgrades.upgraded_records records
