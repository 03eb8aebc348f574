-- What an upgrade finds in the stores of a cluster, what it leaves of them, and what it writes.
use Rattle.std.specs.Prelude.{ℕ, suc, ◌≡◌, ◌≤◌, ◌<◌, ⊤, Bool, false, Option, Some, None, List, [], ◌∷◌, length}
use Rattle.ax_types.specs.Places as lists
use Rattle.ax_types.specs.declared.entries.Upgraded.{Upgraded}
use Rattle.ax_io.specs.Count as counts
use Rattle.spec_report.specs.Items as report_items
use Rattle.spec_upgrade.specs.Upgrade as upgrades
use Rattle.store_journal.specs.StoreTold as stores
use Rattle.store_upgrade.specs.declared.upgrading.UpgradeRefused.{UpgradeRefused}
use Rattle.store_upgrade.specs.declared.upgrading.UpgradeRefused.TheVariants as refused

-- ---- what is found

-- the lines of what was found in stores, the first of them of this node
abbrev pub found_lines : ℕ → List Upgraded → List (List ℕ)
found_lines node [] = []
found_lines node (u ∷ us) = upgrades.upgrade_line node u ∷ found_lines (suc node) us

-- what is written of what was found in the stores of nodes 1, 2, 3 ..
abbrev pub found_text : List Upgraded → List ℕ
found_text us = report_items.lines_text (found_lines 1 us)

-- this is found in a store, by what it tells: its version, and the number of its entries
abbrev pub IsFinding : stores.Told → ℕ → Upgraded → Type 0
IsFinding (stores.Content content) version u = (u.version ≡ version) × (u.entries ≡ length content.log)
IsFinding (stores.Bad at) version u = ⊥
IsFinding stores.Untold version u = ⊤

abbrev pub IsFindingAt : {S : Type 0} → (S → stores.Told) → (S → ℕ) → Option S → Option Upgraded → Type 0
IsFindingAt told version (Some store) (Some u) = IsFinding (told store) (version store) u
IsFindingAt told version _ _ = ⊥

-- this is found in the first stores, one after the other
abbrev pub AreFindingsUpTo : {S : Type 0} → (S → stores.Told) → (S → ℕ) → ℕ → List S → List Upgraded → Type 0
AreFindingsUpTo told version count stores us = (k : ℕ) → 1 ≤ k → k ≤ count → IsFindingAt told version (lists.at_place stores k) (lists.at_place us k)

-- this is found in stores, one after the other
pub record AreFindings {S : Type 0} (told : S → stores.Told) (version : S → ℕ) (stores : List S) (us : List Upgraded) : Type 0 where
  pub size : length us ≡ length stores
  pub each : AreFindingsUpTo told version (length stores) stores us

-- the text is that of what is found in stores
pub record IsUpgradeText {S : Type 0} (told : S → stores.Told) (version : S → ℕ) (stores : List S) (text : List ℕ) : Type 0 where
  pub found : List Upgraded
  pub each : AreFindings told version stores found
  pub written : text ≡ found_text found

-- ---- what is left

-- the version that an upgrade leaves, by what the store tells
abbrev pub IsLeftVersion : stores.Told → ℕ → ℕ → Type 0
IsLeftVersion (stores.Content content) before now = now ≡ stores.upgraded_version before
IsLeftVersion (stores.Bad at) before now = ⊥
IsLeftVersion stores.Untold before now = ⊤

-- a store was upgraded, and tells what it told
pub record IsUpgradedStore {S : Type 0} (told : S → stores.Told) (version : S → ℕ) (needs_load : S → Bool) (before now : S) : Type 0 where
  pub left : IsLeftVersion (told before) (version before) (version now)
  pub same : told now ≡ told before
  pub loaded : needs_load now ≡ false

-- the stores at these places before and after
abbrev pub UpgradedAt : {S : Type 0} → (S → stores.Told) → (S → ℕ) → (S → Bool) → Option S → Option S → Type 0
UpgradedAt told version needs_load (Some before) (Some now) = IsUpgradedStore told version needs_load before now
UpgradedAt told version needs_load _ _ = ⊥

-- the first stores were upgraded
abbrev pub AreUpgraded : {S : Type 0} → (S → stores.Told) → (S → ℕ) → (S → Bool) → ℕ → List S → List S → Type 0
AreUpgraded told version needs_load count before now = (k : ℕ) → 1 ≤ k → k ≤ count → UpgradedAt told version needs_load (lists.at_place before k) (lists.at_place now k)

-- the stores behind the first ones are as before
abbrev pub BehindStays : {S : Type 0} → ℕ → List S → List S → Type 0
BehindStays count before now = (k : ℕ) → count < k → lists.at_place now k ≡ lists.at_place before k

-- a store tells what it told
abbrev pub TellsAsBefore : {S : Type 0} → (S → stores.Told) → Option S → Option S → Type 0
TellsAsBefore told (Some before) (Some now) = told now ≡ told before
TellsAsBefore told None None = ⊤
TellsAsBefore told _ _ = ⊥

-- ---- why an upgrade is refused

-- the bytes are no journal from this offset on, as far as is told
abbrev pub IsBadTold : stores.Told → ℕ → Type 0
IsBadTold (stores.Content content) at = ⊥
IsBadTold (stores.Bad offset) at = at ≡ offset
IsBadTold stores.Untold at = ⊤

-- the refusal of a node's store, by what it tells and by its count of faults before and after
abbrev pub RefusesStore : stores.Told → ℕ → ℕ → ℕ → UpgradeRefused → Type 0
RefusesStore told before now node (refused.Bad n at) = (n ≡ node) × IsBadTold told at
RefusesStore told before now node (refused.Fault n) = (n ≡ node) × counts.Rose before now
RefusesStore told before now node refused.NoMemory = ⊤

abbrev pub RefusedAt : {S : Type 0} → (S → stores.Told) → (S → ℕ) → ℕ → UpgradeRefused → Option S → Option S → Type 0
RefusedAt told faults node why (Some before) (Some now) = RefusesStore (told before) (faults before) (faults now) node why
RefusedAt told faults node why _ _ = ⊥

-- the stores are upgraded from the first one on, up to the one at which the upgrade ends
pub record EndsUpgrade {S : Type 0} (told : S → stores.Told) (version : S → ℕ) (needs_load : S → Bool) (faults : S → ℕ) (node : ℕ) (why : UpgradeRefused) (before now : List S) : Type 0 where
  pub above : 1 ≤ node
  pub within : node ≤ length before
  pub below : (k : ℕ) → 1 ≤ k → k < node → UpgradedAt told version needs_load (lists.at_place before k) (lists.at_place now k)
  pub at : RefusedAt told faults node why (lists.at_place before node) (lists.at_place now node)
  pub behind : BehindStays node before now

abbrev pub RefusesUpgrade : {S : Type 0} → (S → stores.Told) → (S → ℕ) → (S → Bool) → (S → ℕ) → List S → List S → UpgradeRefused → Type 0
RefusesUpgrade told version needs_load faults before now (refused.Bad node at) = EndsUpgrade told version needs_load faults node (refused.Bad node at) before now
RefusesUpgrade told version needs_load faults before now (refused.Fault node) = EndsUpgrade told version needs_load faults node (refused.Fault node) before now
RefusesUpgrade told version needs_load faults before now refused.NoMemory = ⊤
