-- What opening finds in the stores of a cluster.
use Rattle.std.specs.Prelude.{ℕ, ◌≡◌, ◌≢◌, ◌≤◌, ◌<◌, ⊤, Bool, false, Option, Some, None, List, Result, Ok, Err}
use Rattle.ax_types.specs.Loads as loads
use Rattle.ax_types.specs.Places as lists
use Rattle.ax_types.specs.declared.entries.Loaded.{Loaded}
use Rattle.ax_io.specs.Count as counts
use Rattle.store_journal.specs.StoreTold as stores
use Rattle.store_opening.specs.declared.opening.Finding.{Finding}
use Rattle.store_opening.specs.declared.opening.Finding.TheVariants as finding
use Rattle.store_opening.specs.declared.opening.OpenRefused.{OpenRefused}
use Rattle.store_opening.specs.declared.opening.OpenRefused.TheVariants as refused

-- a store keeps nothing, as far as it tells
abbrev pub IsEmptyTold : stores.Told → Type 0
IsEmptyTold (stores.Content content) = content ≡ loads.nothing_loaded
IsEmptyTold (stores.Bad at) = ⊥
IsEmptyTold stores.Untold = ⊤

-- a store keeps something, or bytes that are no journal, as far as it tells
abbrev pub IsFullTold : stores.Told → Type 0
IsFullTold (stores.Content content) = content ≢ loads.nothing_loaded
IsFullTold (stores.Bad at) = ⊤
IsFullTold stores.Untold = ⊤

-- what is found in a store, by what it tells and by its count of faults before and after
abbrev pub Finds : stores.Told → ℕ → ℕ → Finding → Type 0
Finds told before now finding.Empty = IsEmptyTold told
Finds told before now finding.Full = IsFullTold told
Finds told before now finding.Faulty = counts.Rose before now

-- what a store tells, whether it needs a load, and its count of faults
pub record OpenState : Type 0 where
  pub told : stores.Told
  pub needs_load : Bool
  pub faults : ℕ

abbrev pub open_state : {S : Type 0} → (S → stores.Told) → (S → Bool) → (S → ℕ) → S → OpenState
open_state told needs_load faults s = record { told = told s; needs_load = needs_load s; faults = faults s }

-- a store was opened, and keeps nothing
pub record IsOpened {S : Type 0} (told : S → stores.Told) (needs_load : S → Bool) (before now : S) : Type 0 where
  pub empty : IsEmptyTold (told before)
  pub same : told now ≡ told before
  pub loaded : needs_load now ≡ false

-- the stores at these places before and after
abbrev pub OpenedAt : {S : Type 0} → (S → stores.Told) → (S → Bool) → Option S → Option S → Type 0
OpenedAt told needs_load (Some before) (Some now) = IsOpened told needs_load before now
OpenedAt told needs_load _ _ = ⊥

-- the first stores were opened, and keep nothing
abbrev pub AreOpened : {S : Type 0} → (S → stores.Told) → (S → Bool) → ℕ → List S → List S → Type 0
AreOpened told needs_load count before now = (k : ℕ) → 1 ≤ k → k ≤ count → OpenedAt told needs_load (lists.at_place before k) (lists.at_place now k)

-- the stores behind the first ones are as before
abbrev pub RestStays : {S : Type 0} → ℕ → List S → List S → Type 0
RestStays count before now = (k : ℕ) → count < k → lists.at_place now k ≡ lists.at_place before k

-- each store tells what it told
abbrev pub TellSame : {S : Type 0} → (S → stores.Told) → Option S → Option S → Type 0
TellSame told (Some before) (Some now) = told now ≡ told before
TellSame told None None = ⊤
TellSame told _ _ = ⊥

-- a store that was found to keep something, or whose count rose
abbrev pub FoundAt : {S : Type 0} → (S → stores.Told) → (S → ℕ) → Finding → Option S → Option S → Type 0
FoundAt told faults found (Some before) (Some now) = Finds (told before) (faults before) (faults now) found
FoundAt told faults found _ _ = ⊥

-- the stores are opened from the first one on, up to the one at which the opening ends
pub record EndsAt {S : Type 0} (told : S → stores.Told) (needs_load : S → Bool) (faults : S → ℕ) (count node : ℕ) (found : Finding) (before now : List S) : Type 0 where
  pub above : 1 ≤ node
  pub within : node ≤ count
  pub below : (k : ℕ) → 1 ≤ k → k < node → OpenedAt told needs_load (lists.at_place before k) (lists.at_place now k)
  pub at : FoundAt told faults found (lists.at_place before node) (lists.at_place now node)

abbrev pub Refuses : {S : Type 0} → (S → stores.Told) → (S → Bool) → (S → ℕ) → ℕ → List S → List S → OpenRefused → Type 0
Refuses told needs_load faults count before now (refused.NotEmpty node) = EndsAt told needs_load faults count node finding.Full before now
Refuses told needs_load faults count before now (refused.Fault node) = EndsAt told needs_load faults count node finding.Faulty before now
Refuses told needs_load faults count before now refused.NoMemory = ⊤
