-- What a store tells of what it keeps, and what each of its calls does to that.
use Rattle.std.specs.Prelude.{◌≡◌, ◌≤◌, ℕ, nat_eq, length, Some, Result, Ok, Err, IsErrOf, if◌then◌else◌}
use Rattle.ax_types.specs.declared.entries.Loaded.{Loaded}
use Rattle.ax_types.specs.declared.entries.Upgraded.{Upgraded}
use Rattle.ax_types.specs.declared.refusals.StoreError.{StoreError}
use Rattle.ax_types.specs.declared.refusals.StoreError.TheVariants as store_error
use Rattle.ax_io.specs.Count as counts
use Rattle.spec_node.specs.Saving as saving

-- the term, the vote and the log; that its bytes are no journal, with the offset of the first byte that belongs to no record; or nothing
pub data Told : Type 0 where
  Content : (content : Loaded) → Told
  Bad : (at : ℕ) → Told
  Untold : Told

-- what a call did to the count of faults: it did not fall, and `Failed` means that it rose
pub record StoreCounted {T : Type 0} (before now : ℕ) (result : Result T StoreError) : Type 0 where
  pub never_falls : before ≤ now
  pub rises : IsErrOf result store_error.Failed → counts.Rose before now

-- what loading answers
abbrev pub IsLoaded : Told → Result Loaded StoreError → Type 0
IsLoaded (Content content) (Ok loaded) = loaded ≡ content
IsLoaded (Content content) (Err (store_error.Bad at)) = ⊥
IsLoaded (Content content) (Err _) = Unit {0}
IsLoaded (Bad at) (Ok loaded) = ⊥
IsLoaded (Bad at) (Err (store_error.Bad offset)) = offset ≡ at
IsLoaded (Bad at) (Err _) = Unit {0}
IsLoaded Untold _ = Unit {0}

-- what a call that failed leaves: of the entries of an `add` the first ones may be kept
pub record IsLeftBy (kept : Loaded) (call : saving.Save) (now : Loaded) : Type 0 where
  pub added : ℕ
  pub within : added ≤ length (saving.at_stake (Some call))
  pub same : now ≡ saving.with_rest kept (saving.at_stake (Some call)) added

abbrev pub IsLeftTold : Loaded → saving.Save → Told → Type 0
IsLeftTold kept call (Content now) = IsLeftBy kept call now
IsLeftTold kept call _ = ⊥

-- what a call that keeps something does to what is told
abbrev pub Saves : saving.Save → Told → Told → Result (Unit {0}) StoreError → Type 0
Saves call _ now (Err (store_error.Bad at)) = ⊥
Saves call (Content kept) now (Ok _) = now ≡ Content (saving.saved kept call)
Saves call (Content kept) now (Err store_error.Failed) = IsLeftTold kept call now
Saves call (Content kept) now (Err store_error.NoMemory) = now ≡ Content kept
Saves call (Bad at) now _ = now ≡ Bad at
Saves call Untold now _ = now ≡ Untold

-- a cut leaves no more entries than are kept
abbrev pub CutsWithin : Told → ℕ → Type 0
CutsWithin (Content kept) last = last ≤ length kept.log
CutsWithin _ last = Unit {0}

-- the version after an upgrade: an empty journal has none
abbrev pub upgraded_version : ℕ → ℕ
upgraded_version version = if nat_eq version 0 then 0 else 2

-- what an upgrade found, and the version that it left
pub record IsUpgraded (kept : Loaded) (before now : ℕ) (found : Upgraded) : Type 0 where
  pub version : found.version ≡ before
  pub entries : found.entries ≡ length kept.log
  pub after : now ≡ upgraded_version before

-- what upgrading answers, by what is told and by the versions before and after
abbrev pub Upgrades : Told → ℕ → ℕ → Result Upgraded StoreError → Type 0
Upgrades (Content kept) before now (Ok found) = IsUpgraded kept before now found
Upgrades (Content kept) before now (Err (store_error.Bad at)) = ⊥
Upgrades (Content kept) before now (Err _) = Unit {0}
Upgrades (Bad at) before now (Ok found) = ⊥
Upgrades (Bad at) before now (Err (store_error.Bad offset)) = offset ≡ at
Upgrades (Bad at) before now (Err _) = Unit {0}
Upgrades Untold before now _ = Unit {0}
