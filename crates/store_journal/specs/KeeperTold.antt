-- What a keeper tells of its bytes, and what each of its calls does to them.
use Rattle.std.specs.Prelude.{◌≡◌, ◌<◌, ◌≤◌, ℕ, List, length, take, Option, Some, None, Result, Ok, Err, IsErrOf}
use Rattle.ax_types.specs.declared.refusals.KeeperError.{KeeperError}
use Rattle.ax_types.specs.declared.refusals.KeeperError.TheVariants as keeper_error
use Rattle.ax_io.specs.Count as counts
use Rattle.ax_io.specs.Content as contents

-- what a call did to the count of faults: it did not fall, and `Failed` means that it rose
pub record KeeperCounted {T : Type 0} (before now : ℕ) (result : Result T KeeperError) : Type 0 where
  pub never_falls : before ≤ now
  pub rises : IsErrOf result keeper_error.Failed → counts.Rose before now

-- a strict front of the bytes was appended
pub record IsTorn (before now : Option (List ℕ)) (bytes : List ℕ) : Type 0 where
  pub count : ℕ
  pub fewer : count < length bytes
  pub same : now ≡ contents.append_told before (take count bytes)

-- what appending does: all of the bytes, or after `Failed` a strict front of them
abbrev pub Appends : Option (List ℕ) → Option (List ℕ) → List ℕ → Result (Unit {0}) KeeperError → Type 0
Appends before now bytes (Ok _) = now ≡ contents.append_told before bytes
Appends before now bytes (Err keeper_error.Failed) = IsTorn before now bytes
Appends before now bytes (Err keeper_error.NoMemory) = now ≡ before

-- the first bytes, so many of them
abbrev pub take_told : ℕ → Option (List ℕ) → Option (List ℕ)
take_told count None = None
take_told count (Some content) = Some (take count content)

-- what trimming does
abbrev pub Trims : Option (List ℕ) → Option (List ℕ) → ℕ → Result (Unit {0}) KeeperError → Type 0
Trims before now count (Ok _) = now ≡ take_told count before
Trims before now count (Err _) = now ≡ before

-- the bytes are those that are told
abbrev pub AreBytes : Option (List ℕ) → Result (List ℕ) KeeperError → Type 0
AreBytes (Some content) (Ok bytes) = bytes ≡ content
AreBytes _ _ = Unit {0}
