-- What a run of the program leaves of its source.
use Rattle.std.specs.Prelude.{◌≡◌, ℕ, List, [], drop, Option, None, Some, IfSome, Result, Ok, Err}
use Rattle.ax_io.specs.Content as ax_io_content
use Rattle.ax_types.specs.declared.statuses.Status.{Status}
use Rattle.ax_types.specs.declared.statuses.Status.TheVariants as status
use Rattle.run_top.specs.declared.refusals.Refused.{Refused}
use Rattle.run_top.specs.declared.refusals.Refused.TheVariants as refused

-- what is left of an input behind the bytes of the longest script and one more
unfoldable pub rest_of : List ℕ → List ℕ
rest_of content = drop 1048577 content

abbrev pub script_rest : Option (List ℕ) → Option (List ℕ)
script_rest None = None
script_rest (Some content) = Some (rest_of content)

-- no byte is left
abbrev pub IsReadOut : Option (List ℕ) → Type 0
IsReadOut now = IfSome now (λ content. content ≡ [])

abbrev pub IsAllRead : Option (List ℕ) → Option (List ℕ) → Type 0
IsAllRead before now = (now ≡ script_rest before) × IsReadOut now

-- what is left by a report or its refusal: of a script that is taken nothing, of one that is refused what stands behind its bytes, and all where
-- the words are refused; a reading that was given up, or want of memory, loses a front
abbrev pub LeavesInput : {A : Type 0} → Option (List ℕ) → Option (List ℕ) → Result A Refused → Type 0
LeavesInput before now (Ok report) = IsAllRead before now
LeavesInput before now (Err refused.Usage) = now ≡ before
LeavesInput before now (Err (refused.Script line why)) = now ≡ script_rest before
LeavesInput before now (Err refused.ReadFault) = ax_io_content.LosesFront before now
LeavesInput before now (Err (refused.StoreNotEmpty node)) = IsAllRead before now
LeavesInput before now (Err (refused.StoreFault node)) = IsAllRead before now
LeavesInput before now (Err refused.NoMemory) = ax_io_content.LosesFront before now

-- the same, of an answer of the program
abbrev pub LeavesSource : Option (List ℕ) → Option (List ℕ) → Status → Type 0
LeavesSource before now status.Done = IsAllRead before now
LeavesSource before now (status.StepLimit line) = IsAllRead before now
LeavesSource before now status.WriteFault = IsAllRead before now
LeavesSource before now (status.StoreNotEmpty node) = IsAllRead before now
LeavesSource before now (status.StoreFault node) = IsAllRead before now
LeavesSource before now status.Usage = now ≡ before
LeavesSource before now (status.Script line why) = now ≡ script_rest before
LeavesSource before now status.ReadFault = ax_io_content.LosesFront before now
LeavesSource before now status.NoMemory = ax_io_content.LosesFront before now
LeavesSource before now _ = ⊥

-- the count of faults stands, but where a read failed
abbrev pub StandsUnlessReadFault : {A : Type 0} → ℕ → ℕ → Result A Refused → Type 0
StandsUnlessReadFault before now (Err refused.ReadFault) = Unit {0}
StandsUnlessReadFault before now _ = now ≡ before
