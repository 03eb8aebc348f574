-- A world and its stores between the steps of a script.
use Rattle.std.specs.Prelude.{ℕ, ◌≡◌, ◌≤◌, Bool, true, false, Option, Result, Err, List, [], ◌∷◌, length}
use Rattle.ax_io.specs.Count as counts
use Rattle.ax_types.specs.declared.limits.TheConstants.{MAX_STEPS}
use Rattle.ax_types.specs.declared.steps.Step.TheVariants as step
use Rattle.spec_run.specs.Run as runs
use Rattle.ax_world.specs.OpenWorlds as open_worlds
use Rattle.world_hosts.specs.StoresMatch as matching
use Rattle.script_run.specs.Carrying as carrying
use Rattle.script_run.specs.declared.telling.GivenUp.{GivenUp}
use Rattle.script_run.specs.declared.telling.GivenUp.TheVariants as given_up

-- a run so far, by whether it is reported as JSON and what the sink took
abbrev pub so_far : Bool → Option (List ℕ) → open_worlds.OpenWorld → carrying.RunSoFar
so_far json written w = record { world = w.world; kept = w.kept; transcript = w.transcript; json = json; written = written }

-- a further step may be asked for
pub record MayGoOn (w : open_worlds.OpenWorld) (states : List matching.StoreState) : Type 0 where
  pub whole : w.is_spent ≡ false
  pub within : length w.kept ≤ MAX_STEPS
  pub matches : matching.StoresMatch w.world.hosts states

-- after a call a further one may be made, and stores that told tell
pub record StaysReady (states : List matching.StoreState) (w : open_worlds.OpenWorld) (now : List matching.StoreState) : Type 0 where
  pub ready : MayGoOn w now
  pub telling : matching.AreTelling states → matching.AreTelling now

abbrev pub beat_jobs : ℕ → List runs.Job
beat_jobs k = runs.Make (step.Beat k) ∷ runs.Deliver_all ∷ []

abbrev pub settle_jobs : ℕ → List runs.Job
settle_jobs k = runs.Deliver_all ∷ runs.Make (step.Beat k) ∷ runs.Deliver_all ∷ runs.Make (step.Beat k) ∷ runs.Deliver_all ∷ []

-- what carries out jobs of a line whichever line it is, where the stores tell what they keep
abbrev pub CarriesOut : List runs.Job → carrying.RunSoFar → carrying.RunSoFar → Result Bool GivenUp → Type 0
CarriesOut jobs before after went = (line : ℕ) → carrying.Carries line jobs before after went

-- memory was not wanted
abbrev pub UnlessNoMemory : {A : Type 0} → Result A GivenUp → Type 0 → Type 0
UnlessNoMemory (Err given_up.NoMemory) P = Unit {0}
UnlessNoMemory _ P = P

-- the count of faults of a sink stands, unless a write failed
abbrev pub Counts : {A : Type 0} → ℕ → ℕ → Result A GivenUp → Type 0
Counts before now (Err given_up.WriteFault) = (before ≤ now) × counts.Rose before now
Counts before now _ = now ≡ before

-- the sink after a call: it is called for a text report alone
pub record LeavesSink {A O : Type 0} (json : Bool) (faults : O → ℕ) (before now : O) (r : Result A GivenUp) : Type 0 where
  pub count : Counts (faults before) (faults now) r
  pub silent : json ≡ true → now ≡ before
