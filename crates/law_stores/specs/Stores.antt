-- What the stores hold after a run.
use Rattle.std.specs.Prelude.{ℕ, ◌≤◌, List}
use Rattle.ax_types.specs.declared.entries.Loaded.{Loaded}
use Rattle.ax_types.specs.declared.steps.KeptStep.{KeptStep}
use Rattle.spec_run.specs.Run as runs
use Rattle.spec_run.specs.KeptStores as kept_stores

abbrev pub StoresKeepHistory : Type 0
StoresKeepHistory = (nodes clients timeout : ℕ) (steps : List KeptStep) (contents : List Loaded) → 1 ≤ nodes → kept_stores.AreContents (runs.run nodes clients timeout steps).world.hosts contents
    → kept_stores.IsKept contents (runs.run nodes clients timeout steps).world.history

abbrev pub NewestBeginsHistory : Type 0
NewestBeginsHistory = (nodes clients timeout : ℕ) (steps : List KeptStep) (contents : List Loaded) → 1 ≤ nodes → kept_stores.AreContents (runs.run nodes clients timeout steps).world.hosts contents
    → kept_stores.IsLeft contents (runs.run nodes clients timeout steps).world.history timeout
