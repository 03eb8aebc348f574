-- How the worked rows are written: lines, items and acts by short words, and the run of a script's lines.
use Rattle.std.specs.Prelude.{ℕ, zero, suc, ◌≡◌, nat_eq, Option, Some, None, List, [], ◌∷◌, if◌then◌else◌}
use Rattle.ax_types.specs.Places as lists
use Rattle.ax_types.specs.declared.entries.Act.{Act}
use Rattle.ax_types.specs.declared.items.Item.{Item}
use Rattle.ax_types.specs.declared.scripts.Line.{Line}
use Rattle.ax_types.specs.declared.scripts.Line.TheVariants as line
use Rattle.ax_types.specs.declared.steps.KeptStep.{KeptStep}
use Rattle.ax_types.specs.declared.steps.Step.TheVariants as step
use Rattle.ax_types.specs.declared.steps.StepOutcome.{StepOutcome}
use Rattle.ax_types.specs.declared.steps.WatchKind.{WatchKind}
use Rattle.ax_types.specs.declared.ids.End.{End}
use Rattle.ax_types.specs.declared.ops.Op.{Op}
use Rattle.ax_types.specs.declared.ops.Query.{Query}
use Rattle.ax_types.specs.declared.ops.Level.{Level}
use Rattle.spec_claims.specs.Transcript as transcripts
use Rattle.spec_world.specs.Worlds as worlds
use Rattle.spec_world.specs.Plans as plans
use Rattle.spec_world.specs.Moves as moves
use Rattle.spec_run.specs.Run as runs

-- the lines of a script
abbrev pub elect : ℕ → Line
elect k = line.Do (step.Elect k)

abbrev pub beat : ℕ → Line
beat k = line.Do (step.Beat k)

abbrev pub crash : ℕ → Line
crash k = line.Do (step.Crash k)

abbrev pub start : ℕ → Line
start k = line.Do (step.Start k)

abbrev pub clock : ℕ → ℕ → Line
clock k time = line.Do (step.Clock k time)

abbrev pub expire : ℕ → Line
expire k = line.Do (step.Expire k)

abbrev pub cut : End → End → Line
cut a b = line.Do (step.Cut a b)

abbrev pub join : End → End → Line
join a b = line.Do (step.Join a b)

abbrev pub deliver : ℕ → Line
deliver p = line.Do (step.Deliver p)

abbrev pub drop : ℕ → Line
drop p = line.Do (step.Drop p)

abbrev pub short : ℕ → ℕ → Line
short p bytes = line.Do (step.Short p bytes)

abbrev pub listing : Line
listing = line.Do step.List

abbrev pub opening : ℕ → ℕ → Line
opening c k = line.Do (step.Open c k)

abbrev pub switch : ℕ → ℕ → Line
switch c k = line.Do (step.Switch c k)

abbrev pub resend : ℕ → Line
resend c = line.Do (step.Resend c)

abbrev pub keep : ℕ → Line
keep c = line.Do (step.Keep c)

abbrev pub close : ℕ → Line
close c = line.Do (step.Close c)

abbrev pub watch : ℕ → WatchKind → Line
watch c kind = line.Do (step.Watch c kind)

abbrev pub call : ℕ → List ℕ → Op → Line
call c name o = line.Do (step.Call c name o)

abbrev pub query_line : ℕ → Level → List ℕ → Query → Line
query_line c level name q = line.Do (step.Query c level name q)

abbrev pub flush : Line
flush = line.Flush

abbrev pub settle : ℕ → Line
settle k = line.Settle k

-- how the stores fare in step number n: as the faults say, else well
abbrev pub faring : ℕ → List (ℕ × StepOutcome) → StepOutcome → StepOutcome
faring n [] well = well
faring n (f ∷ faults) well = if nat_eq f.0 n then f.1 else faring n faults well

-- the steps of a script's lines, at most so many, with how the stores fare in them
abbrev pub steps_from : ℕ → ℕ → worlds.World → List runs.Work → List (ℕ × StepOutcome) → List KeptStep
steps_from zero n w works faults = []
steps_from (suc fuel) n w works faults = steps_at w (runs.next_of w works) (λ v left. steps_from fuel (suc n) v left faults)
  where
    steps_at : worlds.World → Option runs.Next → (worlds.World → List runs.Work → List KeptStep) → List KeptStep
    steps_at w None more = []
    steps_at w (Some x) more = let s : KeptStep = record { step = x.step; outcome = faring n faults (moves.fares_well (plans.plan w x.step)) } in s ∷ more (moves.moved w s).world x.left

abbrev pub steps_of : worlds.World → List Line → List (ℕ × StepOutcome) → List KeptStep
steps_of w lines faults = steps_from 1000 1 w (runs.works_of (lists.numbered 2 lines)) faults

-- the run of a script's lines, the cluster line apart
abbrev pub run_with : ℕ → ℕ → ℕ → List (ℕ × StepOutcome) → List Line → runs.Ran
run_with nodes clients timeout faults lines = runs.run nodes clients timeout (steps_of (worlds.new_world nodes clients timeout) lines faults)

abbrev pub run_of_lines : ℕ → ℕ → ℕ → List Line → runs.Ran
run_of_lines nodes clients timeout lines = run_with nodes clients timeout [] lines

-- what a run shows: its items and its history
pub record Shows (r : runs.Ran) (xs : List Item) (h : List (ℕ × Act)) : Type 0 where
  pub items : transcripts.transcript r.shown ≡ xs
  pub history : r.world.history ≡ h
