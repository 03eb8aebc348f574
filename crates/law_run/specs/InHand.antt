-- A script in hand: the steps so far and then the run of what is left are the run of the whole.
use Rattle.std.specs.Prelude.{ℕ, ◌≡◌, ◌≤◌, ◌⊎◌, true, Option, Some, None, List, [], ◌∷◌, ◌++◌, length}
use Rattle.ax_types.specs.declared.steps.KeptStep.{KeptStep}
use Rattle.ax_types.specs.declared.steps.Step.{Step}
use Rattle.ax_types.specs.declared.steps.Step.TheVariants as step
use Rattle.ax_types.specs.declared.steps.StepOutcome.{StepOutcome}
use Rattle.spec_world.specs.Worlds as worlds
use Rattle.spec_world.specs.Moves as moves
use Rattle.spec_run.specs.Run as runs

-- the step that is due after a script's steps fared so
abbrev pub due_after : worlds.World → List runs.Work → List StepOutcome → Option runs.Next
due_after w works outcomes = let s = (runs.walked runs.script_step (record { world = w; works = works }) outcomes).state in runs.next_of s.world s.works

-- Of a script from a world on these steps were made, which led to this run, and these jobs are left: whatever comes later, the
-- whole script goes on as the jobs that are left do
pub record IsInHand (w : worlds.World) (works : List runs.Work) (steps : List KeptStep) (r : runs.Ran) (rest : List runs.Work) : Type 0 where
  pub fared : runs.may_run w steps ≡ true
  pub so_far : runs.ran w steps ≡ r
  pub unfolds : (later : List StepOutcome) → runs.unfolded w works (runs.outcomes_of steps ++ later) ≡ steps ++ runs.unfolded r.world rest later
  pub leaves : (later : List StepOutcome) → due_after w works (runs.outcomes_of steps ++ later) ≡ due_after r.world rest later

-- a run with one more step
abbrev pub with_step : runs.Ran → KeptStep → runs.Ran
with_step r k = let m = moves.moved r.world k in record { world = m.world; shown = r.shown ++ record { step = k; items = m.items } ∷ [] }

abbrev pub ScriptsBegin : Type 0
ScriptsBegin = (w : worlds.World) (works : List runs.Work) → IsInHand w works [] (record { world = w; shown = [] }) works

abbrev pub DueStepsFollow : Type 0
DueStepsFollow = (w : worlds.World) (works rest : List runs.Work) (steps : List KeptStep) (r : runs.Ran) (n : runs.Next) (k : KeptStep)
    → IsInHand w works steps r rest → runs.next_of r.world rest ≡ Some n → k.step ≡ n.step → moves.may_fare r.world k ≡ true
    → IsInHand w works (steps ++ k ∷ []) (with_step r k) n.left

abbrev pub MadeStepsFollow : Type 0
MadeStepsFollow = (w : worlds.World) (works rest : List runs.Work) (steps : List KeptStep) (r : runs.Ran) (line : ℕ) (k : KeptStep)
    → IsInHand w works steps r (record { line = line; job = runs.Make k.step } ∷ rest) → moves.may_fare r.world k ≡ true
    → IsInHand w works (steps ++ k ∷ []) (with_step r k) rest

abbrev pub DeliveriesFollow : Type 0
DeliveriesFollow = (w : worlds.World) (works rest : List runs.Work) (steps : List KeptStep) (r : runs.Ran) (line number : ℕ) (k : KeptStep)
    → IsInHand w works steps r (record { line = line; job = runs.Deliver_all } ∷ rest) → worlds.flush_next r.world ≡ Some number
    → k.step ≡ step.Deliver number → moves.may_fare r.world k ≡ true
    → IsInHand w works (steps ++ k ∷ []) (with_step r k) (record { line = line; job = runs.Deliver_all } ∷ rest)

abbrev pub IdleJobsEnd : Type 0
IdleJobsEnd = (w : worlds.World) (works rest : List runs.Work) (steps : List KeptStep) (r : runs.Ran) (line : ℕ)
    → IsInHand w works steps r (record { line = line; job = runs.Deliver_all } ∷ rest) → worlds.flush_next r.world ≡ None
    → IsInHand w works steps r rest

abbrev pub ScriptsUnfold : Type 0
ScriptsUnfold = (w : worlds.World) (works rest : List runs.Work) (steps : List KeptStep) (r : runs.Ran)
    → IsInHand w works steps r rest → length steps ≤ runs.most_steps → (runs.next_of r.world rest ≡ None) ⊎ (length steps ≡ runs.most_steps)
    → runs.Unfolds w works steps × (runs.left_after w works steps ≡ runs.next_of r.world rest)
