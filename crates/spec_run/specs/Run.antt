-- The run of a list of steps, and the steps of a script.
use Rattle.std.specs.Prelude.{ℕ, ◌≡◌, ◌≤◌, ◌⊎◌, Bool, true, ◌&&◌, Option, Some, None, List, [], ◌∷◌, ◌++◌, length, map, flat_map}
use Rattle.ax_types.specs.declared.limits.TheConstants.{MAX_STEPS}
use Rattle.ax_types.specs.declared.scripts.Line.{Line}
use Rattle.ax_types.specs.declared.scripts.Line.TheVariants as line
use Rattle.ax_types.specs.declared.scripts.RunEnd.{RunEnd}
use Rattle.ax_types.specs.declared.scripts.RunEnd.TheVariants as ends
use Rattle.ax_types.specs.declared.steps.KeptStep.{KeptStep}
use Rattle.ax_types.specs.declared.steps.Step.{Step}
use Rattle.ax_types.specs.declared.steps.Step.TheVariants as step
use Rattle.ax_types.specs.declared.steps.StepOutcome.{StepOutcome}
use Rattle.spec_claims.specs.Transcript as transcripts
use Rattle.spec_world.specs.Worlds as worlds
use Rattle.spec_world.specs.Moves as moves

-- the most steps of a run
unfoldable pub most_steps : ℕ
most_steps = MAX_STEPS

-- the world after all of a list of steps, and each step with its items
pub record Ran : Type 0 where
  pub world : worlds.World
  pub shown : List transcripts.Shown

abbrev pub ran : worlds.World → List KeptStep → Ran
ran w [] = record { world = w; shown = [] }
ran w (s ∷ steps) = let m = moves.moved w s in let r = ran m.world steps in record r { shown = record { step = s; items = m.items } ∷ r.shown }

-- the run of a list of steps from empty stores
abbrev pub run : ℕ → ℕ → ℕ → List KeptStep → Ran
run nodes clients timeout steps = ran (worlds.new_world nodes clients timeout) steps

-- whether the stores may have fared as the steps say
abbrev pub may_run : worlds.World → List KeptStep → Bool
may_run w [] = true
may_run w (s ∷ steps) = moves.may_fare w s && may_run (moves.moved w s).world steps

-- One walk over steps, whatever they come from: a source gives the step that is due in a state, and the state after it; the
-- walk makes the steps, where the stores fared so in each.
pub record Due (S : Type 0) : Type 0 where
  pub world : worlds.World
  pub step : Step
  pub after : moves.Moved → S

pub record Walked (S : Type 0) : Type 0 where
  pub steps : List KeptStep
  pub state : S

abbrev pub walked : {S : Type 0} → (S → Option (Due S)) → S → List StepOutcome → Walked S
walked {S = S} source s [] = record { steps = []; state = s }
walked {S = S} source s (o ∷ outcomes) = walked_on (source s) (λ next. walked source next outcomes)
  where
    walked_on : Option (Due S) → (S → Walked S) → Walked S
    walked_on None more = record { steps = []; state = s }
    walked_on (Some d) more =
        let kept : KeptStep = record { step = d.step; outcome = o } in
        let r = more (d.after (moves.moved d.world kept)) in
        record r { steps = kept ∷ r.steps }

-- how the stores fared in each of some steps
abbrev pub outcomes_of : List KeptStep → List StepOutcome
outcomes_of steps = map (λ s. s.outcome) steps

-- what is left to do of a script's lines: a step, or deliveries for as long as there is a packet to deliver
pub data Job : Type 0 where
  Make : Step → Job
  Deliver_all : Job

pub record Work : Type 0 where
  pub line : ℕ
  pub job : Job

abbrev pub jobs_of : Line → List Job
jobs_of (line.Do s) = Make s ∷ []
jobs_of line.Flush = Deliver_all ∷ []
jobs_of (line.Settle k) = Deliver_all ∷ Make (step.Beat k) ∷ Deliver_all ∷ Make (step.Beat k) ∷ Deliver_all ∷ []

abbrev pub works_of : List (ℕ × Line) → List Work
works_of lines = flat_map (λ l. map (λ j. record { line = l.0; job = j }) (jobs_of l.1)) lines

-- the next step of a list of jobs, and the jobs that are left
abbrev pub next_job : worlds.World → List Job → Option (Step × List Job)
next_job w [] = None
next_job w (job ∷ jobs) = by_job job (worlds.flush_next w) (next_job w jobs)
  where
    by_job : Job → Option ℕ → Option (Step × List Job) → Option (Step × List Job)
    by_job (Make s) packet later = Some (s, jobs)
    by_job Deliver_all None later = later
    by_job Deliver_all (Some number) later = Some (step.Deliver number, job ∷ jobs)

-- the next step of a script, its line, and what is left to do
pub record Next : Type 0 where
  pub line : ℕ
  pub step : Step
  pub left : List Work

abbrev pub next_of : worlds.World → List Work → Option Next
next_of w [] = None
next_of w (k ∷ works) = by_job (next_job w (k.job ∷ [])) (next_of w works)
  where
    by_job : Option (Step × List Job) → Option Next → Option Next
    by_job None later = later
    by_job (Some n) later = Some (record { line = k.line; step = n.0; left = map (λ j. record { line = k.line; job = j }) n.1 ++ works })

-- a script in hand: the world, and what is left to do
pub record ScriptState : Type 0 where
  pub world : worlds.World
  pub works : List Work

abbrev pub script_step : ScriptState → Option (Due ScriptState)
script_step s = due_of (next_of s.world s.works)
  where
    due_of : Option Next → Option (Due ScriptState)
    due_of None = None
    due_of (Some n) = Some (record { world = s.world; step = n.step; after = λ m. record { world = m.world; works = n.left } })

-- the script in hand after steps of it
abbrev pub script_after : worlds.World → List Work → List KeptStep → ScriptState
script_after w works steps = (walked script_step (record { world = w; works = works }) (outcomes_of steps)).state

abbrev pub unfolded : worlds.World → List Work → List StepOutcome → List KeptStep
unfolded w works outcomes = (walked script_step (record { world = w; works = works }) outcomes).steps

abbrev pub left_after : worlds.World → List Work → List KeptStep → Option Next
left_after w works steps = let s = script_after w works steps in next_of s.world s.works

-- the end of a run of these steps: done, or the line that needs one more
abbrev pub end_at : Option Next → RunEnd
end_at None = ends.Done
end_at (Some n) = ends.StepLimit n.line

-- the steps are those of the script, all of them or as many as a run may have, and the stores may have fared so in each
pub record Unfolds (w : worlds.World) (works : List Work) (steps : List KeptStep) : Type 0 where
  pub fared : may_run w steps ≡ true
  pub same : steps ≡ unfolded w works (outcomes_of steps)
  pub within : length steps ≤ most_steps
  pub whole : (left_after w works steps ≡ None) ⊎ (length steps ≡ most_steps)
