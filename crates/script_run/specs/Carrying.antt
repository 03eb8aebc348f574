-- A script's run as it goes: what is in hand before and after some of its jobs.
use Rattle.std.specs.Prelude.{ℕ, ◌≡◌, ◌≤◌, ◌⊎◌, Bool, true, false, Option, Some, Result, Ok, Err, List, [], ◌∷◌, ◌++◌, length, map}
use Rattle.std.specs.List.{AllByRecursion}
use Rattle.ax_io.specs.Content as ax_io_content
use Rattle.ax_types.specs.declared.limits.TheConstants.{MAX_STEPS}
use Rattle.ax_types.specs.declared.items.Item.{Item}
use Rattle.ax_types.specs.declared.scripts.Line.{Line}
use Rattle.ax_types.specs.declared.scripts.RunEnd.{RunEnd}
use Rattle.ax_types.specs.declared.scripts.RunEnd.TheVariants as ends
use Rattle.ax_types.specs.declared.steps.KeptStep.{KeptStep}
use Rattle.ax_types.specs.declared.steps.Step.{Step}
use Rattle.ax_types.specs.declared.steps.StepOutcome.{StepOutcome}
use Rattle.spec_claims.specs.Transcript as transcripts
use Rattle.spec_world.specs.Worlds as worlds
use Rattle.spec_world.specs.Moves as moves
use Rattle.spec_run.specs.Run as runs
use Rattle.spec_report.specs.Items as report_items
use Rattle.spec_report.specs.ReportValues as report_values
use Rattle.law_run.specs.InHand as in_hands
use Rattle.script_run.specs.declared.telling.GivenUp.{GivenUp}
use Rattle.script_run.specs.declared.telling.GivenUp.TheVariants as given_up

-- what is written of items as they come: their lines, where the report is a text
abbrev pub told_text : Bool → List Item → List ℕ
told_text false items = report_items.items_text items
told_text true items = []

-- the items whose lines were written are those of the program's types
abbrev pub Fit : Bool → List Item → Type 0
Fit false items = AllByRecursion report_values.FitsItem items
Fit true items = Unit {0}

-- what a sink took of the lines of items: all; none, where memory was wanted; or a front of them, where the write failed
abbrev pub Tells : Bool → List Item → Option (List ℕ) → Option (List ℕ) → Result (Unit {0}) GivenUp → Type 0
Tells json items before now (Ok _) = (now ≡ ax_io_content.append_told before (told_text json items)) × Fit json items
Tells json items before now (Err given_up.NoMemory) = now ≡ before
Tells json items before now (Err given_up.WriteFault) = (json ≡ false) × ax_io_content.TakesFront before now (told_text json items) × Fit json items

-- what a run begins with: its world, all of its jobs, and what its sink took before
pub record Beginning : Type 0 where
  pub world : worlds.World
  pub works : List runs.Work
  pub taken : Option (List ℕ)

-- a run so far, as a program keeps it: the world, the steps that were made, the items of them all, whether they are reported as JSON, and what the
-- sink took
pub record RunSoFar : Type 0 where
  pub world : worlds.World
  pub kept : List KeptStep
  pub transcript : List Item
  pub json : Bool
  pub written : Option (List ℕ)

-- of a script this much was run, and these jobs are left
pub record IsRunSoFar (b : Beginning) (s : RunSoFar) (rest : List runs.Work) : Type 0 where
  pub shown : List transcripts.Shown
  pub in_hand : in_hands.IsInHand b.world b.works s.kept (record { world = s.world; shown = shown }) rest
  pub told : transcripts.transcript shown ≡ s.transcript
  pub within : length s.kept ≤ MAX_STEPS
  pub written : s.written ≡ ax_io_content.append_told b.taken (told_text s.json s.transcript)
  pub fits : Fit s.json s.transcript

-- a run with one more step, whose items were written as they come
abbrev pub stepped_with : RunSoFar → KeptStep → RunSoFar
stepped_with s k =
    let m = moves.moved s.world k in
    record {
      world = m.world;
      kept = s.kept ++ k ∷ [];
      transcript = s.transcript ++ m.items;
      json = s.json;
      written = ax_io_content.append_told s.written (told_text s.json m.items);
    }

abbrev pub made_so : Step → StepOutcome → KeptStep
made_so step o = record { step = step; outcome = o }

-- one step was made, in which the stores may have fared so
pub record IsOneStep (before : RunSoFar) (step : Step) (after : RunSoFar) : Type 0 where
  pub outcome : StepOutcome
  pub may : moves.may_fare before.world (made_so step outcome) ≡ true
  pub same : after ≡ stepped_with before (made_so step outcome)
  pub fits : Fit before.json (moves.moved before.world (made_so step outcome)).items

-- one step was made, and of its lines a front was written
pub record IsStepHalfTold (before : RunSoFar) (step : Step) (after : RunSoFar) : Type 0 where
  pub outcome : StepOutcome
  pub may : moves.may_fare before.world (made_so step outcome) ≡ true
  pub same : after ≡ record (stepped_with before (made_so step outcome)) { written = after.written }
  pub text : before.json ≡ false
  pub front : ax_io_content.TakesFront before.written after.written (told_text before.json (moves.moved before.world (made_so step outcome)).items)
  pub fits : Fit before.json (moves.moved before.world (made_so step outcome)).items

-- one step more was made than these
pub record IsOneMore (told made : List KeptStep) : Type 0 where
  pub last : KeptStep
  pub same : made ≡ told ++ last ∷ []

-- these steps were made, and at most one more
abbrev pub AtMostOneMore : List KeptStep → List KeptStep → Type 0
AtMostOneMore told made = (made ≡ told) ⊎ IsOneMore told made

-- nothing of a step was written, whether it was made or not
pub record IsUntold (before after : RunSoFar) : Type 0 where
  pub form : after.json ≡ before.json
  pub written : after.written ≡ before.written
  pub made : AtMostOneMore before.kept after.kept

-- as many steps were made as a run may have
abbrev pub IsAtLimit : RunSoFar → Type 0
IsAtLimit s = length s.kept ≡ MAX_STEPS

-- a step was made; or none, since the run is full; or the run was given up: then no line of the step was written, or a front of its lines
abbrev pub Makes : RunSoFar → Step → RunSoFar → Result Bool GivenUp → Type 0
Makes before step after (Ok true) = IsOneStep before step after × (length after.kept ≤ MAX_STEPS)
Makes before step after (Ok false) = (after ≡ before) × IsAtLimit before
Makes before step after (Err given_up.NoMemory) = IsUntold before after
Makes before step after (Err given_up.WriteFault) = IsStepHalfTold before step after × (length after.kept ≤ MAX_STEPS)

-- the run is full, and the next step that is due is of this line
pub record StopsAt (b : Beginning) (s : RunSoFar) (line : ℕ) : Type 0 where
  pub rest : List runs.Work
  pub so_far : IsRunSoFar b s rest
  pub due : runs.Next
  pub next : runs.next_of s.world rest ≡ Some due
  pub at : due.line ≡ line
  pub full : IsAtLimit s

-- memory was wanted: what was written is that of a run so far, which has all steps that were made but at most the last
pub record IsLeft (b : Beginning) (s : RunSoFar) : Type 0 where
  pub told : RunSoFar
  pub rest : List runs.Work
  pub so_far : IsRunSoFar b told rest
  pub form : s.json ≡ told.json
  pub written : s.written ≡ told.written
  pub made : AtMostOneMore told.kept s.kept

-- a write failed: what was written is a front of what was to be written by then
pub record IsHalfTold (b : Beginning) (s : RunSoFar) : Type 0 where
  pub whole : Option (List ℕ)
  pub rest : List runs.Work
  pub so_far : IsRunSoFar b (record s { written = whole }) rest
  pub text : s.json ≡ false
  pub front : ax_io_content.TakesFront b.taken s.written (told_text s.json s.transcript)

abbrev pub IsGivenUp : Beginning → RunSoFar → GivenUp → Type 0
IsGivenUp b s given_up.NoMemory = IsLeft b s
IsGivenUp b s given_up.WriteFault = IsHalfTold b s

-- the jobs before these were carried out, or the run stopped in this line, or it was given up
abbrev pub Carried : Beginning → RunSoFar → ℕ → List runs.Work → Result Bool GivenUp → Type 0
Carried b s line rest (Ok true) = IsRunSoFar b s rest
Carried b s line rest (Ok false) = StopsAt b s line
Carried b s line rest (Err e) = IsGivenUp b s e

abbrev pub works_at : ℕ → List runs.Job → List runs.Work
works_at line jobs = map (λ j. record { line = line; job = j }) jobs

-- these jobs of a line, whichever script they stand in
abbrev pub Carries : ℕ → List runs.Job → RunSoFar → RunSoFar → Result Bool GivenUp → Type 0
Carries line jobs before after went = (b : Beginning) (rest : List runs.Work) → IsRunSoFar b before (works_at line jobs ++ rest) → Carried b after line rest went

-- deliveries so far: whatever the deliveries that come lead to, all of them lead to
abbrev pub DeliversOn : RunSoFar → RunSoFar → Type 0
DeliversOn before now = (line : ℕ) (after : RunSoFar) (went : Result Bool GivenUp)
    → Carries line (runs.Deliver_all ∷ []) now after went → Carries line (runs.Deliver_all ∷ []) before after went

-- lines of a script were run, or the run stopped at one of them, or it was given up
abbrev pub Ends : Beginning → RunSoFar → List runs.Work → Result RunEnd GivenUp → Type 0
Ends b s rest (Ok ends.Done) = IsRunSoFar b s rest
Ends b s rest (Ok (ends.StepLimit line)) = StopsAt b s line
Ends b s rest (Err e) = IsGivenUp b s e

abbrev pub RunsLines : List (ℕ × Line) → RunSoFar → RunSoFar → Result RunEnd GivenUp → Type 0
RunsLines lines before after end = (b : Beginning) (rest : List runs.Work) → IsRunSoFar b before (runs.works_of lines ++ rest) → Ends b after rest end

-- a run of a whole script: its steps, and what they led to and showed
pub record IsRunToEnd (w : worlds.World) (works : List runs.Work) (s : RunSoFar) (end : RunEnd) : Type 0 where
  pub unfolds : runs.Unfolds w works s.kept
  pub ends : end ≡ runs.end_at (runs.left_after w works s.kept)
  pub world : (runs.ran w s.kept).world ≡ s.world
  pub told : transcripts.transcript (runs.ran w s.kept).shown ≡ s.transcript

-- before the first step
abbrev pub before_steps : worlds.World → Bool → Option (List ℕ) → RunSoFar
before_steps w json taken = record { world = w; kept = []; transcript = []; json = json; written = taken }
