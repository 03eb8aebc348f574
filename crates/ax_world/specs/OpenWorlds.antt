-- A run in code: its world, the steps that were made, and what they showed.
use Rattle.std.specs.Prelude.{ℕ, ◌≡◌, ◌≤◌, Bool, true, false, List, [], ◌∷◌, ◌++◌, length}
use Rattle.ax_types.specs.declared.items.Item.{Item}
use Rattle.ax_types.specs.declared.steps.KeptStep.{KeptStep}
use Rattle.ax_types.specs.declared.steps.Step.{Step}
use Rattle.ax_types.specs.declared.steps.StepOutcome.{StepOutcome}
use Rattle.spec_world.specs.Worlds as worlds
use Rattle.spec_world.specs.Moves as moves
use Rattle.ax_world.specs.Scenes as scenes

pub record OpenWorld : Type 0 where
  pub world : worlds.World
  pub kept : List KeptStep
  pub transcript : List Item
  pub is_spent : Bool

-- a run before its first step
abbrev pub opened : ℕ → ℕ → ℕ → OpenWorld
opened nodes clients timeout = record { world = worlds.new_world nodes clients timeout; kept = []; transcript = []; is_spent = false }

-- a run after one step more
abbrev pub one_step_on : OpenWorld → KeptStep → OpenWorld
one_step_on w k = record { world = (moves.moved w.world k).world; kept = w.kept ++ k ∷ []; transcript = w.transcript ++ (moves.moved w.world k).items; is_spent = false }

-- a step was made as it is defined, where the stores fared as they may
pub record MakesStep (before : OpenWorld) (s : Step) (after : OpenWorld) : Type 0 where
  pub outcome : StepOutcome
  pub may : moves.may_fare before.world (record { step = s; outcome = outcome }) ≡ true
  pub same : after ≡ one_step_on before (record { step = s; outcome = outcome })

-- the same, where the world, the steps and the items of a run stand apart
abbrev pub IsMade : worlds.World → Step → worlds.World → List KeptStep → List KeptStep → List Item → List Item → Type 0
IsMade before s after kept_before kept_after items_before items_after =
    MakesStep (record { world = before; kept = kept_before; transcript = items_before; is_spent = false }) s (record { world = after; kept = kept_after; transcript = items_after; is_spent = false })

-- a run as it was, but that no further step is made
pub record StaysShown (before after : OpenWorld) : Type 0 where
  pub transcript : after.transcript ≡ before.transcript
  pub kept : after.kept ≡ before.kept
  pub history : after.world.history ≡ before.world.history
  pub spent : after.is_spent ≡ true

-- what is known of a run that is not spent
pub record IsSoundRun (s : scenes.OpenScene) (kept : List KeptStep) : Type 0 where
  pub ready : scenes.AreWhole s
  pub calls : s.calls ≤ length kept
  pub few : length kept ≤ 100000
