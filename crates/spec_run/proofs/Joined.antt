-- A run of steps and then of more steps.
use Rattle.std.proofs.Common.{◌≡◌, List, [], ◌∷◌, ◌++◌, refl, ap}
use Rattle.ax_types.specs.declared.steps.KeptStep.{KeptStep}
use Rattle.spec_world.specs.Worlds as worlds
use Rattle.spec_world.specs.Moves as moves
use Rattle.spec_run.specs.Run as runs

-- one run after another
abbrev pub then_ran : runs.Ran → List KeptStep → runs.Ran
then_ran r steps = let more = runs.ran r.world steps in record { world = more.world; shown = r.shown ++ more.shown }

pub ran-append : (w : worlds.World) (steps later : List KeptStep) → runs.ran w (steps ++ later) ≡ then_ran (runs.ran w steps) later
ran-append w [] later = refl
ran-append w (s ∷ steps) later =
    ap (λ (r : runs.Ran). record r { shown = record { step = s; items = (moves.moved w s).items } ∷ r.shown }) (ran-append (moves.moved w s).world steps later)
