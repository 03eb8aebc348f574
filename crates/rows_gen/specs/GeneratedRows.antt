-- The first draws and turns from 1.
use Rattle.std.specs.Prelude.{ℕ, zero, suc, ◌/◌, List, [], ◌∷◌, map, codes}
use Rattle.ax_types.specs.declared.ops.MapOp.TheVariants as map_op
use Rattle.ax_types.specs.declared.ops.Op.TheVariants as op
use Rattle.ax_types.specs.declared.scripts.Line.{Line}
use Rattle.ax_types.specs.declared.scripts.Line.TheVariants as line
use Rattle.ax_types.specs.declared.steps.Step.TheVariants as step
use Rattle.spec_gen.specs.Generator as generators

-- the states after so many draws
abbrev pub states_of : ℕ → ℕ → List ℕ
states_of zero x = []
states_of (suc n) x = let a = generators.next_state x in a ∷ states_of n a

abbrev pub draws_of : List ℕ → List ℕ
draws_of states = map (λ x. x / 65536) states

-- `settle 1`
abbrev pub settle_first : Line
settle_first = line.Settle 1

-- `call 2 map m put k11 v27`
abbrev pub put_of_the_second : Line
put_of_the_second = line.Do (step.Call 2 (codes "m") (op.Map (map_op.Put (codes "k11") (codes "v27"))))

-- `keep 3`
abbrev pub keep_of_the_third : Line
keep_of_the_third = line.Do (step.Keep 3)
