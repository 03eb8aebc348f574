-- A race of one caller with one call, on one node.
use Rattle.std.specs.Prelude.{ℕ, pos, List, [], ◌∷◌, map, replicate, codes}
use Rattle.ax_types.specs.declared.items.Item.{Item}
use Rattle.ax_types.specs.declared.items.Item.TheVariants as item
use Rattle.ax_types.specs.declared.replies.Outcome.TheVariants as told
use Rattle.ax_types.specs.declared.replies.Reply.TheVariants as reply
use Rattle.ax_types.specs.declared.ops.LongOp.TheVariants as long_op
use Rattle.ax_types.specs.declared.ops.Op.TheVariants as op
use Rattle.ax_types.specs.declared.ops.WindowCall.{WindowCall}
use Rattle.ax_types.specs.declared.ops.WindowCall.TheVariants as call
use Rattle.ax_types.specs.declared.scripts.CallerLine.{CallerLine}
use Rattle.ax_types.specs.declared.scripts.Line.{Line}
use Rattle.ax_types.specs.declared.scripts.Line.TheVariants as line
use Rattle.ax_types.specs.declared.scripts.Script.{Script}
use Rattle.ax_types.specs.declared.steps.KeptStep.{KeptStep}
use Rattle.ax_types.specs.declared.steps.Step.{Step}
use Rattle.ax_types.specs.declared.steps.Step.TheVariants as step
use Rattle.ax_types.specs.declared.steps.StepOutcome.{StepOutcome}
use Rattle.ax_types.specs.declared.steps.StepOutcome.TheVariants as outcome
use Rattle.spec_world.specs.Worlds as worlds
use Rattle.spec_run.specs.Run as runs
use Rattle.spec_race.specs.Race as races

-- `elect 1`, `open 1 1`, `flush`
abbrev pub setup_lines : List (ℕ × Line)
setup_lines = (2, line.Do (step.Elect 1)) ∷ (3, line.Do (step.Open 1 1)) ∷ (4, line.Flush) ∷ []

-- `call long c add 5`
abbrev pub one_call : WindowCall
one_call = call.Command (codes "c") (op.Long (long_op.Add (pos 5)))

-- `caller 1 1 call long c add 5`
abbrev pub one_caller : List CallerLine
one_caller = record { line = 5; caller = 1; count = 1; call = one_call } ∷ []

abbrev pub small_race : Script
small_race = record { nodes = 1; clients = 1; timeout = 1000; lines = setup_lines; callers = one_caller; plan = []; feeds = []; last_line = 5 }

abbrev pub fine_steps : List Step → List KeptStep
fine_steps steps = map (λ s. record { step = s; outcome = outcome.Fine }) steps

abbrev pub five_fine : List StepOutcome
five_fine = outcome.Fine ∷ outcome.Fine ∷ outcome.Fine ∷ outcome.Fine ∷ outcome.Fine ∷ []

abbrev pub setup_steps : List KeptStep
setup_steps = fine_steps (step.Elect 1 ∷ step.Open 1 1 ∷ step.Deliver 1 ∷ step.Deliver 2 ∷ step.Deliver 3 ∷ [])

abbrev pub round_steps : List KeptStep
round_steps =
    fine_steps (step.Call 1 (codes "c") (op.Long (long_op.Add (pos 5))) ∷ step.Beat 1 ∷ step.Deliver 4 ∷ step.Deliver 5 ∷ step.Beat 1 ∷ [])

abbrev pub small_world : worlds.World
small_world = worlds.new_world 1 1 1000

abbrev pub set_up : worlds.World
set_up = (runs.ran small_world setup_steps).world

abbrev pub set_up_with : List (List WindowCall) → races.RaceState
set_up_with takes = record { world = set_up; pump = races.idle_pump; takes = takes }

-- `reply 3 number 5` for call 1
abbrev pub first_line : races.CallerOutcome
first_line = record { number = 1; outcome = told.Reply 3 (reply.Number (pos 5)) }

-- `at 1 crash 1`
abbrev pub crash_plan : List (ℕ × Step)
crash_plan = (1, step.Crash 1) ∷ []

-- one call in round 1, and none in 70 more
abbrev pub dead_takes : List (List WindowCall)
dead_takes = (one_call ∷ []) ∷ replicate 70 []

abbrev pub many_fine : List StepOutcome
many_fine = replicate 80 outcome.Fine

abbrev pub dead_steps : List KeptStep
dead_steps = fine_steps (step.Crash 1 ∷ step.Call 1 (codes "c") (op.Long (long_op.Add (pos 5))) ∷ replicate 64 (step.Resend 1))

abbrev pub dead_outcomes : List Item
dead_outcomes = item.Unanswered 2 1 ∷ []
