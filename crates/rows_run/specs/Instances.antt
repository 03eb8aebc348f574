-- One command of one client on one node: a run on which each relation between steps, stores, history and payloads holds.
use Rattle.std.specs.Prelude.{ℕ, codes, pos, Some, List, [], ◌∷◌}
use Rattle.ax_types.specs.Places as lists
use Rattle.ax_types.specs.declared.entries.Act.{Act}
use Rattle.ax_types.specs.declared.entries.Act.TheVariants as act
use Rattle.ax_types.specs.declared.entries.Body.{Body}
use Rattle.ax_types.specs.declared.entries.Body.TheVariants as body
use Rattle.ax_types.specs.declared.entries.Entry.{Entry}
use Rattle.ax_types.specs.declared.entries.Loaded.{Loaded}
use Rattle.ax_types.specs.declared.ops.LongOp.TheVariants as long
use Rattle.ax_types.specs.declared.ops.Op.{Op}
use Rattle.ax_types.specs.declared.ops.Op.TheVariants as op
use Rattle.ax_types.specs.declared.packets.Payload.{Payload}
use Rattle.ax_types.specs.declared.packets.Payload.TheVariants as payload
use Rattle.ax_types.specs.declared.replies.Reply.TheVariants as reply
use Rattle.ax_types.specs.declared.scripts.Line.{Line}
use Rattle.ax_types.specs.declared.steps.KeptStep.{KeptStep}
use Rattle.ax_types.specs.declared.steps.Step.{Step}
use Rattle.ax_types.specs.declared.steps.Step.TheVariants as step
use Rattle.ax_types.specs.declared.steps.StepOutcome.TheVariants as outcome
use Rattle.spec_world.specs.Worlds as worlds
use Rattle.spec_run.specs.Run as runs
use Rattle.rows_run.specs.RowScripts as row_scripts

abbrev pub add_five : Op
add_five = op.Long (long.Add (pos 5))

abbrev pub script_lines : List Line
script_lines = row_scripts.elect 1 ∷ row_scripts.opening 1 1 ∷ row_scripts.flush ∷ row_scripts.call 1 (codes "c") add_five ∷ row_scripts.flush ∷ []

abbrev pub works : List runs.Work
works = runs.works_of (lists.numbered 2 script_lines)

abbrev pub one_world : worlds.World
one_world = worlds.new_world 1 1 1000

abbrev pub fine_step : Step → KeptStep
fine_step s = record { step = s; outcome = outcome.Fine }

-- the opening takes three packets, the command two
abbrev pub steps : List KeptStep
steps =
    fine_step (step.Elect 1) ∷ fine_step (step.Open 1 1) ∷ fine_step (step.Deliver 1) ∷ fine_step (step.Deliver 2) ∷ fine_step (step.Deliver 3)
    ∷ fine_step (step.Call 1 (codes "c") add_five) ∷ fine_step (step.Deliver 4) ∷ fine_step (step.Deliver 5) ∷ []

abbrev pub history : List (ℕ × Act)
history = (0, act.Nothing) ∷ (0, act.Open 1 1) ∷ (0, act.Do 2 (codes "c") add_five) ∷ []

abbrev pub entry_of : Body → Entry
entry_of b = record { term = 1; time = 0; body = b }

-- what the store keeps in the end
abbrev pub log : List Entry
log = entry_of body.Blank ∷ entry_of (body.Register 1 1) ∷ entry_of (body.Command 1 2 1 (codes "c") add_five) ∷ []

abbrev pub contents : List Loaded
contents = record { term = 1; vote = Some 1; log = log } ∷ []

-- the packet that answers the command
abbrev pub answer : Payload
answer = payload.Reply 2 1 3 0 (reply.Number (pos 5))
