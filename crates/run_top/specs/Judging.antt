-- What the reader of the input answers, as the definitions say it.
use Rattle.std.specs.Prelude.{◌≡◌, ⊤, ℕ, Result, Ok, Err}
use Rattle.ax_types.specs.declared.scripts.Script.{Script}
use Rattle.ax_types.specs.declared.statuses.Why.{Why}
use Rattle.spec_script.specs.Scripts as scripts
use Rattle.run_top.specs.declared.refusals.Refused.{Refused}
use Rattle.run_top.specs.declared.refusals.Refused.TheVariants as refused

-- the refusal of a line
abbrev pub line_refusal : ℕ → Why → scripts.Refusal
line_refusal line why = record { line = line; why = why }

-- this is the script, or the refusal is this one; want of memory says nothing
abbrev pub Judges : Result Script scripts.Refusal → Result Script Refused → Type 0
Judges meant (Ok script) = meant ≡ Ok script
Judges meant (Err (refused.Script line why)) = meant ≡ Err (line_refusal line why)
Judges meant (Err refused.NoMemory) = ⊤
Judges meant (Err _) = ⊥
