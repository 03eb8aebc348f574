-- A script that was read is within its limits.
use Rattle.std.proofs.Common.{false}
use Rattle.law_script.proofs.Within.{scripts_within}
use Rattle.run_top.proofs.reading.script_of.Goals as goal

pub returns-in-Ok-clause-within : goal.returns-in-Ok-clause-within
returns-in-Ok-clause-within c = scripts_within false c.args.bytes.now c.in-Ok.script c.in-Ok.ensures
