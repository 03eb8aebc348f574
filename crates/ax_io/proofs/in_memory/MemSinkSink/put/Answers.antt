use Rattle.std.proofs.Common.{arith}
use Rattle.std.proofs.lemmas.Grind.{common_steps}
use Rattle.ax_io.proofs.Fronts.{TakesFront-kept}
use Rattle.ax_io.proofs.in_memory.MemSinkSink.put.Goals as goal

pub returns-in-Some-clause-failed : goal.returns-in-Some-clause-failed
returns-in-Some-clause-failed c = TakesFront-kept _ _ _ c.min-kept.result (grind (arith, common_steps))
