use Rattle.std.proofs.Common.{arith}
use Rattle.std.proofs.lemmas.Grind.{common_steps}
use Rattle.ax_io.proofs.Moved.{Moves-front}
use Rattle.ax_io.proofs.in_memory.MemSourceSource.read.Goals as goal

pub returns-clause-ok : goal.returns-clause-ok
returns-clause-ok c = rw (← c.self.view_is) (Moves-front c.self.inside.bytes c.args.buf.now c.copy_from_slice.new.self _ c.self.inside.next c.min-n.result (grind (arith, common_steps)) (grind (arith, common_steps)) (grind (arith, common_steps)))
