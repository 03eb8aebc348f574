use Rattle.std.proofs.Common.{rules}
use Rattle.ax_io.proofs.KnownBytes.{Consumes-kept}
use Rattle.ax_io.proofs.standard.read_some.Goals as goal

pub returns-in-Ok-clause-moved : goal.returns-in-Ok-clause-moved
returns-in-Ok-clause-moved g c = search (rules, Consumes-kept)
