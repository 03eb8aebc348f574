use Rattle.std.proofs.Common.{rules, arith}
use Rattle.ax_io.proofs.Fronts.{LosesFront-more, ReadsFirst-full, ReadsFirst-end}
use Rattle.ax_io.proofs.sources.read_up_to.Goals as goal

pub returns-in_err-n-clause-lost : goal.returns-in_err-n-clause-lost
returns-in_err-n-clause-lost g c = search (rules, LosesFront-more)

pub returns-then-n-eq0-clause-ok : goal.returns-then-n-eq0-clause-ok
returns-then-n-eq0-clause-ok g c = search (rules, arith, ReadsFirst-end)

pub returns-clause-ok : goal.returns-clause-ok
returns-clause-ok g c = search (rules, arith, ReadsFirst-full)
