use Rattle.std.proofs.Common.{rules}
use Rattle.ax_io.proofs.Fronts.{TakesFront-at}
use Rattle.ax_io.proofs.sinks.put_all.Goals as goal

pub returns-in_err-put-clause-failed : goal.returns-in_err-put-clause-failed
returns-in_err-put-clause-failed g c = search (rules, TakesFront-at)
