use Rattle.std.proofs.Common.{◌∙◌, sym}
use Rattle.res_deadlines.proofs.Passed.{any_passed-first}
use Rattle.res_deadlines.proofs.deadlines.Deadlines.any_passed.Goals as goal

pub returns-in-Some : goal.returns-in-Some
returns-in-Some g c =
    rw c.from.ensures (any_passed-first c.args.time c.in-Some.end c.args.self.now (sym c.in-Some.is ∙ c.first.ensures.time) c.in-Some.ensures.least)
