use Rattle.std.proofs.Common.{rules}
use Rattle.res_deadlines.proofs.Index.{ChangesDeadline-added, ChangesDeadline-other}
use Rattle.res_deadlines.proofs.deadlines.Deadlines.change.Goals as goal

pub returns-in_ok-add-in-None-clause-ok : goal.returns-in_ok-add-in-None-clause-ok
returns-in_ok-add-in-None-clause-ok g c =
    rw c.in-None.is (ChangesDeadline-added g.K.Ord.cmp c.args.self.now c.add.new.self c.args.key.now c.args.after c.in_ok-add-in-None.ensures.ok)

pub returns-in_ok-add-in-Some-clause-ok : goal.returns-in_ok-add-in-Some-clause-ok
returns-in_ok-add-in-Some-clause-ok g c =
    ChangesDeadline-other g.K.Ord.cmp c.args.self.now c.add-in-Some.new.self c.forget.new.self c.args.key.now c.args.before c.args.after (search rules)
    c.in_ok-add-in-Some.ensures.ok (rw (← c.in_ok-again-in-Some.ensures) c.forget.ensures)
