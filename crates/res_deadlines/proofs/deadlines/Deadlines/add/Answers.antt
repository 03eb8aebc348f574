use Rattle.res_deadlines.proofs.deadlines.Deadlines.add.Goals as goal

pub returns-in_ok-insert-clause-ok : goal.returns-in_ok-insert-clause-ok
returns-in_ok-insert-clause-ok g c = λ time key. rw (c.in-Some.is, ← c.self.view_is, ← c.in_ok-copy.ensures) (c.in_ok-insert.ensures.updates.0 (time, key))
