use Rattle.res_deadlines.proofs.deadlines.Deadlines.forget.Goals as goal

pub returns-in-Some : goal.returns-in-Some
returns-in-Some g c = λ time key. rw (c.in-Some.is, ← c.self.view_is) (c.remove.ensures.updates.0 (time, key))
