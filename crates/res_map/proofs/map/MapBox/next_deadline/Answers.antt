use Rattle.res_map.proofs.Idle.{map_pass-idle, map_passed-idle}
use Rattle.res_map.proofs.map.MapBox.next_deadline.Goals as goal

pub returns-clause-unchanged_before : goal.returns-clause-unchanged_before
returns-clause-unchanged_before c = λ time h. map_pass-idle time c.args.self.now (rw (← c.self.view_is, ← c.first_end.ensures) h)

pub returns-clause-untold_before : goal.returns-clause-untold_before
returns-clause-untold_before c = λ name time h. map_passed-idle name time c.args.self.now (rw (← c.self.view_is, ← c.first_end.ensures) h)
