-- A step leads on to a run that stands.
use Rattle.ax_world.proofs.StandsStep.{leads_on}
use Rattle.ax_world.proofs.worlds.World.step.Goals as goal

pub returns-clause-stands : goal.returns-clause-stands
returns-clause-stands g c = λ tells.
    let made = c.in_ok-make.ensures.made tells in
    leads_on c.args.self.now _ c.args.step.now _ (rw (← c.self.view_is) (record { outcome = made.outcome; may = made.may; same = made.same }))
    c.in_ok-make.ensures.stores (c.in_ok-make.ensures.told tells)
