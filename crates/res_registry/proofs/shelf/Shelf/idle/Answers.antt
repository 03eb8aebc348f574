use Rattle.res_registry.proofs.Turns.{kept-passed}
use Rattle.res_registry.proofs.shelf.Shelf.idle.Goals as goal

pub returns-clause-kept : goal.returns-clause-kept
returns-clause-kept c =
    kept-passed c.args.time c.args.self.now.slots.entries c.pass.new.slots.entries c.args.self.now.ends c.pass.new.ends c.args.self.now.touched c.requires
    c.in_ok-told.ensures.after c.in_ok-told.ensures.ends
