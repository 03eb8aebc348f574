use Rattle.res_registry.proofs.Turns.{kept-passed}
use Rattle.res_registry.proofs.shelf.Shelf.command.Goals as goal

pub turn-requires : goal.turn-requires
turn-requires c =
    kept-passed c.args.time c.args.self.now.slots.entries c.pass.new.slots.entries c.args.self.now.ends c.pass.new.ends c.args.self.now.touched c.requires
    c.in_ok-told.ensures.after c.in_ok-told.ensures.ends
