use Rattle.net_bag.proofs.Kept.{fronts_of}
use Rattle.net_bag.proofs.packets.Packets.ways.Goals as goal

pub returns : goal.returns
returns c = fronts_of c.self.inside.sent c.self.inside.unmarked c.self.inside.kept.items c.self.inside.ways _ c.args.self.now c.self.view_is c.as_slice.ensures c.self.invariant
