use Rattle.std.proofs.Common.{◌∙◌}
use Rattle.net_bag.proofs.Delivered.{next_of}
use Rattle.net_bag.proofs.bag.Bag.next_up.Goals as goal

pub returns : goal.returns
returns c = c.first_up.ensures ∙ next_of c.self.inside.packets c.self.inside.links c.args.self.now c.args.up.now c.ways.result.now c.self.view_is c.ways.ensures
