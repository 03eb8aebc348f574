use Rattle.std.proofs.Common.{◌∙◌}
use Rattle.net_bag.proofs.Shown.{shown_first}
use Rattle.net_bag.proofs.packets.Packets.first_items.Goals as goal

pub returns : goal.returns
returns c = c.in_ok-items.ensures ∙ shown_first c.self.inside.sent c.self.inside.unmarked c.min.result c.gone.result c.self.inside.kept.items c.self.inside.ways c.args.self.now c.self.view_is c.min.ensures c.gone.ensures.gone c.self.invariant
