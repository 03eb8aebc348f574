use Rattle.std.proofs.Common.{length}
use Rattle.net_bag.proofs.Cuts.{links_join}
use Rattle.net_bag.proofs.links.Links.join.Goals as goal

pub invariant_of-self : goal.invariant_of-self
invariant_of-self c =
    links_join c.self.inside.cut_count c.keep_others-self-inside.result c.link_number.result c.self.inside.links c.keep_others-self-inside.new.links c.self.inside.flags c.args.one.now c.args.other.now
    c.link_number.ensures.number c.link_number.ensures.real_one c.link_number.ensures.real_other
    c.keep_others-self-inside.ensures.kept c.keep_others-self-inside.ensures.fewer c.keep_others-self-inside.auto.links c.self.invariant
