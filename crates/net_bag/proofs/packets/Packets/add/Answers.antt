use Rattle.std.proofs.Common.{◌≡◌, ◌∙◌, ◌<◌, ◌≤◌, ◌+◌, ◌-◌, List, length, arith, sym, ap}
use Rattle.net_bag.proofs.Newest.{unmarked_most}
use Rattle.net_bag.proofs.Kept.{sent_way, sent_packet}
use Rattle.net_bag.proofs.packets.Packets.add.Goals as goal

pub overflow_add-self : goal.overflow_add-self
overflow_add-self c = omega (arith, unmarked_most c.self.inside.sent (c.self.inside.sent - length c.self.inside.kept.items) c.self.inside.unmarked c.self.inside.kept.items c.self.inside.ways c.self.invariant, c.self.inside.kept.ok, c.self.inside.kept.small)

pub invariant_of-self-2 : goal.invariant_of-self-2
invariant_of-self-2 c =
    sent_packet c.self.inside.sent c.self.inside.unmarked c.in-Ok.place c.self.inside.kept.items c.reserve.new.self.items c.push_back_reserved.new.self.items c.args.packet c.self.inside.ways c.place_for.new.self c.push.new.self
    c.reserve.ensures.items c.push_back_reserved.ensures.items c.in-Ok.ensures.ok c.in-Ok.ensures.there c.in-Ok-push.ensures.ok c.self.invariant

pub invariant_of-self-in_default-push : goal.invariant_of-self-in_default-push
invariant_of-self-in_default-push c =
    sent_way c.self.inside.sent c.self.inside.unmarked c.self.inside.kept.items c.reserve.new.self.items c.args.packet.«from» c.args.packet.to c.self.inside.ways c.push.new.self
    c.reserve.ensures.items (c.in_default-push.ensures.err ∙ c.in-Ok.ensures.ok) c.self.invariant
