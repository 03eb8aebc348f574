use Rattle.std.proofs.Common.{◌≡◌, ◌<◌, ◌+◌, length, arith, refl}
use Rattle.net_bag.proofs.Shown.{show_next}
use Rattle.net_bag.proofs.packets.first_items.Goals as goal

pub slots-preserved : goal.slots-preserved
slots-preserved c =
    show_next c.args.most c.args.gone c.slots.i (c.args.gone + c.slots.i + 1) c.args.kept.now.items c.index-slot.result.now c.slots.items c.show.new.items _ c.index-slot.ensures (omega arith) (omega arith) refl c.in_ok-show.ensures c.slots.invariant
