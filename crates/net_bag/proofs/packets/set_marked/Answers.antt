use Rattle.std.proofs.Common.{length, refl, ap}
use Rattle.std.proofs.lemmas.Option.{slice_get_read}
use Rattle.net_bag.proofs.Table.{set-change}
use Rattle.net_bag.proofs.Waiting.{marked}
use Rattle.net_bag.proofs.packets.set_marked.Goals as goal

pub returns : goal.returns
returns c =
    set-change marked c.args.kept.now.items c.args.index c.index_mut-slot.result.now _
    (slice_get_read c.args.kept.now.items (length c.args.kept.now.items) c.args.index c.index_mut-slot.result.now refl c.requires c.index_mut-slot.ensures.value)
    (ap marked c.slot.view_is)
