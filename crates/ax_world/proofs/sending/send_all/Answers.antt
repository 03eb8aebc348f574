use Rattle.std.proofs.Common.{ap, sym, ◌∙◌}
use Rattle.spec_cluster.specs.Bag as bags
use Rattle.ax_world.proofs.Delivered.{packets_more}
use Rattle.ax_world.proofs.sending.send_all.Goals as goal

pub packets-preserved : goal.packets-preserved
packets-preserved c = c.in-Ok.ensures.ok ∙ ap (λ b. bags.with_packet b c.in-Some.packet) c.packets.invariant ∙ sym (packets_more c.args.bag.now c.packets.yielded c.in-Some.packet)
