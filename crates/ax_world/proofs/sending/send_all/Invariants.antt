-- The packets so far are sent.
use Rattle.std.proofs.Common.{◌≡◌}
use Rattle.spec_cluster.specs.Bag as bags
use Rattle.ax_world.proofs.sending.send_all.Given as goal

abbrev pub invariant-packets : goal.invariant-packets
invariant-packets l = l.bag ≡ bags.with_packets l.initial.bag l.yielded
