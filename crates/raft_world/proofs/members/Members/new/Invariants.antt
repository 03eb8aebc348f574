-- The nodes so far.
use Rattle.std.proofs.Common.{◌≡◌, ◌-◌, map}
use Rattle.std.specs.Prelude.{true}
use Rattle.ax_types.specs.Places as lists
use Rattle.spec_node.specs.Node as nodes
use Rattle.raft_world.proofs.members.Members.new.Given as goal

abbrev pub invariant-numbers : goal.invariant-numbers
invariant-numbers l = l.members ≡ map (λ k. record { is_up = true; node = nodes.new_node k l.count }) (lists.numbers_from 1 (l.number - 1))
