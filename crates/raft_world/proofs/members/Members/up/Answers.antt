use Rattle.std.proofs.Common.{◌≡◌, ℕ, ◌+◌, ◌-◌, ◌++◌, ◌∷◌, [], ◌<◌, ◌≤◌, ◌∙◌, suc, Bool, true, false, Some, None, List, length, set, refl, arith, sym, ap, subst}
use Rattle.std.specs.Prelude.{slice_get}
use Rattle.std.proofs.lemmas.Option.{slice_get_read, slice_get-get_or}
use Rattle.ax_types.specs.Places as lists
use Rattle.spec_node.specs.Node as nodes
use Rattle.spec_node.specs.NodeStep as steps
use Rattle.spec_cluster.specs.Cluster as clusters
use Rattle.spec_raft.specs.Positions as positions
use Rattle.net_bag.proofs.Table.{set-change}
use Rattle.raft_world.specs.Paired.{members_of, node_up, restarted_now, fallen, risen}
use Rattle.raft_world.proofs.Pairing as pairing
use Rattle.raft_world.proofs.members.Members.up.Goals as goal
use Rattle.net_bag.specs.Reasons as reasons

pub returns : goal.returns
returns c =
    ap reasons.nodes_up c.as_slice.ensures.value
    ∙ pairing.flags_tell c.self.inside.up.items c.self.inside.nodes.items 1 c.self.invariant
    ∙ ap (λ (ms : List clusters.Member). lists.numbers_passing (λ (m : clusters.Member). m.is_up) 1 ms) c.self.view_is
