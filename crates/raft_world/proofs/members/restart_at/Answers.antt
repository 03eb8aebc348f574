use Rattle.std.proofs.Common.{◌≡◌, ℕ, ◌+◌, ◌-◌, ◌++◌, ◌∷◌, [], ◌<◌, ◌≤◌, ◌∙◌, suc, Bool, true, false, Some, None, List, length, set, refl, arith, sym, ap, subst}
use Rattle.std.specs.Prelude.{slice_get}
use Rattle.std.proofs.lemmas.Option.{slice_get_read, slice_get-get_or}
use Rattle.ax_types.specs.Places as lists
use Rattle.spec_node.specs.Node as nodes
use Rattle.spec_node.specs.NodeStep as steps
use Rattle.spec_cluster.specs.Cluster as clusters
use Rattle.spec_raft.specs.Positions as positions
use Rattle.net_bag.proofs.Table.{set-change}
use Rattle.raft_world.specs.Paired.{members_of, node_up, restarted_now, fallen, risen}
use Rattle.raft_world.proofs.Pairing as pairing
use Rattle.raft_world.proofs.members.restart_at.Goals as goal

pub returns : goal.returns
returns c =
    let ns = c.args.nodes.now.items in
    set-change restarted_now ns c.args.index c.index_mut-node.result.now _ (slice_get_read ns (length ns) c.args.index c.index_mut-node.result.now refl c.requires c.index_mut-node.ensures.value) c.restart.ensures
