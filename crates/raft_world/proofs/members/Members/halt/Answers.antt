use Rattle.std.proofs.Common.{◌≡◌, ℕ, ◌+◌, ◌-◌, ◌++◌, ◌∷◌, [], ◌<◌, ◌≤◌, ◌∙◌, suc, Bool, true, false, Some, None, List, length, set, refl, arith, sym, ap, subst}
use Rattle.std.specs.Prelude.{slice_get}
use Rattle.std.proofs.lemmas.Option.{slice_get_read, slice_get-get_or}
use Rattle.ax_types.specs.Places as lists
use Rattle.spec_node.specs.Node as nodes
use Rattle.spec_node.specs.NodeStep as steps
use Rattle.spec_cluster.specs.Cluster as clusters
use Rattle.spec_raft.specs.Positions as positions
use Rattle.net_bag.proofs.Table.{set-change}
use Rattle.raft_world.specs.Paired.{members_of, node_up, restarted_now, fallen, risen}
use Rattle.raft_world.proofs.Pairing as pairing
use Rattle.raft_world.proofs.members.Members.halt.Goals as goal
use Rattle.std.proofs.lemmas.Result.{on_ok_weaker}
use Rattle.spec_node.specs.Saving as saving

pub index_mut-requires : goal.index_mut-requires
index_mut-requires c = omega (arith, c.index_of-index.ensures, c.requires, ap length c.self.view_is, pairing.length_pairs c.self.inside.up.items c.self.inside.nodes.items c.self.invariant, c.self.invariant, c.self.inside.up.ok, c.self.inside.nodes.ok)

pub index_mut-halting-requires : goal.index_mut-halting-requires
index_mut-halting-requires c = omega (arith, c.index_of-index.ensures, c.requires, ap length c.self.view_is, pairing.length_pairs c.self.inside.up.items c.self.inside.nodes.items c.self.invariant, c.self.invariant, c.self.inside.nodes.ok)

pub returns : goal.returns
returns c =
    let us = c.self.inside.up.items in
    let ns = c.self.inside.nodes.items in
    let i = c.index_of-index.result in
    let n = c.index_mut-halting.result.now in
    let kept : nodes.Node → nodes.Node = λ x. nodes.restarted x.ballot.me x.ballot.nodes (saving.kept_after (nodes.kept_of x) (saving.calls_of c.args.saves) c.args.saved c.args.added) in
    let place : suc i ≡ c.args.node = omega (arith, c.index_of-index.ensures) in
    let within : i < length ns = omega (arith, c.index_of-index.ensures, c.requires, ap length c.self.view_is, pairing.length_pairs us ns c.self.invariant) in
    on_ok_weaker c.restart_after.result
    (λ e. ap (λ (xs : List nodes.Node). members_of (set us i false) xs) (set-change kept ns i n c.restart_after.new.node (slice_get_read ns (length ns) i n refl within c.index_mut-halting.ensures.value) e)
    ∙ pairing.set_both kept false us ns i
    ∙ ap (λ (ms : List clusters.Member). positions.change_place (pairing.with_both false kept) ms (suc i)) c.self.view_is
    ∙ ap (λ k. positions.change_place (pairing.with_both false kept) c.args.self.now k) place)
    c.restart_after.ensures
