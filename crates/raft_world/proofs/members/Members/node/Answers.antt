use Rattle.std.proofs.Common.{◌≡◌, ℕ, ◌+◌, ◌-◌, ◌++◌, ◌∷◌, [], ◌<◌, ◌≤◌, ◌∙◌, suc, Bool, true, false, Some, None, List, length, set, refl, arith, sym, ap, subst}
use Rattle.std.specs.Prelude.{slice_get}
use Rattle.std.proofs.lemmas.Option.{slice_get_read, slice_get-get_or}
use Rattle.ax_types.specs.Places as lists
use Rattle.spec_node.specs.Node as nodes
use Rattle.spec_node.specs.NodeStep as steps
use Rattle.spec_cluster.specs.Cluster as clusters
use Rattle.spec_raft.specs.Positions as positions
use Rattle.net_bag.proofs.Table.{set-change}
use Rattle.raft_world.specs.Paired.{members_of, node_up, restarted_now, fallen, risen}
use Rattle.raft_world.proofs.Pairing as pairing
use Rattle.raft_world.proofs.members.Members.node.Goals as goal

pub index-requires : goal.index-requires
index-requires c = omega (arith, c.index_of.ensures, c.requires, ap length c.self.view_is, pairing.length_pairs c.self.inside.up.items c.self.inside.nodes.items c.self.invariant, c.self.inside.nodes.ok)

pub returns : goal.returns
returns c =
    let us = c.self.inside.up.items in
    let ns = c.self.inside.nodes.items in
    let place : suc c.index_of.result ≡ c.args.node = omega (arith, c.index_of.ensures) in
    let within : c.index_of.result < length ns = omega (arith, c.index_of.ensures, c.requires, ap length c.self.view_is, pairing.length_pairs us ns c.self.invariant) in
    let here = pairing.node_at us ns c.index_of.result c.index.result.now c.self.invariant (slice_get_read ns (length ns) c.index_of.result c.index.result.now refl within c.index.ensures) in
    subst (λ (ms : List clusters.Member). Rattle.std.specs.Option.option_map (λ (m : clusters.Member). m.node) (lists.at_place ms c.args.node) ≡ Some c.index.result.now) c.self.view_is
    (subst (λ k. Rattle.std.specs.Option.option_map (λ (m : clusters.Member). m.node) (lists.at_place (members_of us ns) k) ≡ Some c.index.result.now) place here)
