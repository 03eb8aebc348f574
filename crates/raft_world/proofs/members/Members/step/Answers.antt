use Rattle.std.proofs.Common.{◌≡◌, ℕ, ◌+◌, ◌-◌, ◌++◌, ◌∷◌, [], ◌<◌, ◌≤◌, ◌∙◌, suc, Bool, true, false, Some, None, List, length, set, refl, arith, sym, ap, subst}
use Rattle.std.specs.Prelude.{slice_get}
use Rattle.std.proofs.lemmas.Option.{slice_get_read, slice_get-get_or}
use Rattle.ax_types.specs.Places as lists
use Rattle.spec_node.specs.Node as nodes
use Rattle.spec_node.specs.NodeStep as steps
use Rattle.spec_cluster.specs.Cluster as clusters
use Rattle.spec_raft.specs.Positions as positions
use Rattle.net_bag.proofs.Table.{set-change}
use Rattle.raft_world.specs.Paired.{members_of, node_up, restarted_now, fallen, risen}
use Rattle.raft_world.proofs.Pairing as pairing
use Rattle.raft_world.proofs.members.Members.step.Goals as goal
use Rattle.std.proofs.lemmas.Result.{IfOk-weaker, on_ok_weaker}
use Rattle.raft_world.proofs.Making.{asked_within, asked_node}

pub index_mut-stepping-requires : goal.index_mut-stepping-requires
index_mut-stepping-requires c = omega (arith, c.index_of.ensures, asked_within c.args.self.now c.args.node c.args.input c.requires, ap length c.self.view_is, pairing.length_pairs c.self.inside.up.items c.self.inside.nodes.items c.self.invariant, c.self.inside.nodes.ok)

pub step_node-requires : goal.step_node-requires
step_node-requires c =
    let us = c.self.inside.up.items in
    let ns = c.self.inside.nodes.items in
    let n = c.index_mut-stepping.result.now in
    let place : suc c.index_of.result ≡ c.args.node = omega (arith, c.index_of.ensures) in
    let within : c.index_of.result < length ns = omega (arith, c.index_of.ensures, asked_within c.args.self.now c.args.node c.args.input c.requires, ap length c.self.view_is, pairing.length_pairs us ns c.self.invariant) in
    let here = pairing.node_at us ns c.index_of.result n c.self.invariant (slice_get_read ns (length ns) c.index_of.result n refl within c.index_mut-stepping.ensures.value) in
    asked_node (lists.at_place c.args.self.now c.args.node) c.args.input n c.requires
    (subst (λ (ms : List clusters.Member). Rattle.std.specs.Option.option_map (λ (m : clusters.Member). m.node) (lists.at_place ms c.args.node) ≡ Some n) c.self.view_is
    (subst (λ k. Rattle.std.specs.Option.option_map (λ (m : clusters.Member). m.node) (lists.at_place (members_of us ns) k) ≡ Some n) place here))

pub returns-clause-out : goal.returns-clause-out
returns-clause-out c =
    let us = c.self.inside.up.items in
    let ns = c.self.inside.nodes.items in
    let n = c.index_mut-stepping.result.now in
    let place : suc c.index_of.result ≡ c.args.node = omega (arith, c.index_of.ensures) in
    let within : c.index_of.result < length ns = omega (arith, c.index_of.ensures, asked_within c.args.self.now c.args.node c.args.input c.requires, ap length c.self.view_is, pairing.length_pairs us ns c.self.invariant) in
    let here = pairing.node_at us ns c.index_of.result n c.self.invariant (slice_get_read ns (length ns) c.index_of.result n refl within c.index_mut-stepping.ensures.value) in
    let there = subst (λ (ms : List clusters.Member). Rattle.std.specs.Option.option_map (λ (m : clusters.Member). m.node) (lists.at_place ms c.args.node) ≡ Some n) c.self.view_is
    (subst (λ k. Rattle.std.specs.Option.option_map (λ (m : clusters.Member). m.node) (lists.at_place (members_of us ns) k) ≡ Some n) place here) in
    IfOk-weaker c.step_node.result _ _ (λ out h. pairing.map_node (λ x. steps.out x c.args.input) (lists.at_place c.args.self.now c.args.node) n there ∙ ap Some (sym h)) c.step_node.ensures.out

pub returns-clause-after : goal.returns-clause-after
returns-clause-after c =
    let us = c.self.inside.up.items in
    let ns = c.self.inside.nodes.items in
    let n = c.index_mut-stepping.result.now in
    let place : suc c.index_of.result ≡ c.args.node = omega (arith, c.index_of.ensures) in
    let within : c.index_of.result < length ns = omega (arith, c.index_of.ensures, asked_within c.args.self.now c.args.node c.args.input c.requires, ap length c.self.view_is, pairing.length_pairs us ns c.self.invariant) in
    on_ok_weaker c.step_node.result
    (λ e. ap (λ (xs : List nodes.Node). members_of us xs) (set-change (λ x. steps.stepped x c.args.input) ns c.index_of.result n c.step_node.new.node (slice_get_read ns (length ns) c.index_of.result n refl within c.index_mut-stepping.ensures.value) e)
    ∙ pairing.pair_node (λ x. steps.stepped x c.args.input) us ns c.index_of.result
    ∙ ap (λ (ms : List clusters.Member). positions.change_place (pairing.with_node (λ x. steps.stepped x c.args.input)) ms (suc c.index_of.result)) c.self.view_is
    ∙ ap (λ k. positions.change_place (pairing.with_node (λ x. steps.stepped x c.args.input)) c.args.self.now k) place)
    c.step_node.ensures.after
