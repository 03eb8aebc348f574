use Rattle.std.proofs.Common.{◌≡◌, ℕ, ◌+◌, ◌-◌, ◌++◌, ◌∷◌, [], ◌<◌, ◌≤◌, ◌∙◌, suc, Bool, true, false, Some, None, List, length, set, refl, arith, sym, ap, subst}
use Rattle.std.specs.Prelude.{slice_get}
use Rattle.std.proofs.lemmas.Option.{slice_get_read, slice_get-get_or}
use Rattle.ax_types.specs.Places as lists
use Rattle.spec_node.specs.Node as nodes
use Rattle.spec_node.specs.NodeStep as steps
use Rattle.spec_cluster.specs.Cluster as clusters
use Rattle.spec_raft.specs.Positions as positions
use Rattle.net_bag.proofs.Table.{set-change}
use Rattle.raft_world.specs.Paired.{members_of, node_up, restarted_now, fallen, risen}
use Rattle.raft_world.proofs.Pairing as pairing
use Rattle.raft_world.proofs.members.Members.crash.Goals as goal
use Rattle.raft_world.proofs.members.Members.crash.Goals.{then-index-len-via-then-index-len, then-index-len-via-else-index-len+then-not-index}

pub returns-then-index-len : goal.returns-then-index-len
returns-then-index-len c =
    let us = c.self.inside.up.items in
    let ns = c.self.inside.nodes.items in
    let i = c.index_of-index.result in
    let place : suc i ≡ c.args.node = omega (arith, c.index_of-index.ensures) in
    elim c.then-index-len.branch [
      | then-index-len-via-then-index-len w ↦
          sym (subst (λ (ms : List clusters.Member). positions.change_place fallen ms c.args.node ≡ ms) c.self.view_is
          (subst (λ k. positions.change_place fallen (members_of us ns) k ≡ members_of us ns) place (pairing.change_past fallen us ns i (omega (arith, w.if-index-len.true, c.len.ensures)))))
      | then-index-len-via-else-index-len+then-not-index w ↦
          let within : i < length us = omega (arith, w.if-index-len.false, c.len.ensures) in
          sym (subst (λ (ms : List clusters.Member). positions.change_place fallen ms c.args.node ≡ ms) c.self.view_is
          (subst (λ k. positions.change_place fallen (members_of us ns) k ≡ members_of us ns) place (pairing.fallen_off us ns i (slice_get_read us (length us) i w.index.result.now refl within w.index.ensures ∙ ap Some w.if-not-index.true))))
    ]

pub returns : goal.returns
returns c =
    let us = c.self.inside.up.items in
    let ns = c.self.inside.nodes.items in
    let i = c.index_of-index.result in
    let place : suc i ≡ c.args.node = omega (arith, c.index_of-index.ensures) in
    let within : i < length us = omega (arith, c.if-index-len.false, c.len.ensures) in
    ap (λ (xs : List nodes.Node). members_of (set us i false) xs) c.restart_at.ensures
    ∙ pairing.crash_pair us ns i (slice_get_read us (length us) i c.index.result.now refl within c.index.ensures ∙ ap Some c.if-not-index.false)
    ∙ ap (λ (ms : List clusters.Member). positions.change_place fallen ms (suc i)) c.self.view_is
    ∙ ap (λ k. positions.change_place fallen c.args.self.now k) place
