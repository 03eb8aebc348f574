use Rattle.std.proofs.Common.{◌≡◌, ℕ, ◌+◌, ◌-◌, ◌++◌, ◌∷◌, [], ◌<◌, ◌≤◌, ◌∙◌, suc, Bool, true, false, Some, None, List, length, set, refl, arith, sym, ap, subst}
use Rattle.std.specs.Prelude.{slice_get}
use Rattle.std.proofs.lemmas.Option.{slice_get_read, slice_get-get_or}
use Rattle.ax_types.specs.Places as lists
use Rattle.spec_node.specs.Node as nodes
use Rattle.spec_node.specs.NodeStep as steps
use Rattle.spec_cluster.specs.Cluster as clusters
use Rattle.spec_raft.specs.Positions as positions
use Rattle.net_bag.proofs.Table.{set-change}
use Rattle.raft_world.specs.Paired.{members_of, node_up, restarted_now, fallen, risen}
use Rattle.raft_world.proofs.Pairing as pairing
use Rattle.raft_world.proofs.members.Members.add.Goals as goal

pub returns : goal.returns
returns c =
    let us = c.self.inside.up.items in
    let ns = c.self.inside.nodes.items in
    let both : members_of c.push_reserved.new.self.items c.push_reserved-2.new.self.items ≡ members_of (us ++ true ∷ []) (ns ++ c.new-2.result ∷ []) =
    ap (λ xs. members_of xs c.push_reserved-2.new.self.items) (c.push_reserved.ensures.items ∙ ap (λ xs. xs ++ true ∷ []) c.in_ok-reserve.ensures.items)
    ∙ ap (λ (xs : List nodes.Node). members_of (us ++ true ∷ []) xs) (c.push_reserved-2.ensures.items ∙ ap (λ (xs : List nodes.Node). xs ++ c.new-2.result ∷ []) c.in_ok-reserve-2.ensures.items) in
    both
    ∙ pairing.pair_more us ns true c.new-2.result c.self.invariant
    ∙ ap (λ n. members_of us ns ++ record { is_up = true; node = n } ∷ []) (c.new-2.ensures ∙ ap (λ k. nodes.new_node k c.args.count) c.in-Some.ensures.1)
    ∙ ap (λ (ms : List clusters.Member). ms ++ record { is_up = true; node = nodes.new_node c.args.number c.args.count } ∷ []) c.self.view_is
