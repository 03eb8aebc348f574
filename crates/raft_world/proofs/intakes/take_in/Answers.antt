use Rattle.std.proofs.Common.{◌≡◌, ℕ, ◌+◌, ◌-◌, ◌++◌, ◌∷◌, [], ◌<◌, ◌≤◌, ◌∙◌, suc, Bool, true, false, Some, None, List, length, set, refl, arith, sym, ap, subst}
use Rattle.std.specs.Prelude.{slice_get}
use Rattle.std.proofs.lemmas.Option.{slice_get_read, slice_get-get_or}
use Rattle.ax_types.specs.Places as lists
use Rattle.spec_node.specs.Node as nodes
use Rattle.spec_node.specs.NodeStep as steps
use Rattle.spec_cluster.specs.Cluster as clusters
use Rattle.spec_raft.specs.Positions as positions
use Rattle.net_bag.proofs.Table.{set-change}
use Rattle.raft_world.specs.Paired.{members_of, node_up, restarted_now, fallen, risen}
use Rattle.raft_world.proofs.Pairing as pairing
use Rattle.raft_world.proofs.intakes.take_in.Goals as goal
use Rattle.std.proofs.lemmas.Result.{IfOk-weaker}
use Rattle.ax_types.specs.declared.raft.NodeInput.{NodeInput}
use Rattle.ax_types.specs.declared.raft.RaftInput.TheVariants as asked
use Rattle.raft_world.specs.Taking.{TakesAs}

pub returns-in-Elect : goal.returns-in-Elect
returns-in-Elect c d em eb = subst (λ (i : NodeInput). TakesAs d (clusters.intake d i) c.at_follower.result) (sym c.in-Elect.is) (c.at_follower.ensures d em)

pub returns-in-Beat : goal.returns-in-Beat
returns-in-Beat c d em eb = subst (λ (i : NodeInput). TakesAs d (clusters.intake d i) c.at_leader.result) (sym c.in-Beat.is) (c.at_leader.ensures d em)

pub returns-in_ok-bodies-in-Append : goal.returns-in_ok-bodies-in-Append
returns-in_ok-bodies-in-Append c d em eb =
    subst (λ (i : NodeInput). TakesAs d (clusters.intake d i) c.at_leader-in-Append.result) (sym c.in-Append.is)
    (subst (λ bodies. TakesAs d (clusters.intake_for d c.in-Append.node (asked.Append c.in-Append.clock bodies) nodes.is_leader) c.at_leader-in-Append.result) c.in_ok-bodies-in-Append.ensures (c.at_leader-in-Append.ensures d em))

pub returns-in-Read : goal.returns-in-Read
returns-in-Read c d em eb = subst (λ (i : NodeInput). TakesAs d (clusters.intake d i) c.at_leader-in-Read.result) (sym c.in-Read.is) (c.at_leader-in-Read.ensures d em)

pub returns-in-Deliver : goal.returns-in-Deliver
returns-in-Deliver c = IfOk-weaker c.at_receiver.result _ _ (λ taken h d em eb. subst (λ (i : NodeInput). TakesAs d (clusters.intake d i) taken) (sym c.in-Deliver.is) (h d em eb)) c.at_receiver.ensures
