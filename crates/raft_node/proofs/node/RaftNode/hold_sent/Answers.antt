use Rattle.std.proofs.Common.{◌≤◌, ◌+◌, min, max, length, ap, subst, ◌∙◌}
use Rattle.spec_raft.specs.Log as logs
use Rattle.spec_node.specs.Node as nodes
use Rattle.raft_node.proofs.Held.{held_within}
use Rattle.raft_node.proofs.node.RaftNode.hold_sent.Goals as goal

pub invariant_of-self-2 : goal.invariant_of-self-2
invariant_of-self-2 c =
    held_within c.args.self.now c.args.sent.now c.cut_and_add.new.self c.args.prev c.args.commit c.max-self-inside.result
    c.requires.within
    (subst (λ (n : nodes.Node). n.commit ≤ length n.log) c.self.view_is c.self.invariant)
    c.requires.stays
    (c.in_ok-change.ensures.ok ∙ ap (λ (n : nodes.Node). logs.cut_and_added n.log c.args.prev c.args.sent.now) c.self.view_is)
    (c.max-self-inside.ensures
    ∙ ap (λ m. max c.self.inside.commit m) c.min.ensures
    ∙ ap (λ (n : nodes.Node). max n.commit (min c.args.commit (c.args.prev + length c.args.sent.now))) c.self.view_is)
