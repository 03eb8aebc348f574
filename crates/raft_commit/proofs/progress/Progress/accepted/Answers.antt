use Rattle.std.proofs.Common.{◌≤◌, length, arith, ap, sym, ◌∙◌}
use Rattle.spec_raft.specs.Progress.{test_peer, rises_at, accepting}
use Rattle.raft_commit.proofs.Peers.{gone, found, changed, peer_none, change_none}
use Rattle.raft_commit.proofs.progress.Progress.accepted.Goals as goal

pub returns-then-place-self-clause-rises : goal.returns-then-place-self-clause-rises
returns-then-place-self-clause-rises c = sym (ap (λ p. test_peer (rises_at c.args.matched c.args.last) p) (peer_none c.args.self.now c.args.node (gone c.self.inside.peers c.args.self.now c.self.inside.peer_count c.args.node c.peer_index-place.result c.self.view_is c.peer_index-place.ensures c.if-place-self.true)))

pub returns-then-place-self-clause-after : goal.returns-then-place-self-clause-after
returns-then-place-self-clause-after c = sym (change_none (accepting c.args.matched c.args.round c.args.last) c.args.self.now c.args.node (gone c.self.inside.peers c.args.self.now c.self.inside.peer_count c.args.node c.peer_index-place.result c.self.view_is c.peer_index-place.ensures c.if-place-self.true))

pub returns-clause-rises : goal.returns-clause-rises
returns-clause-rises c =
    let within : c.self.inside.peer_count ≤ length c.self.inside.peers = omega (arith, c.self.invariant.0, c.self.invariant.1) in
    c.accept-rises.ensures.rises
    ∙ sym (ap (λ p. test_peer (rises_at c.args.matched c.args.last) p) (found c.self.inside.peers c.args.self.now c.self.inside.peer_count c.args.node c.peer_index-place.result c.index-self-place.result c.self.view_is c.peer_index-place.ensures c.if-place-self.false within))

pub returns-clause-after : goal.returns-clause-after
returns-clause-after c =
    let within : c.self.inside.peer_count ≤ length c.self.inside.peers = omega (arith, c.self.invariant.0, c.self.invariant.1) in
    changed (accepting c.args.matched c.args.round c.args.last) c.self.inside.peers c.args.self.now c.self.inside.peer_count c.args.node c.peer_index-place.result c.index-self-place.result c.accept-rises.new.self c.self.view_is c.peer_index-place.ensures c.if-place-self.false within c.accept-rises.ensures.after
