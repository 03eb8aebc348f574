use Rattle.std.proofs.Common.{◌≤◌, length, arith, ap, sym, ◌∙◌}
use Rattle.spec_raft.specs.Progress.{Peer, next_in}
use Rattle.raft_commit.proofs.Peers.{gone, found, peer_none}
use Rattle.raft_commit.proofs.progress.Progress.next.Goals as goal

pub returns-then-place-self : goal.returns-then-place-self
returns-then-place-self c = sym (ap next_in (peer_none c.args.self.now c.args.node (gone c.self.inside.peers c.args.self.now c.self.inside.peer_count c.args.node c.peer_index-place.result c.self.view_is c.peer_index-place.ensures c.if-place-self.true)))

pub returns : goal.returns
returns c =
    let within : c.self.inside.peer_count ≤ length c.self.inside.peers = omega (arith, c.self.invariant.0, c.self.invariant.1) in
    ap (λ (p : Peer). p.next) c.peer.view_is
    ∙ sym (ap next_in (found c.self.inside.peers c.args.self.now c.self.inside.peer_count c.args.node c.peer_index-place.result c.index-self-place.result c.self.view_is c.peer_index-place.ensures c.if-place-self.false within))
