use Rattle.std.proofs.Common.{List, ap, sym, take, max, drop, ◌+◌, ◌∙◌}
use Rattle.std.specs.Prelude.{nat_le, if◌then◌else◌}
use Rattle.spec_raft.specs.Progress.{Peer, is_held, round_among}
use Rattle.raft_commit.proofs.Peers.{round_more}
use Rattle.raft_commit.proofs.progress.Progress.confirmed_round.Goals as goal

pub peers-preserved : goal.peers-preserved
peers-preserved c =
    let items : List Peer = take c.self.inside.peer_count c.self.inside.peers in
    ap (λ r. max r (round_among c.args.self.now (drop (c.peers.peer-index + 1) items)))
    (c.raised_by-greatest.ensures ∙ ap (λ (p : Peer). if is_held (λ q. nat_le p.acked q.acked) c.args.self.now then max p.acked c.peers.greatest else c.peers.greatest) c.peer-item.is)
    ∙ sym (round_more c.args.self.now items c.peers.peer-index c.peers.greatest c.peer-item.result c.peers-test.true)
    ∙ c.peers.invariant
