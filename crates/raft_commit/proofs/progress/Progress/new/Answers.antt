use Rattle.std.proofs.Common.{◌≡◌, ◌+◌, ◌-◌, ◌++◌, length, arith, ap, sym, ◌∙◌}
use Rattle.spec_raft.specs.Progress.{progress_of}
use Rattle.raft_commit.specs.Peers.{other_from}
use Rattle.raft_commit.proofs.Peers.{progress_more, progress_short}
use Rattle.raft_commit.proofs.progress.Progress.new.Goals as goal

pub add_other-requires-clause-room : goal.add_other-requires-clause-room
add_other-requires-clause-room c = omega (arith, c.nodes.auto.number, c.nodes-test.true, c.requires.within, ap length c.nodes.invariant, progress_short c.args.me c.args.first (c.nodes.number - 1))

pub nodes-preserved : goal.nodes-preserved
nodes-preserved c =
    let one : (c.nodes.number - 1) + 1 ≡ c.nodes.number = omega (arith, c.nodes.auto.number) in
    let next : (c.nodes.number + 1) - 1 ≡ c.nodes.number = omega arith in
    c.add_other.ensures
    ∙ ap (λ ps. ps ++ other_from c.args.me c.args.first c.nodes.number) c.nodes.invariant
    ∙ ap (λ k. progress_of c.args.me (c.nodes.number - 1) c.args.first ++ other_from c.args.me c.args.first k) (sym one)
    ∙ sym (progress_more c.args.me c.args.first (c.nodes.number - 1))
    ∙ ap (λ k. progress_of c.args.me k c.args.first) (one ∙ sym next)
