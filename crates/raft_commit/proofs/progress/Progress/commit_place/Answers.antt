use Rattle.std.proofs.Common.{◌-◌, arith, ap, sym, ◌∙◌}
use Rattle.spec_raft.specs.Progress.{greatest, may_commit}
use Rattle.raft_commit.proofs.Places.{passed, place_before-lt}
use Rattle.raft_commit.proofs.progress.Progress.commit_place.Goals as goal

pub places-smaller : goal.places-smaller
places-smaller c = omega (arith, c.place_before-place.ensures, c.places-test.true, place_before-lt c.args.self.now c.places.place (omega (arith, c.places-test.true)))

pub places-preserved : goal.places-preserved
places-preserved c =
    c.places.invariant
    ∙ passed c.args.self.now c.args.log.now c.args.term c.args.commit c.places.place c.places-test.true (sym c.if-may_commit.ensures)
    ∙ ap (λ k. greatest (may_commit c.args.self.now c.args.log.now c.args.term) c.args.commit (k - c.args.commit)) (sym c.place_before-place.ensures)
