use Rattle.std.proofs.Common.{◌≡◌, ◌+◌, ◌<◌, ◌≤◌, length, Some, List, ap, sym, subst, ◌∙◌, arith}
use Rattle.ax_types.specs.Places as lists
use Rattle.ax_types.specs.declared.entries.Entry.{Entry}
use Rattle.raft_world.proofs.Gaining.{IsOnTheWay, commits_more, commits_all}
use Rattle.raft_world.proofs.gains.commit_entries.Goals as goal

pub places-preserved : goal.places-preserved
places-preserved c =
    let e : Entry = c.in_ok-entry.entry in
    let at : lists.at_place c.args.node.now.log (length c.places.committed + 1) ≡ Some e = ap (λ n. lists.at_place c.args.node.now.log (n + 1)) (sym c.len-in-places.ensures) ∙ c.entry.ensures ∙ ap Some (sym c.in_ok-entry.ensures) in
    let less : length c.places.committed < c.args.node.now.commit = omega (arith, c.places-test.true, c.len.ensures, c.commit.ensures.commit) in
    subst (λ (g : List Entry). IsOnTheWay c.args.committed.now g c.args.node.now) (sym c.in_ok-push.ensures.ok) (commits_more c.args.committed.now c.places.committed c.args.node.now e c.places.invariant less at)

pub returns : goal.returns
returns c =
    let all : c.args.node.now.commit ≤ length c.places.committed = omega (arith, c.places-test.false, c.len.ensures, c.commit.ensures.commit) in
    let within : c.args.node.now.commit ≤ length c.args.node.now.log = omega (arith, c.commit.ensures.within, c.commit.ensures.commit) in
    commits_all c.args.committed.now c.places.committed c.args.node.now c.places.invariant all within
