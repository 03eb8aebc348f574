use Rattle.std.proofs.Common.{◌≡◌, ◌≤◌, ◌∙◌, Some, None, List, length, true, false, refl, arith, sym, ap, subst}
use Rattle.std.specs.Prelude.{OnOk}
use Rattle.std.specs.Option.{option_map}
use Rattle.std.proofs.lemmas.Result.{on_ok_weaker}
use Rattle.ax_types.specs.Places as lists
use Rattle.spec_node.specs.Node as nodes
use Rattle.spec_node.specs.NodeStep as steps
use Rattle.spec_cluster.specs.Bag as bags
use Rattle.spec_cluster.specs.Cluster as clusters
use Rattle.raft_world.specs.Askable.{IsAskable, IsAskableAt}
use Rattle.raft_world.specs.Between.{IsRunnable, GrowsAtEnd}
use Rattle.raft_world.specs.Gained.{point_of, gained}
use Rattle.raft_world.specs.Taking.{IsIntake, TakesAs}
use Rattle.raft_world.proofs.Making as making
use Rattle.raft_world.proofs.cluster.Cluster.make_intake.Goals as goal

pub returns-in_default : goal.returns-in_default
returns-in_default c =
    let s : clusters.Cluster = record { members = c.self.inside.members; bag = c.self.inside.bag; committed = c.self.inside.committed; terms = c.self.inside.terms; leds = c.self.inside.leds; takens = c.self.inside.takens; givens = c.self.inside.givens } in
    subst (λ (x : clusters.Cluster). x ≡ clusters.made_intake x (clusters.intake x c.args.input.now)) c.self.view_is
    (making.none_made s (clusters.intake s c.args.input.now) c.in_ok-taken.field-0 (c.in_ok-taken.ensures s refl refl) c.in_default.is)

pub read_point-before-requires : goal.read_point-before-requires
read_point-before-requires c =
    let s : clusters.Cluster = record { members = c.self.inside.members; bag = c.self.inside.bag; committed = c.self.inside.committed; terms = c.self.inside.terms; leds = c.self.inside.leds; takens = c.self.inside.takens; givens = c.self.inside.givens } in
    let t = c.in-Some.taken in
    let h : IsIntake s (clusters.intake s c.args.input.now) t = making.taken_in s (clusters.intake s c.args.input.now) c.in_ok-taken.field-0 t (c.in_ok-taken.ensures s refl refl) c.in-Some.is in
    subst (λ (x : clusters.Cluster). c.in-Some.taken.node ≤ length x.members) c.self.view_is (making.taken_within s (clusters.intake s c.args.input.now) t h)

pub step-requires : goal.step-requires
step-requires c =
    let s : clusters.Cluster = record { members = c.self.inside.members; bag = c.self.inside.bag; committed = c.self.inside.committed; terms = c.self.inside.terms; leds = c.self.inside.leds; takens = c.self.inside.takens; givens = c.self.inside.givens } in
    let t = c.in-Some.taken in
    let h : IsIntake s (clusters.intake s c.args.input.now) t = making.taken_in s (clusters.intake s c.args.input.now) c.in_ok-taken.field-0 t (c.in_ok-taken.ensures s refl refl) c.in-Some.is in
    let r : IsRunnable c.requires.0 s = subst (IsRunnable c.requires.0) (sym c.self.view_is) c.requires.1 in
    making.taken_asks c.requires.0 s c.args.input.now t r h

pub mark_taken-requires : goal.mark_taken-requires
mark_taken-requires c =
    let s : clusters.Cluster = record { members = c.self.inside.members; bag = c.self.inside.bag; committed = c.self.inside.committed; terms = c.self.inside.terms; leds = c.self.inside.leds; takens = c.self.inside.takens; givens = c.self.inside.givens } in
    let t = c.in-Some.taken in
    let h : IsIntake s (clusters.intake s c.args.input.now) t = making.taken_in s (clusters.intake s c.args.input.now) c.in_ok-taken.field-0 t (c.in_ok-taken.ensures s refl refl) c.in-Some.is in
    h.free

pub gain-requires-clause-member : goal.gain-requires-clause-member
gain-requires-clause-member c =
    let s : clusters.Cluster = record { members = c.self.inside.members; bag = c.self.inside.bag; committed = c.self.inside.committed; terms = c.self.inside.terms; leds = c.self.inside.leds; takens = c.self.inside.takens; givens = c.self.inside.givens } in
    let t = c.in-Some.taken in
    let h : IsIntake s (clusters.intake s c.args.input.now) t = making.taken_in s (clusters.intake s c.args.input.now) c.in_ok-taken.field-0 t (c.in_ok-taken.ensures s refl refl) c.in-Some.is in
    making.stepped_within s (clusters.intake s c.args.input.now) t c.step.new.self h c.in_ok-out.ensures.after

pub gain-requires-clause-grows : goal.gain-requires-clause-grows
gain-requires-clause-grows c m at =
    let s : clusters.Cluster = record { members = c.self.inside.members; bag = c.self.inside.bag; committed = c.self.inside.committed; terms = c.self.inside.terms; leds = c.self.inside.leds; takens = c.self.inside.takens; givens = c.self.inside.givens } in
    let t = c.in-Some.taken in
    let h : IsIntake s (clusters.intake s c.args.input.now) t = making.taken_in s (clusters.intake s c.args.input.now) c.in_ok-taken.field-0 t (c.in_ok-taken.ensures s refl refl) c.in-Some.is in
    let r : IsRunnable c.requires.0 s = subst (IsRunnable c.requires.0) (sym c.self.view_is) c.requires.1 in
    making.taken_grows c.requires.0 s c.args.input.now t c.step.new.self m r h c.in_ok-out.ensures.after at

pub returns : goal.returns
returns c =
    let s : clusters.Cluster = record { members = c.self.inside.members; bag = c.self.inside.bag; committed = c.self.inside.committed; terms = c.self.inside.terms; leds = c.self.inside.leds; takens = c.self.inside.takens; givens = c.self.inside.givens } in
    let t = c.in-Some.taken in
    let h : IsIntake s (clusters.intake s c.args.input.now) t = making.taken_in s (clusters.intake s c.args.input.now) c.in_ok-taken.field-0 t (c.in_ok-taken.ensures s refl refl) c.in-Some.is in
    let before : option_map (λ (m : clusters.Member). point_of m.node) (lists.at_place s.members t.node) ≡ Some c.read_point-before.result =
    subst (λ (x : clusters.Cluster). option_map (λ (m : clusters.Member). point_of m.node) (lists.at_place x.members t.node) ≡ Some c.read_point-before.result) (sym c.self.view_is) c.read_point-before.ensures in
    subst (λ (x : clusters.Cluster). OnOk c.gain.result (c.gain.new.self ≡ clusters.made_intake x (clusters.intake x c.args.input.now))) c.self.view_is
    (on_ok_weaker c.gain.result
    (λ f. making.made_is s (clusters.intake s c.args.input.now) t c.step.new.self c.mark_taken.new.bag c.read_point-before.result c.in_ok-out.out c.gain.new.self h c.in_ok-out.ensures.after c.mark_taken.ensures before c.in_ok-out.ensures.out f)
    c.gain.ensures)
