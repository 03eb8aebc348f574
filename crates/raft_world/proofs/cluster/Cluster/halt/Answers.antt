use Rattle.std.proofs.Common.{◌≡◌, ◌≤◌, ◌∙◌, Some, None, List, length, true, false, refl, arith, sym, ap, subst}
use Rattle.std.specs.Prelude.{OnOk}
use Rattle.std.specs.Option.{option_map}
use Rattle.std.proofs.lemmas.Result.{on_ok_weaker}
use Rattle.ax_types.specs.Places as lists
use Rattle.spec_node.specs.Node as nodes
use Rattle.spec_node.specs.NodeStep as steps
use Rattle.spec_cluster.specs.Bag as bags
use Rattle.spec_cluster.specs.Cluster as clusters
use Rattle.raft_world.specs.Askable.{IsAskable, IsAskableAt}
use Rattle.raft_world.specs.Between.{IsRunnable, GrowsAtEnd}
use Rattle.raft_world.specs.Gained.{point_of, gained}
use Rattle.raft_world.specs.Taking.{IsIntake, TakesAs}
use Rattle.raft_world.proofs.Making as making
use Rattle.raft_world.proofs.cluster.Cluster.halt.Goals as goal

pub returns-in_default : goal.returns-in_default
returns-in_default c =
    let s : clusters.Cluster = record { members = c.self.inside.members; bag = c.self.inside.bag; committed = c.self.inside.committed; terms = c.self.inside.terms; leds = c.self.inside.leds; takens = c.self.inside.takens; givens = c.self.inside.givens } in
    subst (λ (x : clusters.Cluster). x ≡ clusters.halted_intake x (clusters.intake x c.args.input.now) c.args.saved c.args.added) c.self.view_is
    (making.none_halted s (clusters.intake s c.args.input.now) c.in_ok-taken.field-0 c.args.saved c.args.added (c.in_ok-taken.ensures s refl refl) c.in_default.is)

pub node-requires : goal.node-requires
node-requires c =
    let s : clusters.Cluster = record { members = c.self.inside.members; bag = c.self.inside.bag; committed = c.self.inside.committed; terms = c.self.inside.terms; leds = c.self.inside.leds; takens = c.self.inside.takens; givens = c.self.inside.givens } in
    let t = c.in-Some.taken in
    let h : IsIntake s (clusters.intake s c.args.input.now) t = making.taken_in s (clusters.intake s c.args.input.now) c.in_ok-taken.field-0 t (c.in_ok-taken.ensures s refl refl) c.in-Some.is in
    making.taken_within s (clusters.intake s c.args.input.now) t h

pub step_node-requires : goal.step_node-requires
step_node-requires c =
    let s : clusters.Cluster = record { members = c.self.inside.members; bag = c.self.inside.bag; committed = c.self.inside.committed; terms = c.self.inside.terms; leds = c.self.inside.leds; takens = c.self.inside.takens; givens = c.self.inside.givens } in
    let t = c.in-Some.taken in
    let h : IsIntake s (clusters.intake s c.args.input.now) t = making.taken_in s (clusters.intake s c.args.input.now) c.in_ok-taken.field-0 t (c.in_ok-taken.ensures s refl refl) c.in-Some.is in
    let r : IsRunnable c.requires.0 s = subst (IsRunnable c.requires.0) (sym c.self.view_is) c.requires.1 in
    subst (λ (x : nodes.Node). IsAskable x t.input) (sym c.in_ok-stepping.ensures) (making.taken_asks_node c.requires.0 s c.args.input.now t c.node.result.now r h c.node.ensures)

pub returns-then-not-may_fail : goal.returns-then-not-may_fail
returns-then-not-may_fail c =
    let s : clusters.Cluster = record { members = c.self.inside.members; bag = c.self.inside.bag; committed = c.self.inside.committed; terms = c.self.inside.terms; leds = c.self.inside.leds; takens = c.self.inside.takens; givens = c.self.inside.givens } in
    let t = c.in-Some.taken in
    let h : IsIntake s (clusters.intake s c.args.input.now) t = making.taken_in s (clusters.intake s c.args.input.now) c.in_ok-taken.field-0 t (c.in_ok-taken.ensures s refl refl) c.in-Some.is in
    let gives = c.in_ok-out.ensures.out ∙ ap (λ (x : nodes.Node). steps.out x t.input) c.in_ok-stepping.ensures in
    subst (λ (x : clusters.Cluster). x ≡ clusters.halted_intake x (clusters.intake x c.args.input.now) c.args.saved c.args.added) c.self.view_is
    (making.halted_not s (clusters.intake s c.args.input.now) t c.node.result.now c.in_ok-out.out c.args.saved c.args.added h c.node.ensures gives (sym c.may_fail.ensures ∙ c.if-not-may_fail.true))

pub mark_taken-requires : goal.mark_taken-requires
mark_taken-requires c =
    let s : clusters.Cluster = record { members = c.self.inside.members; bag = c.self.inside.bag; committed = c.self.inside.committed; terms = c.self.inside.terms; leds = c.self.inside.leds; takens = c.self.inside.takens; givens = c.self.inside.givens } in
    let t = c.in-Some.taken in
    let h : IsIntake s (clusters.intake s c.args.input.now) t = making.taken_in s (clusters.intake s c.args.input.now) c.in_ok-taken.field-0 t (c.in_ok-taken.ensures s refl refl) c.in-Some.is in
    h.free

pub halt-requires : goal.halt-requires
halt-requires c =
    let s : clusters.Cluster = record { members = c.self.inside.members; bag = c.self.inside.bag; committed = c.self.inside.committed; terms = c.self.inside.terms; leds = c.self.inside.leds; takens = c.self.inside.takens; givens = c.self.inside.givens } in
    let t = c.in-Some.taken in
    let h : IsIntake s (clusters.intake s c.args.input.now) t = making.taken_in s (clusters.intake s c.args.input.now) c.in_ok-taken.field-0 t (c.in_ok-taken.ensures s refl refl) c.in-Some.is in
    making.taken_within s (clusters.intake s c.args.input.now) t h

pub returns : goal.returns
returns c =
    let s : clusters.Cluster = record { members = c.self.inside.members; bag = c.self.inside.bag; committed = c.self.inside.committed; terms = c.self.inside.terms; leds = c.self.inside.leds; takens = c.self.inside.takens; givens = c.self.inside.givens } in
    let t = c.in-Some.taken in
    let h : IsIntake s (clusters.intake s c.args.input.now) t = making.taken_in s (clusters.intake s c.args.input.now) c.in_ok-taken.field-0 t (c.in_ok-taken.ensures s refl refl) c.in-Some.is in
    let gives = c.in_ok-out.ensures.out ∙ ap (λ (x : nodes.Node). steps.out x t.input) c.in_ok-stepping.ensures in
    subst (λ (x : clusters.Cluster). OnOk c.halt.result (record s { members = c.halt.new.self; bag = c.mark_taken.new.bag } ≡ clusters.halted_intake x (clusters.intake x c.args.input.now) c.args.saved c.args.added)) c.self.view_is
    (on_ok_weaker c.halt.result
    (λ e. making.halted_is s (clusters.intake s c.args.input.now) t c.node.result.now c.in_ok-out.out c.args.saved c.args.added c.halt.new.self c.mark_taken.new.bag h c.node.ensures gives (sym c.may_fail.ensures ∙ c.if-not-may_fail.false) e c.mark_taken.ensures)
    c.halt.ensures)
