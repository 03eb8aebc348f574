-- The outbox of the session is trimmed where it stands.
use Rattle.std.proofs.Common.{◌≡◌, ◌∙◌, sym, ap, subst, List, Some, position, slice_set}
use Rattle.spec_sessions.specs.Outboxes as outboxes
use Rattle.sess_state.proofs.BoxAt.{is_of, changed_there, ascend_there}
use Rattle.sess_state.proofs.outboxes.Outboxes.trim.Goals as goal

pub invariant_of-self : goal.invariant_of-self
invariant_of-self c =
    let boxes : List outboxes.Outbox = c.self.inside.boxes.items in
    let at = subst (λ (bs : List outboxes.Outbox). position (is_of c.args.session) bs ≡ Some c.in-Some.index) (sym c.self.view_is) (sym c.index_of.ensures ∙ c.in-Some.is) in
    ascend_there c.args.session boxes c.in-Some.index c.index_mut-found.result.now c.trim.new.self c.self.invariant at c.index_mut-found.ensures.value
    (ap (λ (o : outboxes.Outbox). o.session) c.trim.ensures)

pub returns-in-Some : goal.returns-in-Some
returns-in-Some c =
    let boxes : List outboxes.Outbox = c.self.inside.boxes.items in
    let at = subst (λ (bs : List outboxes.Outbox). position (is_of c.args.session) bs ≡ Some c.in-Some.index) (sym c.self.view_is) (sym c.index_of.ensures ∙ c.in-Some.is) in
    let changed =
    changed_there (outboxes.trimmed c.args.answered c.args.heard) c.args.session boxes c.in-Some.index c.index_mut-found.result.now c.trim.new.self c.self.invariant at
    c.index_mut-found.ensures.value c.trim.ensures in
    subst (λ (bs : List outboxes.Outbox). slice_set boxes c.in-Some.index c.trim.new.self ≡ outboxes.change_outbox (outboxes.trimmed c.args.answered c.args.heard) c.args.session bs)
    c.self.view_is changed
