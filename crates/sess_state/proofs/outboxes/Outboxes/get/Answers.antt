-- The outbox at the place where the session was found.
use Rattle.std.proofs.Common.{◌≡◌, ◌∙◌, sym, subst, refl, List, length, position, Some, None, slice_get}
use Rattle.std.proofs.lemmas.List.Quantifiers.{position-Some}
use Rattle.std.proofs.lemmas.Option.{slice_get_read}
use Rattle.spec_sessions.specs.Outboxes as outboxes
use Rattle.sess_state.proofs.BoxAt.{is_of, box_at, no_box}
use Rattle.sess_state.proofs.outboxes.Outboxes.get.Goals as goal

pub returns-in-Some : goal.returns-in-Some
returns-in-Some c =
    let boxes : List outboxes.Outbox = c.self.inside.boxes.items in
    let at = subst (λ (bs : List outboxes.Outbox). position (is_of c.args.session) bs ≡ Some c.in-Some.index) (sym c.self.view_is) (sym c.index_of.ensures ∙ c.in-Some.is) in
    let item = slice_get_read boxes (length boxes) c.in-Some.index c.index-found.result.now refl
    (position-Some (is_of c.args.session) boxes c.in-Some.index c.index-found.result.now at).0 c.index-found.ensures in
    subst (λ (bs : List outboxes.Outbox). Some c.index-found.result.now ≡ outboxes.outbox_of bs c.args.session) c.self.view_is (sym (box_at c.args.session boxes c.in-Some.index at ∙ item))

pub returns-in-None : goal.returns-in-None
returns-in-None c = sym (no_box c.args.session c.args.self.now (sym c.index_of.ensures ∙ c.in-None.is))
