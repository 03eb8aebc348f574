-- The outbox of the session is told where it stands.
use Rattle.std.proofs.Common.{◌≡◌, ◌<◌, ◌∙◌, sym, ap, subst, List, Option, Some, position, slice_set}
use Rattle.spec_sessions.specs.Outboxes as outboxes
use Rattle.sess_state.specs.Batching as batching
use Rattle.sess_state.proofs.BoxAt.{is_of, no_box, found_there, changed_there, ascend_there}
use Rattle.sess_state.proofs.outboxes.Outboxes.tell.Goals as goal

pub returns-in_default-clause-ok : goal.returns-in_default-clause-ok
returns-in_default-clause-ok c =
    sym (ap (batching.batch_for c.args.place c.args.events) (no_box c.args.session c.args.self.now (sym c.index_of.ensures ∙ c.in_default.is)))

pub tell-requires : goal.tell-requires
tell-requires c =
    let boxes : List outboxes.Outbox = c.self.inside.boxes.items in
    let at = subst (λ (bs : List outboxes.Outbox). position (is_of c.args.session) bs ≡ Some c.in-Some.index) (sym c.self.view_is) (sym c.index_of.ensures ∙ c.in-Some.is) in
    let found = found_there c.args.session boxes c.in-Some.index c.index_mut-found.result.now at c.index_mut-found.ensures.value in
    let earlier = subst (λ (bs : List outboxes.Outbox). outboxes.last_batch bs c.args.session < c.args.place) (sym c.self.view_is) c.requires in
    subst (λ (x : Option outboxes.Outbox). outboxes.last_batch_in x < c.args.place) found earlier

pub invariant_of-self-2 : goal.invariant_of-self-2
invariant_of-self-2 c =
    let boxes : List outboxes.Outbox = c.self.inside.boxes.items in
    let at = subst (λ (bs : List outboxes.Outbox). position (is_of c.args.session) bs ≡ Some c.in-Some.index) (sym c.self.view_is) (sym c.index_of.ensures ∙ c.in-Some.is) in
    ascend_there c.args.session boxes c.in-Some.index c.index_mut-found.result.now c.tell.new.self c.self.invariant at c.index_mut-found.ensures.value
    (ap (λ (o : outboxes.Outbox). o.session) c.in_ok-batch.ensures.after)

pub returns-clause-ok : goal.returns-clause-ok
returns-clause-ok c =
    let boxes : List outboxes.Outbox = c.self.inside.boxes.items in
    let at = subst (λ (bs : List outboxes.Outbox). position (is_of c.args.session) bs ≡ Some c.in-Some.index) (sym c.self.view_is) (sym c.index_of.ensures ∙ c.in-Some.is) in
    let found = found_there c.args.session boxes c.in-Some.index c.index_mut-found.result.now at c.index_mut-found.ensures.value in
    let seen = subst (λ (bs : List outboxes.Outbox). outboxes.outbox_of bs c.args.session ≡ Some c.index_mut-found.result.now) c.self.view_is found in
    ap Some c.in_ok-batch.ensures.ok ∙ sym (ap (batching.batch_for c.args.place c.args.events) seen)

pub returns-clause-after : goal.returns-clause-after
returns-clause-after c =
    let boxes : List outboxes.Outbox = c.self.inside.boxes.items in
    let at = subst (λ (bs : List outboxes.Outbox). position (is_of c.args.session) bs ≡ Some c.in-Some.index) (sym c.self.view_is) (sym c.index_of.ensures ∙ c.in-Some.is) in
    let changed =
    changed_there (batching.batched c.args.place c.args.events) c.args.session boxes c.in-Some.index c.index_mut-found.result.now c.tell.new.self c.self.invariant at
    c.index_mut-found.ensures.value c.in_ok-batch.ensures.after in
    subst (λ (bs : List outboxes.Outbox). slice_set boxes c.in-Some.index c.tell.new.self ≡ outboxes.change_outbox (batching.batched c.args.place c.args.events) c.args.session bs)
    c.self.view_is changed
