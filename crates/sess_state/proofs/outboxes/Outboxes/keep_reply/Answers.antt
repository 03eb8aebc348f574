-- The outbox of the session keeps the reply where it stands.
use Rattle.std.proofs.Common.{◌≡◌, ◌+◌, ◌∙◌, sym, ap, subst, List, Option, Some, position, slice_set}
use Rattle.spec_sessions.specs.Outboxes as outboxes
use Rattle.sess_state.proofs.BoxAt.{is_of, found_there, changed_there, ascend_there}
use Rattle.sess_state.proofs.outboxes.Outboxes.keep_reply.Goals as goal

pub keep_reply-requires : goal.keep_reply-requires
keep_reply-requires c =
    let boxes : List outboxes.Outbox = c.self.inside.boxes.items in
    let at = subst (λ (bs : List outboxes.Outbox). position (is_of c.args.session) bs ≡ Some c.in-Some.index) (sym c.self.view_is) (sym c.index_of.ensures ∙ c.in-Some.is) in
    let found = found_there c.args.session boxes c.in-Some.index c.index_mut-found.result.now at c.index_mut-found.ensures.value in
    let next = subst (λ (bs : List outboxes.Outbox). c.args.kept.seq ≡ outboxes.last_seq bs c.args.session + 1) (sym c.self.view_is) c.requires in
    subst (λ (x : Option outboxes.Outbox). c.args.kept.seq ≡ outboxes.last_seq_in x + 1) found next

pub invariant_of-self-2 : goal.invariant_of-self-2
invariant_of-self-2 c =
    let boxes : List outboxes.Outbox = c.self.inside.boxes.items in
    let at = subst (λ (bs : List outboxes.Outbox). position (is_of c.args.session) bs ≡ Some c.in-Some.index) (sym c.self.view_is) (sym c.index_of.ensures ∙ c.in-Some.is) in
    ascend_there c.args.session boxes c.in-Some.index c.index_mut-found.result.now c.keep_reply.new.self c.self.invariant at c.index_mut-found.ensures.value
    (ap (λ (o : outboxes.Outbox). o.session) c.in_ok-keep_reply.ensures.ok)

pub returns-clause-ok : goal.returns-clause-ok
returns-clause-ok c =
    let boxes : List outboxes.Outbox = c.self.inside.boxes.items in
    let at = subst (λ (bs : List outboxes.Outbox). position (is_of c.args.session) bs ≡ Some c.in-Some.index) (sym c.self.view_is) (sym c.index_of.ensures ∙ c.in-Some.is) in
    let changed =
    changed_there (outboxes.with_reply c.args.kept) c.args.session boxes c.in-Some.index c.index_mut-found.result.now c.keep_reply.new.self c.self.invariant at
    c.index_mut-found.ensures.value c.in_ok-keep_reply.ensures.ok in
    subst (λ (bs : List outboxes.Outbox). slice_set boxes c.in-Some.index c.keep_reply.new.self ≡ outboxes.change_outbox (outboxes.with_reply c.args.kept) c.args.session bs)
    c.self.view_is changed
