-- The replies kept are those of the sequences after `before` up to the last, each at its distance from the first.
use Rattle.std.proofs.Common.{◌≡◌, ◌+◌, ◌-◌, length, arith, sym, ◌∙◌, refl, List, Some, None, nat_eq, subst}
use Rattle.std.specs.Prelude.{find, slice_get}
use Rattle.std.proofs.lemmas.Option.{slice_get_read}
use Rattle.ax_types.specs.declared.sessions.KeptReply.{KeptReply}
use Rattle.spec_sessions.specs.Outboxes as outboxes
use Rattle.reply_cache.specs.Sequences as reply_cache_sequences
use Rattle.reply_cache.proofs.Runs.{find-before, find-after, find-at}
use Rattle.reply_cache.proofs.cache.Cache.get.Goals as goal
use Rattle.reply_cache.proofs.cache.Cache.get.Goals.{then-seq-before-via-then-seq-before, then-seq-before-via-else-seq-before+then-seq-self}

pub returns-then-seq-before : goal.returns-then-seq-before
returns-then-seq-before c =
    let before = c.before-before.result in
    let ks : List KeptReply = c.self.inside.replies.items in
    let Sum : outboxes.Cache → Type 0 = λ r. before + length r.replies ≡ r.last in
    let sum : before + length ks ≡ c.self.inside.last = subst Sum (sym c.self.view_is) c.before-before.ensures in
    let first : before ≡ c.self.inside.last - length ks = omega arith in
    let follow : reply_cache_sequences.Follow before ks = rw first c.self.invariant.1 in
    let none : find (λ k. nat_eq k.seq c.args.seq) ks ≡ None = elim c.then-seq-before.branch [
      | then-seq-before-via-then-seq-before w ↦ find-before before c.args.seq ks follow (omega arith)
      | then-seq-before-via-else-seq-before+then-seq-self w ↦ find-after before c.args.seq ks follow (omega arith)
    ] in
    rw (← c.self.view_is) (sym none)

pub returns : goal.returns
returns c =
    let before = c.before-before.result in
    let ks : List KeptReply = c.self.inside.replies.items in
    let Sum : outboxes.Cache → Type 0 = λ r. before + length r.replies ≡ r.last in
    let sum : before + length ks ≡ c.self.inside.last = subst Sum (sym c.self.view_is) c.before-before.ensures in
    let first : before ≡ c.self.inside.last - length ks = omega arith in
    let follow : reply_cache_sequences.Follow before ks = rw first c.self.invariant.1 in
    let there : slice_get ks (c.args.seq - before - 1) ≡ Some c.index.result.now = slice_get_read ks (length ks) _ _ refl (omega arith) c.index.ensures in
    let found : find (λ k. nat_eq k.seq c.args.seq) ks ≡ slice_get ks (c.args.seq - before - 1) =
    find-at before c.args.seq _ ks follow (omega arith) in
    rw (← c.self.view_is) (sym (found ∙ there))
