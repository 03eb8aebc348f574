use Rattle.std.proofs.Common.{◌≡◌, ◌≤◌, ◌∙◌, sym, arith, min, nat_lt, filter, List}
use Rattle.ax_types.specs.declared.sessions.KeptReply.{KeptReply}
use Rattle.reply_cache.proofs.Runs.{all_popped}
use Rattle.reply_cache.proofs.cache.Cache.trim.Goals as goal

pub returns : goal.returns
returns c =
    let ks : List KeptReply = c.loop.self-inside.replies.items in
    let done : min c.loop.self-inside.last c.args.answered ≤ c.loop.counter = omega arith in
    let left : ks ≡ filter (λ k. nat_lt c.args.answered k.seq) c.self.inside.replies.items =
    sym (all_popped c.loop.counter c.args.answered c.loop.self-inside.last ks c.loop.invariant.0 c.loop.invariant.1 done) ∙ c.loop.invariant.2 in
    let last : c.loop.self-inside.last ≡ c.self.inside.last = c.loop.invariant.3 in
    rw (← c.self.view_is) (cc)
