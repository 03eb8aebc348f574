use Rattle.std.proofs.Common.{◌≡◌, ◌+◌, ◌-◌, ◌∙◌, ◌++◌, ◌∷◌, [], List, sym, ap, length, length-append, arith}
use Rattle.ax_types.specs.declared.sessions.KeptReply.{KeptReply}
use Rattle.reply_cache.proofs.Runs.{Follow-push}
use Rattle.reply_cache.proofs.cache.Cache.put.Goals as goal

pub invariant_of-self-2 : goal.invariant_of-self-2
invariant_of-self-2 c =
    let ks : List KeptReply = c.self.inside.replies.items in
    let next : c.args.kept.seq ≡ c.self.inside.last + 1 = c.requires ∙ sym (ap (λ r. r.last + 1) c.self.view_is) in
    let more : c.push_back.new.self.items ≡ ks ++ c.args.kept ∷ [] = c.in_ok-push_back.ensures.items in
    let long : length (ks ++ c.args.kept ∷ []) ≡ length ks + 1 = length-append ks (c.args.kept ∷ []) in
    let same : c.args.kept.seq - length (ks ++ c.args.kept ∷ []) ≡ c.self.inside.last - length ks = omega arith in
    rw more (omega arith, rw same (Follow-push _ ks c.args.kept c.self.invariant.1 (omega arith)))
