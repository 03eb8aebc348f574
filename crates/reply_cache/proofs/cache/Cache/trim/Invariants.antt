use Rattle.std.proofs.Common.{◌≡◌, ◌+◌, length, filter, nat_lt}
use Rattle.reply_cache.specs.Sequences as sequences
use Rattle.reply_cache.proofs.cache.Cache.trim.Given as goal

abbrev pub invariant-loop : goal.invariant-loop
invariant-loop l =
    sequences.Follow l.counter l.self-inside.replies.items
    × (l.counter + length l.self-inside.replies.items ≡ l.self-inside.last)
    × (filter (λ k. nat_lt l.answered k.seq) l.self-inside.replies.items ≡ filter (λ k. nat_lt l.answered k.seq) l.initial.self-inside.replies.items)
    × (l.self-inside.last ≡ l.initial.self-inside.last)
