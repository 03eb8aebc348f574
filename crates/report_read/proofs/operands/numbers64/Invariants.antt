use Rattle.std.proofs.Common.{◌≡◌, drop}
use Rattle.spec_report_read.specs.ReplyWords as reply_words
use Rattle.text_words.specs.Behind as behind
use Rattle.report_read.proofs.Loops as loops
use Rattle.report_read.proofs.operands.numbers64.Given as goal

abbrev pub invariant-words : goal.invariant-words
invariant-words l =
    reply_words.numbers64_from (behind.words_behind l.words) ≡ loops.behind_read l.numbers (reply_words.numbers64_from (behind.words_behind (drop l.word-index l.words)))
