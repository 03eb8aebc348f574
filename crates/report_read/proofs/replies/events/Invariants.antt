use Rattle.std.proofs.Common.{◌≡◌, ◌≤◌}
use Rattle.spec_report_read.specs.ReplyWords as reply_words
use Rattle.text_words.specs.Behind as behind
use Rattle.report_read.proofs.Loops as loops
use Rattle.report_read.proofs.replies.events.Given as goal

abbrev pub invariant-events : goal.invariant-events
invariant-events l =
    reply_words.events_from l.fn.count (behind.words_behind l.fn.words) ≡ loops.behind_read l.read (reply_words.events_from l.left (behind.words_behind l.rest))

abbrev pub decreases-events : goal.decreases-events
decreases-events l = l.left
