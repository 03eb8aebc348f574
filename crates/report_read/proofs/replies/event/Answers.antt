use Rattle.std.proofs.Common.{sym, arith}
use Rattle.std.proofs.lemmas.List.{length-map}
use Rattle.text_words.specs.Behind as behind
use Rattle.report_read.proofs.Short.{short_event}
use Rattle.report_read.proofs.replies.event.Goals as goal

pub returns-in_default : goal.returns-in_default
returns-in_default c = sym (short_event (behind.words_behind c.args.words.now) (simp length-map (omega arith)))
