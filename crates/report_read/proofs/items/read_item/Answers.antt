use Rattle.std.proofs.Common.{sym, arith}
use Rattle.std.proofs.lemmas.List.{length-map}
use Rattle.text_words.specs.Behind as behind
use Rattle.report_read.proofs.Short.{short_read_item}
use Rattle.report_read.proofs.items.read_item.Goals as goal

pub returns-in_default : goal.returns-in_default
returns-in_default c = sym (short_read_item (behind.words_behind c.args.words.now) (simp length-map (omega arith)))
