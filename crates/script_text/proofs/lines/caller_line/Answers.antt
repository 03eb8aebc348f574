use Rattle.std.proofs.Common.{arith}
use Rattle.std.proofs.lemmas.List.{length-map}
use Rattle.text_words.specs.Behind as behind
use Rattle.script_text.specs.Drafts as drafts
use Rattle.script_text.proofs.StepLemmas.{short_caller}
use Rattle.script_text.proofs.lines.caller_line.Goals as goal

pub returns-in_default : goal.returns-in_default
returns-in_default c = short_caller c.args.number (behind.words_behind c.args.words.now) (drafts.draft_of c.args.draft.now) (simp length-map (omega arith))
