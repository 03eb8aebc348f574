use Rattle.std.proofs.Common.{sym, arith}
use Rattle.std.proofs.lemmas.List.{length-map}
use Rattle.text_words.specs.Behind as behind
use Rattle.script_text.proofs.StepLemmas.{short_call_step}
use Rattle.script_text.proofs.steps.call_step.Goals as goal

pub returns-in_default : goal.returns-in_default
returns-in_default c = sym (short_call_step c.args.sizes.clients (behind.words_behind c.args.words.now) (simp length-map (omega arith)))
