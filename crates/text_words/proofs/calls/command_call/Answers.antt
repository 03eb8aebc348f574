use Rattle.std.proofs.Common.{sym, arith}
use Rattle.std.proofs.lemmas.List.{length-map}
use Rattle.text_words.specs.Behind as behind
use Rattle.text_words.proofs.CallLemmas.{short_command}
use Rattle.text_words.proofs.calls.command_call.Goals as goal

pub returns-in_default : goal.returns-in_default
returns-in_default c = sym (short_command (behind.words_behind c.args.words.now) (simp length-map (omega arith)))
