use Rattle.std.proofs.Common.{refl, mod-lt, arith}
use Rattle.spec_window.specs.WindowWords.{window_places}
use Rattle.call_window.proofs.words.place_of.Goals as goal

pub returns-clause-value : goal.returns-clause-value
unfolding window_places
returns-clause-value c = refl

pub returns-clause-within : goal.returns-clause-within
unfolding window_places
returns-clause-within c = mod-lt c.args.number (omega arith)
