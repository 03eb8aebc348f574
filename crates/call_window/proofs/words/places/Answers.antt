use Rattle.std.proofs.Common.{refl}
use Rattle.spec_window.specs.WindowWords.{window_places}
use Rattle.call_window.proofs.words.places.Goals as goal

pub returns-clause-value : goal.returns-clause-value
unfolding window_places
returns-clause-value c = refl
