use Rattle.std.proofs.Common.{◌<◌, arith}
use Rattle.spec_window.specs.WindowWords.{window_places}
use Rattle.call_window.proofs.words.state.Goals as goal

pub overflow_add-result : goal.overflow_add-result
unfolding window_places
overflow_add-result c = let below : c.args.place < 64 = c.requires in omega arith
