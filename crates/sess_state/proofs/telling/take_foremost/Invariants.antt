-- The events so far, and then those still at the front.
use Rattle.std.proofs.Common.{◌≡◌, ◌++◌, length}
use Rattle.sess_state.specs.Batching as batching
use Rattle.sess_state.proofs.telling.take_foremost.Given as goal

abbrev pub invariant-foremost : goal.invariant-foremost
invariant-foremost l = (l.events ++ batching.foremost l.session l.told.items ≡ batching.foremost l.session l.initial.told.items)
    × (batching.beyond l.session l.told.items ≡ batching.beyond l.session l.initial.told.items)

abbrev pub decreases-foremost : goal.decreases-foremost
decreases-foremost l = length l.told.items
