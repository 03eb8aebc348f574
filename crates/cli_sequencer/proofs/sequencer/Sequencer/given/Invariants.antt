-- The count so far, and then that of what is left, is the count.
use Rattle.std.proofs.Common.{◌≡◌, ◌+◌, ◌-◌, length, drop}
use Rattle.cli_sequencer.specs.GivenOut as given
use Rattle.cli_sequencer.proofs.sequencer.Sequencer.given.Given as goal

abbrev pub invariant-counted : goal.invariant-counted
invariant-counted l = l.count + given.given_in l.self.heard l.read (drop l.count l.self.calls) ≡ given.given_of l.self

abbrev pub decreases-counted : goal.decreases-counted
decreases-counted l = length l.self.calls - l.count
