-- The numbers of the calls that lack an outcome, in order.
use Rattle.std.specs.Prelude.{ℕ, ◌<◌, List, [], ◌∷◌}
use Rattle.spec_sequencer.specs.Sequencers as sequencers

-- each number is above the one before it, the first above this one
abbrev pub AreAbove : ℕ → List sequencers.Unanswered → Type 0
AreAbove n [] = Unit {0}
AreAbove n (u ∷ us) = (n < u.number) × AreAbove u.number us

-- each number is above the one before it
abbrev pub AreAscending : List sequencers.Unanswered → Type 0
AreAscending [] = Unit {0}
AreAscending (u ∷ us) = AreAbove u.number us

-- each number is below this one
abbrev pub AreBelow : ℕ → List sequencers.Unanswered → Type 0
AreBelow n [] = Unit {0}
AreBelow n (u ∷ us) = (u.number < n) × AreBelow n us
