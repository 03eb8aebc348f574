-- A window of two places through which one call went, as its seat, its pump and the last loads have it.
use Rattle.std.specs.Prelude.{codes, pos, Some, List, [], ◌∷◌, ◌++◌}
use Rattle.ax_types.specs.declared.ops.LongOp.TheVariants as long
use Rattle.ax_types.specs.declared.ops.Op.TheVariants as op
use Rattle.ax_types.specs.declared.ops.WindowCall.{WindowCall}
use Rattle.ax_types.specs.declared.ops.WindowCall.TheVariants as call
use Rattle.ax_types.specs.declared.replies.Outcome.TheVariants as outcome
use Rattle.spec_window.specs.WindowWords as window_words
use Rattle.spec_window.specs.Views as views
use Rattle.spec_window.specs.WindowCalls as window_calls
use Rattle.spec_window.specs.WindowAgreement as agreement

abbrev pub add_five_call : WindowCall
add_five_call = call.Command (codes "c") (op.Long (long.Add (pos 5)))

abbrev pub told_outcomes : List views.GivenOutcome
told_outcomes = record { number = 0; outcome = outcome.Doubt } ∷ []

abbrev pub pump : views.PumpView
pump = record { taken = add_five_call ∷ []; given = told_outcomes; base = 1; looks = [] }

abbrev pub drawn_calls : List views.Drawn
drawn_calls = record { number = 0; call = add_five_call; outcome = Some outcome.Doubt } ∷ []

abbrev pub seat : views.SeatView
seat = record { caller = 1; mine = drawn_calls; seen = 1; looks = [] }

-- the next number, and the place of the call free for its next number
abbrev pub last_loads : agreement.LastLoads
last_loads = record { next = 1; states = 8 ∷ 4 ∷ [] }

-- the seat handed back at the close: a load of next for the join, and then the last loads
abbrev pub closed_seat : views.SeatView
closed_seat = record seat { looks = window_calls.look window_words.Next 1 ∷ agreement.found_looks last_loads }
