-- What the seats and the pump of a window keep.
use Rattle.std.specs.Prelude.{ℕ, Option, Some, List, [], ◌∷◌, nat_eq, if◌then◌else◌}
use Rattle.ax_types.specs.declared.ops.WindowCall.{WindowCall}
use Rattle.ax_types.specs.declared.replies.Outcome.{Outcome}
use Rattle.spec_window.specs.WindowWords as window_words

-- a call that a seat drew: its number, and its outcome once the seat took it out
pub record Drawn : Type 0 where
  pub number : ℕ
  pub call : WindowCall
  pub outcome : Option Outcome

-- a caller's seat: its caller, the calls that it drew, the greatest next number that it read or wrote, and what its steps found
pub record SeatView : Type 0 where
  pub caller : ℕ
  pub mine : List Drawn
  pub seen : ℕ
  pub looks : List window_words.Look

-- an outcome that the pump gave to a number
pub record GivenOutcome : Type 0 where
  pub number : ℕ
  pub outcome : Outcome

-- the pump: the calls that it took, from number 0 on, the outcomes that it gave, the base, and what its steps found
pub record PumpView : Type 0 where
  pub taken : List WindowCall
  pub given : List GivenOutcome
  pub base : ℕ
  pub looks : List window_words.Look

-- the seat of a caller that has drawn nothing
abbrev pub new_seat_view : ℕ → SeatView
new_seat_view caller = record { caller = caller; mine = []; seen = 0; looks = [] }

abbrev pub new_pump_view : PumpView
new_pump_view = record { taken = []; given = []; base = 0; looks = [] }

-- the calls that were drawn, with the outcome of this number put in
abbrev pub with_outcome : List Drawn → ℕ → Outcome → List Drawn
with_outcome [] number outcome = []
with_outcome (d ∷ drawn) number outcome =
    if nat_eq d.number number then record d { outcome = Some outcome } ∷ with_outcome drawn number outcome
    else d ∷ with_outcome drawn number outcome
