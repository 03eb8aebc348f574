-- How a window begins, and how its seats are given out.
use Rattle.std.specs.Prelude.{◌≡◌, ℕ, zero, suc, ◌+◌, ◌<◌, List, [], ◌∷◌, length}
use Rattle.atomic_table.specs.Seated.{TableId}
use Rattle.spec_window.specs.WindowWords as window_words
use Rattle.spec_window.specs.Views as views
use Rattle.law_window.specs.WindowRule as rule
use Rattle.law_window.specs.WindowSeats as seats

-- the words at the start: no number is drawn, and each place is free for its own number
pub record AreFirstWords (places : ℕ) (words : List ℕ) : Type 0 where
  pub wide : length words ≡ places + 2
  pub next : rule.next_of words ≡ 0
  pub base : rule.base_of words ≡ 0
  pub states : (x : ℕ) → x < places → rule.state_of words x ≡ window_words.free_for x

-- the seats of so many callers, numbered from this one
abbrev pub new_seats : TableId → ℕ → ℕ → List seats.SeatOf
new_seats window k zero = []
new_seats window k (suc n) = record { window = window; seat = views.new_seat_view k } ∷ new_seats window (suc k) n

abbrev pub new_pump_of : TableId → seats.PumpOf
new_pump_of window = record { window = window; pump = views.new_pump_view }
