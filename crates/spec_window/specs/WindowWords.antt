-- The words of the call window, and the steps that change them.
-- Calls are numbered from 0. Call n is served by the place n mod places. Each place has a slot for the call or its outcome,
-- and a state word 4m + phase, where m is the number that it serves.
use Rattle.std.specs.Prelude.{ℕ, zero, suc, ◌+◌, ◌*◌, ◌/◌, ◌%◌, Bool, nat_eq, ◌&&◌, List, [], ◌∷◌, map, slice_set, slice_index}
use Rattle.ax_types.specs.declared.limits.TheConstants.{MAX_UNANSWERED, LAST_NUMBER}
use Rattle.ax_types.specs.Places as lists

-- how many places the window of the program has
unfoldable pub window_places : ℕ
window_places = MAX_UNANSWERED

-- the number at which the window is spent
abbrev pub last_number : ℕ
last_number = LAST_NUMBER

-- the number of the next call, the number below which no place is in use, and the state of each place, from place 0 on
pub data WindowWord : Type 0 where
  Next : WindowWord
  Base : WindowWord
  State : (place : ℕ) → WindowWord

-- what a load, or the attempt of a compare and exchange, found
pub record Look : Type 0 where
  pub word : WindowWord
  pub value : ℕ

abbrev pub place_of : ℕ → ℕ → ℕ
place_of places n = n % places

abbrev pub state_word : ℕ → ℕ → WindowWord
state_word places n = State (place_of places n)

-- the state of a place: free for call n, with its call, taken out by the pump, and with its outcome
abbrev pub free_for : ℕ → ℕ
free_for n = 4 * n

abbrev pub published : ℕ → ℕ
published n = 4 * n + 1

abbrev pub taken_out : ℕ → ℕ
taken_out n = 4 * n + 2

abbrev pub answered : ℕ → ℕ
answered n = 4 * n + 3

-- the number that a state word serves
abbrev pub served_by : ℕ → ℕ
served_by state = state / 4

pub record Words : Type 0 where
  pub next : ℕ
  pub base : ℕ
  pub states : List ℕ

-- at the start no call is drawn, and each place is free for its own number
abbrev pub words_at_start : ℕ → Words
words_at_start places = record { next = 0; base = 0; states = map free_for (lists.numbers_from 0 places) }

abbrev pub value_of : Words → WindowWord → ℕ
value_of w Next = w.next
value_of w Base = w.base
value_of w (State place) = slice_index w.states place

-- What one step does to the words. A caller draws number n where the next number still is n, publishes it, and takes its
-- outcome out; the pump takes it, answers it, and raises the base.
pub data Move : Type 0 where
  Draw : (n : ℕ) → Move
  Publish : (n : ℕ) → Move
  Take : (n : ℕ) → Move
  Answer : (n : ℕ) → Move
  Free : (n : ℕ) → Move
  Raise : (n : ℕ) → Move

abbrev pub words_moved : ℕ → Words → Move → Words
words_moved places w (Draw n) = record w { next = n + 1 }
words_moved places w (Publish n) = record w { states = slice_set w.states (place_of places n) (published n) }
words_moved places w (Take n) = record w { states = slice_set w.states (place_of places n) (taken_out n) }
words_moved places w (Answer n) = record w { states = slice_set w.states (place_of places n) (answered n) }
words_moved places w (Free n) = record w { states = slice_set w.states (place_of places n) (free_for (n + places)) }
words_moved places w (Raise n) = record w { base = n + 1 }

-- whether the words let the step happen: a number is drawn in order, and a place goes through its states in order
abbrev pub may_move : ℕ → Words → Move → Bool
may_move places w (Draw n) = nat_eq w.next n
may_move places w (Publish n) = nat_eq (value_of w (state_word places n)) (free_for n)
may_move places w (Take n) = nat_eq (value_of w (state_word places n)) (published n)
may_move places w (Answer n) = nat_eq (value_of w (state_word places n)) (taken_out n)
may_move places w (Free n) = nat_eq (value_of w (state_word places n)) (answered n)
may_move places w (Raise n) = nat_eq w.base n && nat_eq (value_of w (state_word places n)) (free_for (n + places))
