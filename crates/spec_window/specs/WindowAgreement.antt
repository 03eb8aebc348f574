-- What the lists of all seats, of the pump and the words must agree on when a window is closed.
use Rattle.std.specs.Prelude.{◌≡◌, ℕ, ◌+◌, ◌<◌, ◌≤◌, ◌⊎◌, nat_eq, nat_lt, if◌then◌else◌, Option, None, Some, List, [], ◌∷◌, ◌++◌, length, map, flat_map, count_by, slice_get, slice_index, All, Contains}
use Rattle.std.specs.List.Sorted.{IsStrictlyIncreasing}
use Rattle.ax_types.specs.declared.ops.WindowCall.{WindowCall}
use Rattle.ax_types.specs.declared.replies.Outcome.{Outcome}
use Rattle.ax_types.specs.declared.replies.Outcome.TheVariants as outcome
use Rattle.spec_window.specs.WindowWords as window_words
use Rattle.spec_window.specs.Views as views
use Rattle.spec_window.specs.WindowCalls as window_calls

-- what the last loads found: the next number, and the state of each place
pub record LastLoads : Type 0 where
  pub next : ℕ
  pub states : List ℕ

-- the looks at the states of the places from this one on
abbrev pub state_looks : ℕ → List ℕ → List window_words.Look
state_looks place [] = []
state_looks place (state ∷ states) = window_calls.look (window_words.State place) state ∷ state_looks (place + 1) states

-- the looks of the last loads, in order
abbrev pub found_looks : LastLoads → List window_words.Look
found_looks f = window_calls.look window_words.Next f.next ∷ state_looks 0 f.states

-- what was found at the place of a number
abbrev pub found_at : ℕ → LastLoads → ℕ → ℕ
found_at places f n = slice_index f.states (window_words.place_of places n)

abbrev pub all_drawn : List views.SeatView → List views.Drawn
all_drawn seats = flat_map (λ s. s.mine) seats

-- how often a number was drawn, and how often it was given
abbrev pub times_drawn : ℕ → List views.SeatView → ℕ
times_drawn n seats = count_by (λ d. nat_eq d.number n) (all_drawn seats)

abbrev pub times_given : ℕ → views.PumpView → ℕ
times_given n pump = count_by (λ g. nat_eq g.number n) pump.given

-- the calls and the outcomes of the drawn calls agree with what the pump took and gave
pub record IsServed (pump : views.PumpView) (d : views.Drawn) : Type 0 where
  pub call : d.number < length pump.taken → slice_get pump.taken d.number ≡ Some d.call
  pub outcome : (o : Outcome) → d.outcome ≡ Some o → Contains pump.given (record { number = d.number; outcome = o })

-- a place has gone as far as the number that it serves
pub record HasCome (places : ℕ) (f : LastLoads) (d : views.Drawn) : Type 0 where
  pub drawn : window_words.published d.number ≤ found_at places f d.number
  pub out : (o : Outcome) → d.outcome ≡ Some o → window_words.free_for (d.number + places) ≤ found_at places f d.number

pub record IsAgreed (places : ℕ) (pump : views.PumpView) (seats : List views.SeatView) (f : LastLoads) : Type 0 where
  -- the numbers below next were drawn once each, and no others; they rise in each seat, and no seat saw a greater next
  pub once : (n : ℕ) → times_drawn n seats ≡ (if nat_lt n f.next then 1 else 0)
  pub rising : All (λ s. IsStrictlyIncreasing (map (λ d. d.number) s.mine)) seats
  pub seen : All (λ s. s.seen ≤ f.next) seats
  -- the calls taken are those that were drawn
  pub taken : length pump.taken ≤ f.next
  -- each number was given one outcome at most, and only after it was taken
  pub given_once : (n : ℕ) → times_given n pump ≤ 1
  pub given_taken : All (λ g. g.number < length pump.taken) pump.given
  -- what each caller has is what the pump took and gave
  pub served : All (IsServed pump) (all_drawn seats)
  -- the places have gone as far as the numbers
  pub drawn_words : All (HasCome places f) (all_drawn seats)
  pub given_words : All (λ g. window_words.answered g.number ≤ found_at places f g.number) pump.given

-- A window that was closed: all agree on what the last loads found. The seat handed back is the first one, and has behind its
-- own looks those of a load of next for each join, and then the last loads.
pub record IsClosed (places : ℕ) (pump : views.PumpView) (seats : List views.SeatView) (drawn given : ℕ) (seat : views.SeatView) : Type 0 where
  pub found : LastLoads
  pub agreed : IsAgreed places pump seats found
  pub drawn_is : drawn ≡ found.next
  pub given_is : given ≡ length pump.given
  pub whole : length found.states ≡ places
  pub first : views.SeatView
  pub first_is : slice_get seats 0 ≡ Some first
  -- one for the pump, and one for each seat but the first
  pub joins : List ℕ
  pub joined : length joins ≡ length seats
  pub caller : seat.caller ≡ first.caller
  pub looks : seat.looks ≡ first.looks ++ (map (window_calls.look window_words.Next) joins ++ found_looks found)

-- ---- a caller that has ended

-- an outcome after which a caller submits no more
abbrev pub IsLast : Outcome → Type 0
IsLast outcome.Unanswered = Unit {0}
IsLast outcome.Stopped = Unit {0}
IsLast _ = ⊥

abbrev pub told_outcome : views.Drawn → Option views.GivenOutcome
told_outcome d = with_number d.outcome
  where
    with_number : Option Outcome → Option views.GivenOutcome
    with_number None = None
    with_number (Some o) = Some (record { number = d.number; outcome = o })

-- A caller that ended drew a first part of its calls, has the outcome of each, and was told these in order. It drew all of
-- its calls, or was told one of the outcomes that end it, or found the window spent.
pub record IsReported (calls : List WindowCall) (seat : views.SeatView) (told : List views.GivenOutcome) : Type 0 where
  pub rest : List WindowCall
  pub first_part : calls ≡ map (λ d. d.call) seat.mine ++ rest
  pub each_told : map told_outcome seat.mine ≡ map Some told
  pub ended : (rest ≡ []) ⊎ (((g : views.GivenOutcome) × Contains told g × IsLast g.outcome) ⊎ Contains seat.looks (window_calls.look window_words.Next window_words.last_number))
