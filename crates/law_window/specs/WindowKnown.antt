-- What a seat of the table knows, as plain data. It stands in proofs alone.
use Rattle.std.specs.Prelude.{ℕ, zero, suc, Option, None, Some, List, [], ◌∷◌, ◌++◌}
use Rattle.ax_types.specs.declared.ops.WindowCall.{WindowCall}
use Rattle.ax_types.specs.declared.replies.Outcome.{Outcome}
use Rattle.spec_window.specs.WindowWords as window_words
use Rattle.spec_window.specs.Views as views

-- what a caller is about: it drew a number and has not published its call, or it has the outcome and has not freed the place
pub data CallerTask : Type 0 where
  Idle : CallerTask
  Drew : (n : ℕ) → CallerTask
  Got : (n : ℕ) → (call : WindowCall) → (outcome : Outcome) → CallerTask

-- a caller: its seat, what it is about, and a base that it found
pub record CallerKnown : Type 0 where
  pub seat : views.SeatView
  pub task : CallerTask
  pub floor : ℕ

-- what the pump is about: it takes the call of its next number out, or puts the outcome of a number in
pub data PumpTask : Type 0 where
  Waits : PumpTask
  Reads : (n : ℕ) → (call : WindowCall) → PumpTask
  Puts : (n : ℕ) → PumpTask

-- the pump, what it is about, and the number below which it saw all calls done
pub record PumpKnown : Type 0 where
  pub pump : views.PumpView
  pub task : PumpTask
  pub passed : ℕ

-- A seat of the table stands for one caller or for the pump, or for all of them once they are joined. What the loads of a
-- joined seat found stands beside.
pub record WindowKnown : Type 0 where
  pub callers : List CallerKnown
  pub pump : Option PumpKnown
  pub found : List window_words.Look

abbrev pub new_caller : ℕ → CallerKnown
new_caller k = record { seat = views.new_seat_view k; task = Idle; floor = 0 }

abbrev pub new_callers : ℕ → ℕ → List CallerKnown
new_callers k zero = []
new_callers k (suc n) = new_caller k ∷ new_callers (suc k) n

abbrev pub new_pump : PumpKnown
new_pump = record { pump = views.new_pump_view; task = Waits; passed = 0 }

-- nothing is known
abbrev pub known_to_none : WindowKnown
known_to_none = record { callers = []; pump = None; found = [] }

abbrev pub known_to_caller : CallerKnown → WindowKnown
known_to_caller c = record { callers = c ∷ []; pump = None; found = [] }

abbrev pub known_to_pump : PumpKnown → WindowKnown
known_to_pump p = record { callers = []; pump = Some p; found = [] }

-- the first seat of the table stands for all callers and the pump
abbrev pub known_at_first : ℕ → WindowKnown
known_at_first callers = record { callers = new_callers 1 callers; pump = Some new_pump; found = [] }

abbrev pub caller_in : List CallerKnown → CallerKnown
caller_in [] = new_caller 0
caller_in (c ∷ cs) = c

-- the caller, or the first of the callers
abbrev pub caller_of : WindowKnown → CallerKnown
caller_of v = caller_in v.callers

abbrev pub pump_in : Option PumpKnown → PumpKnown
pump_in None = new_pump
pump_in (Some p) = p

abbrev pub pump_of : WindowKnown → PumpKnown
pump_of v = pump_in v.pump

-- one caller is split off
abbrev pub callers_but_first : List CallerKnown → List CallerKnown
callers_but_first [] = []
callers_but_first (c ∷ cs) = cs

abbrev pub without_first : WindowKnown → WindowKnown
without_first v = record v { callers = callers_but_first v.callers }

abbrev pub first_alone : WindowKnown → WindowKnown
first_alone v = known_to_caller (caller_of v)

-- two seats are joined
abbrev pub either_pump : Option PumpKnown → Option PumpKnown → Option PumpKnown
either_pump None q = q
either_pump (Some p) q = Some p

-- the first caller stays in front, and the others come behind it
abbrev pub callers_joined : List CallerKnown → List CallerKnown → List CallerKnown
callers_joined [] more = more
callers_joined (c ∷ cs) more = c ∷ (more ++ cs)

abbrev pub joined : WindowKnown → WindowKnown → WindowKnown
joined v w = record v { callers = callers_joined v.callers w.callers; pump = either_pump v.pump w.pump }

-- the first caller, with what the joined seat found behind its own looks
abbrev pub handed_back : WindowKnown → WindowKnown
handed_back v = known_to_caller (record (caller_of v) { seat = record (caller_of v).seat { looks = (caller_of v).seat.looks ++ v.found } })
