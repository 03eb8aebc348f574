-- What each step of the window tells the seat that makes it: the whole of what it knows and holds afterwards.
use Rattle.std.specs.Prelude.{◌≡◌, ℕ, ◌+◌, ◌-◌, ◌<◌, ◌≤◌, nat_eq, if◌then◌else◌, Option, None, Some, [], ◌∷◌, ◌++◌, length, slice_index, MatchBool}
use mathlib.Core.Option.{some}
use lib.ListN.{get_elem?}
use Rattle.atomic_table.specs.Table.{State, Me, Step}
use Rattle.ax_types.specs.declared.ops.WindowCall.{WindowCall}
use Rattle.ax_types.specs.declared.replies.Outcome.{Outcome}
use Rattle.spec_window.specs.WindowWords as window_words
use Rattle.spec_window.specs.Views as views
use Rattle.spec_window.specs.WindowCalls as window_calls
use Rattle.law_window.specs.declared.parcel.Parcel.{Parcel}
use Rattle.law_window.specs.declared.parcel.Parcel.TheVariants as parcel
use Rattle.law_window.specs.WindowKnown as known
use Rattle.law_window.specs.WindowLives as lives
use Rattle.law_window.specs.WindowRule as rule

abbrev pub Place : Type 0
Place = Option Parcel

abbrev pub Knows : Type 0
Knows = Me Place known.WindowKnown

-- ---- what a caller knows after a step

abbrev pub caller_looked : known.CallerKnown → window_words.WindowWord → ℕ → known.CallerKnown
caller_looked c word value = record c { seat = record c.seat { looks = c.seat.looks ++ window_calls.look word value ∷ [] } }

abbrev pub saw_next : known.CallerKnown → ℕ → known.CallerKnown
saw_next c n = record c { seat = record c.seat { seen = n; looks = c.seat.looks ++ window_calls.look window_words.Next n ∷ [] } }

abbrev pub saw_base : known.CallerKnown → ℕ → known.CallerKnown
saw_base c b = record (caller_looked c window_words.Base b) { floor = b }

abbrev pub drew : known.CallerKnown → ℕ → known.CallerKnown
drew c n = record c { seat = record c.seat { seen = n + 1; looks = c.seat.looks ++ window_calls.look window_words.Next n ∷ [] }; task = known.Drew n }

abbrev pub has_published : known.CallerKnown → ℕ → WindowCall → known.CallerKnown
has_published c n call = record c { seat = record c.seat { mine = c.seat.mine ++ record { number = n; call = call; outcome = None } ∷ [] }; task = known.Idle }

abbrev pub saw_state : ℕ → known.CallerKnown → ℕ → ℕ → known.CallerKnown
saw_state places c n s = caller_looked c (window_words.state_word places n) s

abbrev pub got : ℕ → known.CallerKnown → ℕ → WindowCall → Outcome → known.CallerKnown
got places c n call o = record (saw_state places c n (window_words.answered n)) { task = known.Got n call o }

abbrev pub was_told : known.CallerKnown → ℕ → Outcome → known.CallerKnown
was_told c n o = record c { seat = record c.seat { mine = views.with_outcome c.seat.mine n o }; task = known.Idle }

-- ---- what the pump knows after a step

abbrev pub pump_looked : ℕ → known.PumpKnown → ℕ → ℕ → known.PumpKnown
pump_looked places p n s = record p { pump = record p.pump { looks = p.pump.looks ++ window_calls.look (window_words.state_word places n) s ∷ [] } }

abbrev pub reads : ℕ → known.PumpKnown → WindowCall → known.PumpKnown
reads places p call = record (pump_looked places p (length p.pump.taken) (window_words.published (length p.pump.taken))) { task = known.Reads (length p.pump.taken) call }

abbrev pub took : known.PumpKnown → WindowCall → known.PumpKnown
took p call = record p { pump = record p.pump { taken = p.pump.taken ++ call ∷ [] }; task = known.Waits }

abbrev pub puts : known.PumpKnown → ℕ → known.PumpKnown
puts p n = record p { task = known.Puts n }

abbrev pub gave : known.PumpKnown → ℕ → Outcome → known.PumpKnown
gave p n o = record p { pump = record p.pump { given = p.pump.given ++ record { number = n; outcome = o } ∷ [] }; task = known.Waits }

abbrev pub passes : ℕ → known.PumpKnown → known.PumpKnown
passes places p = record (pump_looked places p p.pump.base (window_words.free_for (p.pump.base + places))) { passed = p.pump.base + 1 }

abbrev pub raised : known.PumpKnown → known.PumpKnown
raised p = record p { pump = record p.pump { base = p.pump.base + 1 } }

-- ---- the steps of a caller

-- the next number
abbrev pub SeesNext : Step Place → Knows → ℕ → Knows → Type 0
SeesNext s m n m' = (m' ≡ (known.known_to_caller (saw_next (known.caller_of m.0) n), m.1)) × ((known.caller_of m.0).seat.seen ≤ n) × (n ≤ window_words.last_number)

-- the base
abbrev pub SeesBase : Step Place → Knows → ℕ → Knows → Type 0
SeesBase s m b m' = (m' ≡ (known.known_to_caller (saw_base (known.caller_of m.0) b), m.1)) × ((known.caller_of m.0).seat.seen ≤ b + s.slots)

-- the number is drawn, and the slot of its place with it; or the next number was another one
abbrev pub Draws : Step Place → Knows → ℕ → Knows → Type 0
Draws s m n m' = MatchBool (nat_eq n s.first)
    (m' ≡ (known.known_to_caller (drew (known.caller_of m.0) n), (window_words.place_of s.slots n, None) ∷ m.1))
    ((m' ≡ (known.known_to_caller (saw_next (known.caller_of m.0) n), m.1)) × ((known.caller_of m.0).seat.seen ≤ n) × (n ≤ window_words.last_number))

-- the call of the number that was drawn is published
abbrev pub Publishes : Step Place → Knows → ℕ → Knows → Type 0
Publishes s m _ m' = (n : ℕ) (call : WindowCall) → (known.caller_of m.0).task ≡ known.Drew n → m.1 ≡ (window_words.place_of s.slots n, Some (parcel.Call call)) ∷ []
    → m' ≡ (known.known_to_caller (has_published (known.caller_of m.0) n call), [])

-- the number has its outcome, in the slot of its place; or not yet
abbrev pub SeesOutcome : ℕ → Step Place → Knows → ℕ → Knows → Type 0
SeesOutcome n s m found m' = MatchBool (nat_eq found (window_words.answered n))
    ((call : WindowCall) × (o : Outcome) × (m' ≡ (known.known_to_caller (got s.slots (known.caller_of m.0) n call o), (window_words.place_of s.slots n, Some (parcel.Outcome o)) ∷ m.1)) × (lives.note_in (known.caller_of m.0).seat.mine n ≡ Some (lives.Called call)))
    (m' ≡ (known.known_to_caller (saw_state s.slots (known.caller_of m.0) n found), m.1))

-- the place is free for its next number
abbrev pub Frees : Step Place → Knows → ℕ → Knows → Type 0
Frees s m _ m' = (n : ℕ) (call : WindowCall) (o : Outcome) → (known.caller_of m.0).task ≡ known.Got n call o → m.1 ≡ (window_words.place_of s.slots n, None) ∷ []
    → m' ≡ (known.known_to_caller (was_told (known.caller_of m.0) n o), [])

-- ---- the steps of the pump

abbrev pub next_taken : Knows → ℕ
next_taken m = length (known.pump_of m.0).pump.taken

-- the next number has its call, in the slot of its place; or not yet
abbrev pub SeesCall : Step Place → Knows → ℕ → Knows → Type 0
SeesCall s m found m' = MatchBool (nat_eq found (window_words.published (next_taken m)))
    ((call : WindowCall) × (m' ≡ (known.known_to_pump (reads s.slots (known.pump_of m.0) call), (window_words.place_of s.slots (next_taken m), Some (parcel.Call call)) ∷ m.1)) × (next_taken m < window_words.last_number))
    (m' ≡ (known.known_to_pump (pump_looked s.slots (known.pump_of m.0) (next_taken m) found), m.1))

-- the call of the next number is taken
abbrev pub Takes : Step Place → Knows → ℕ → Knows → Type 0
Takes s m _ m' = (call : WindowCall) → (known.pump_of m.0).task ≡ known.Reads (next_taken m) call → m.1 ≡ (window_words.place_of s.slots (next_taken m), None) ∷ []
    → m' ≡ (known.known_to_pump (took (known.pump_of m.0) call), [])

-- the slot of the place is the pump's again
abbrev pub Puts : Step Place → Knows → ℕ → Knows → Type 0
Puts s m _ m' = (n : ℕ) → s.first ≡ window_words.taken_out n → m' ≡ (known.known_to_pump (puts (known.pump_of m.0) n), (window_words.place_of s.slots n, None) ∷ m.1)

-- the number is given its outcome
abbrev pub Gives : Step Place → Knows → ℕ → Knows → Type 0
Gives s m _ m' = (n : ℕ) (o : Outcome) → (known.pump_of m.0).task ≡ known.Puts n → m.1 ≡ (window_words.place_of s.slots n, Some (parcel.Outcome o)) ∷ []
    → m' ≡ (known.known_to_pump (gave (known.pump_of m.0) n o), [])

-- the place of the base is free for its next number; or not yet
abbrev pub SeesPassed : Step Place → Knows → ℕ → Knows → Type 0
SeesPassed s m found m' = MatchBool (nat_eq found (window_words.free_for ((known.pump_of m.0).pump.base + s.slots)))
    ((m' ≡ (known.known_to_pump (passes s.slots (known.pump_of m.0)), m.1)) × ((known.pump_of m.0).pump.base < window_words.last_number))
    (m' ≡ (known.known_to_pump (pump_looked s.slots (known.pump_of m.0) (known.pump_of m.0).pump.base found), m.1))

-- the base is raised
abbrev pub Raises : Step Place → Knows → ℕ → Knows → Type 0
Raises s m _ m' = m' ≡ (known.known_to_pump (raised (known.pump_of m.0)), m.1)

-- ---- the last steps, of the joined seat

-- the word of the table, where it is next or the state of a place
abbrev pub word_at : ℕ → window_words.WindowWord
word_at w = if nat_eq w 0 then window_words.Next else window_words.State (w - 2)

-- the rule held of words and slots where the seat knew this, and this word was found
pub record IsFoundIn (places crew : ℕ) (v : known.WindowKnown) (word found : ℕ) : Type 0 where
  pub state : State Place known.WindowKnown
  pub window : rule.IsWindow places crew state
  pub id : ℕ
  pub seat : get_elem? state.views id ≡ some v
  pub word_is : found ≡ slice_index state.words word

abbrev pub saw_last : known.WindowKnown → ℕ → ℕ → known.WindowKnown
saw_last v word found = record v { found = v.found ++ window_calls.look (word_at word) found ∷ [] }

abbrev pub SeesLast : ℕ → Step Place → Knows → ℕ → Knows → Type 0
SeesLast crew s m found m' = (m' ≡ (saw_last m.0 s.word found, m.1)) × IsFoundIn s.slots crew m.0 s.word found

-- the first caller is handed back
abbrev pub forgotten : known.WindowKnown → known.WindowKnown
forgotten v = known.known_to_none
