-- Queries that wait until a server's state is new enough for them, and the sessions that are connected to it.
use Rattle.std.specs.Prelude.{ℕ, max, Bool, true, false, not, nat_eq, nat_lt, Option, Some, None, List, [], ◌∷◌, ◌++◌, length, filter, find, if◌then◌else◌}
use Rattle.ax_types.specs.declared.limits.TheConstants.{MAX_HELD}
use Rattle.ax_types.specs.declared.sessions.Held.{Held}

-- the most queries that a node holds
abbrev pub most_held : ℕ
most_held = MAX_HELD

-- a query is held, unless as many are held as may be
abbrev pub has_gate_room : List Held → Bool
has_gate_room gate = nat_lt (length gate) most_held

abbrev pub with_held : List Held → Held → List Held
with_held gate h = if has_gate_room gate then gate ++ h ∷ [] else gate

abbrev pub with_all_held : List Held → List Held → List Held
with_all_held gate [] = gate
with_all_held gate (h ∷ hs) = with_all_held (with_held gate h) hs

-- whether a state, by its test of a session, a place and a sequence, is new enough for a query
abbrev pub is_ready_for : (ℕ → ℕ → ℕ → Bool) → Held → Bool
is_ready_for ready h = ready h.session h.place h.seq

-- the queries that are let through, in the order in which they were held, and those that go on waiting
abbrev pub let_through : (ℕ → ℕ → ℕ → Bool) → List Held → List Held
let_through ready gate = filter (is_ready_for ready) gate

abbrev pub still_held : (ℕ → ℕ → ℕ → Bool) → List Held → List Held
still_held ready gate = filter (λ h. not (is_ready_for ready h)) gate

-- a linearizable query whose read waits for a round, by the number of its arrival
pub record WaitingQuery : Type 0 where
  pub arrival : ℕ
  pub held : Held

-- a query whose read is ready waits for the greater of what its session has seen and the read's place
abbrev pub held_at : ℕ → Held → Held
held_at place h = record h { place = max h.place place }

abbrev pub reading_at : ℕ → Option WaitingQuery → List Held
reading_at place None = []
reading_at place (Some r) = held_at place r.held ∷ []

abbrev pub reading : List WaitingQuery → ℕ → Option WaitingQuery
reading readings arrival = find (λ r. nat_eq r.arrival arrival) readings

-- the queries of the reads that are ready, and the readings without them
abbrev pub ready_held : List WaitingQuery → List (ℕ × ℕ) → List Held
ready_held readings [] = []
ready_held readings (r ∷ reads) = reading_at r.1 (reading readings r.0) ++ ready_held readings reads

abbrev pub is_given : List (ℕ × ℕ) → ℕ → Bool
is_given [] arrival = false
is_given (r ∷ reads) arrival = if nat_eq r.0 arrival then true else is_given reads arrival

abbrev pub without_ready : List WaitingQuery → List (ℕ × ℕ) → List WaitingQuery
without_ready readings reads = filter (λ r. not (is_given reads r.arrival)) readings

-- a session that is connected here, and its client
pub record Connection : Type 0 where
  pub session : ℕ
  pub client : ℕ

-- the connections in order of session, with one more, or with another client for a session
abbrev pub connected : List Connection → ℕ → ℕ → List Connection
connected [] session client = record { session = session; client = client } ∷ []
connected (c ∷ cs) session client =
    if nat_eq c.session session then record { session = session; client = client } ∷ cs
    else if nat_lt session c.session then record { session = session; client = client } ∷ c ∷ cs
    else c ∷ connected cs session client

abbrev pub connection : List Connection → ℕ → Option Connection
connection cs session = find (λ c. nat_eq c.session session) cs
