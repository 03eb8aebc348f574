-- A session's calls in order: what has an answer, what may be released, and which events were heard.
use Rattle.std.specs.Prelude.{ℕ, suc, ◌-◌, max, Bool, true, false, ◌&&◌, not, nat_eq, nat_lt, nat_le, Option, Some, None, is_some, List, [], ◌∷◌, ◌++◌, length, map, if◌then◌else◌}
use Rattle.ax_types.specs.declared.limits.TheConstants.{MAX_UNANSWERED}
use Rattle.ax_types.specs.declared.entries.Batch.{Batch}
use Rattle.ax_types.specs.declared.ops.Level.{Level}
use Rattle.ax_types.specs.declared.sessions.AskedCall.{AskedCall}
use Rattle.ax_types.specs.declared.sessions.Got.{Got}
use Rattle.ax_types.specs.declared.sessions.Heard.{Heard}
use Rattle.ax_types.specs.declared.sessions.Heard.TheVariants as heard
use Rattle.ax_types.specs.declared.sessions.Released.{Released}

-- the most calls of a session that lack an outcome
abbrev pub most_unanswered : ℕ
most_unanswered = MAX_UNANSWERED

-- a call without an outcome, and the answer that it has got; a query has no sequence, a command no level
pub record Unanswered : Type 0 where
  pub number : ℕ
  pub seq : Option ℕ
  pub level : Option Level
  pub got : Option Got

-- the calls without an outcome, in order, the sequence of the last command called, the place of the last batch heard,
-- the greatest place seen, which is the session's at first and then that of an outcome, and the place of the last read
pub record Sequencer : Type 0 where
  pub session : ℕ
  pub calls : List Unanswered
  pub last : ℕ
  pub heard : ℕ
  pub seen : ℕ
  pub read : ℕ

abbrev pub new_sequencer : ℕ → Sequencer
new_sequencer session = record { session = session; calls = []; last = 0; heard = 0; seen = session; read = 0 }

abbrev pub seq_or : Option ℕ → ℕ → ℕ
seq_or None last = last
seq_or (Some seq) last = seq

-- a call is made
abbrev pub with_call : Sequencer → AskedCall → Sequencer
with_call q a = record q { calls = q.calls ++ record { number = a.number; seq = a.seq; level = a.level; got = None } ∷ []; last = seq_or a.seq q.last }

-- a call gets an answer, unless it has one
abbrev pub first_got : Option Got → Got → Got
first_got None g = g
first_got (Some old) g = old

abbrev pub get_answer : ℕ → Got → Unanswered → Unanswered
get_answer number g u = if nat_eq u.number number then record u { got = Some (first_got u.got g) } else u

abbrev pub with_answer : Sequencer → ℕ → Got → Sequencer
with_answer q number g = record q { calls = map (get_answer number g) q.calls }

-- a batch of events: an old one, the next one, or one before which others are missing
abbrev pub heard_of : Sequencer → Batch → Heard
heard_of q b = if nat_le b.place q.heard then heard.Old else if nat_eq b.prev q.heard then heard.Taken else heard.Missing q.heard

abbrev pub heard_at : Heard → Sequencer → Batch → Sequencer
heard_at heard.Taken q b = record q { heard = b.place }
heard_at _ q b = q

abbrev pub with_heard : Sequencer → Batch → Sequencer
with_heard q b = heard_at (heard_of q b) q b

-- whether release stops at a call: it has no answer, or one that names events not heard yet
abbrev pub is_stopping : ℕ → Option Got → Bool
is_stopping heard None = true
is_stopping heard (Some g) = nat_lt heard g.events

abbrev pub place_in : Option Got → ℕ
place_in None = 0
place_in (Some g) = g.place

-- whether a call is a query
abbrev pub is_query : Unanswered → Bool
is_query u = not (is_some u.seq)

-- whether a query's answer is older than the last read, so that it is asked again
abbrev pub is_past : ℕ → Unanswered → Bool
is_past read u = is_query u && nat_lt (place_in u.got) read

abbrev pub got_item : ℕ → Option Got → List (ℕ × Got)
got_item number None = []
got_item number (Some g) = (number, g) ∷ []

-- what release gives: the answers given out, the query asked again, and what is left
pub record Release : Type 0 where
  pub items : List (ℕ × Got)
  pub again : Option ℕ
  pub calls : List Unanswered
  pub seen : ℕ
  pub read : ℕ

-- answers are given out in order of call while the first call has one; reads never go back (Ongaro 2014, 6.4)
abbrev pub release_from : ℕ → ℕ → ℕ → List Unanswered → Release
release_from heard seen read [] = record { items = []; again = None; calls = []; seen = seen; read = read }
release_from heard seen read (u ∷ us) =
    if is_stopping heard u.got then record { items = []; again = None; calls = u ∷ us; seen = seen; read = read }
    else if is_past read u then record { items = []; again = Some u.number; calls = record u { got = None } ∷ us; seen = seen; read = read }
    else (let r = release_from heard (max seen (place_in u.got)) (if is_query u then place_in u.got else read) us in
    record r { items = got_item u.number u.got ++ r.items })

abbrev pub release_of : Sequencer → Release
release_of q = release_from q.heard q.seen q.read q.calls

abbrev pub released : Sequencer → Sequencer
released q = let r = release_of q in record q { calls = r.calls; seen = r.seen; read = r.read }

abbrev pub released_of : Sequencer → Released
released_of q = let r = release_of q in record { items = r.items; again = r.again }

-- whether a call is a command without an answer
abbrev pub is_open_command : Unanswered → Bool
is_open_command u = is_some u.seq && not (is_some u.got)

-- the greatest n such that each command 1 to n has an answer here, released or not
abbrev pub received_in : List Unanswered → ℕ → ℕ
received_in [] last = last
received_in (u ∷ us) last = if is_open_command u then seq_or u.seq 1 - 1 else received_in us last

abbrev pub received : Sequencer → ℕ
received q = received_in q.calls q.last

abbrev pub unanswered_count : Sequencer → ℕ
unanswered_count q = length q.calls

-- the connected server, and the number of the last opening, with whether its answer is still to come
pub record Switch : Type 0 where
  pub server : Option ℕ
  pub opening : ℕ
  pub is_open : Bool

abbrev pub new_switch : Switch
new_switch = record { server = None; opening = 0; is_open = false }

abbrev pub moved_to : Switch → ℕ → Switch
moved_to s node = record s { server = Some node }

abbrev pub with_opening : Switch → Switch
with_opening s = record s { opening = suc s.opening; is_open = true }

-- the answer to the last opening alone is taken, and once
abbrev pub accepts : Switch → ℕ → Bool
accepts s opening = s.is_open && nat_eq opening s.opening

abbrev pub with_opened : Switch → Switch
with_opened s = record s { is_open = false }
