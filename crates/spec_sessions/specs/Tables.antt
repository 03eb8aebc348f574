-- The table of sessions: those that are live, with their last sign of life, and those that have ended (Ongaro 2014, 6.3).
use Rattle.std.specs.Prelude.{ℕ, ◌-◌, Bool, false, not, nat_eq, nat_le, Option, Some, None, List, [], ◌∷◌, ◌++◌, take, map, filter, find, if◌then◌else◌}
use Rattle.ax_types.specs.declared.limits.TheConstants.{MAX_DUE}
use Rattle.ax_types.specs.declared.replies.How.{How}
use Rattle.ax_types.specs.declared.sessions.SessionState.{SessionState}
use Rattle.ax_types.specs.declared.sessions.SessionState.TheVariants as state

-- the most sessions that one check ends
abbrev pub most_due : ℕ
most_due = MAX_DUE

-- a live session: the place of its register entry, who opened it, and the log time of its last sign of life
pub record Live : Type 0 where
  pub session : ℕ
  pub client : ℕ
  pub opening : ℕ
  pub sign : ℕ

-- a session that ended, with the place of its end
pub record PastSession : Type 0 where
  pub session : ℕ
  pub place : ℕ
  pub how : How

-- the time without a sign after which a session may be ended, and the sessions, both lists in the order in which they came
pub record Table : Type 0 where
  pub timeout : ℕ
  pub live : List Live
  pub past : List PastSession

abbrev pub new_table : ℕ → Table
new_table timeout = record { timeout = timeout; live = []; past = [] }

abbrev pub live_session : Table → ℕ → Option Live
live_session t session = find (λ l. nat_eq l.session session) t.live

abbrev pub past_session : Table → ℕ → Option PastSession
past_session t session = find (λ p. nat_eq p.session session) t.past

abbrev pub state_with : Option Live → Option PastSession → SessionState
state_with (Some l) p = state.Live
state_with None (Some p) = state.Ended p.place p.how
state_with None None = state.Unknown

abbrev pub state_of : Table → ℕ → SessionState
state_of t session = state_with (live_session t session) (past_session t session)

-- a session is opened by the register entry at this place
abbrev pub registered : Table → ℕ → ℕ → ℕ → ℕ → Table
registered t place client opening time = record t { live = t.live ++ record { session = place; client = client; opening = opening; sign = time } ∷ [] }

-- a session gives a sign of life
abbrev pub with_sign : ℕ → ℕ → Live → Live
with_sign session time l = if nat_eq l.session session then record l { sign = time } else l

abbrev pub signed : Table → ℕ → ℕ → Table
signed t session time = record t { live = map (with_sign session time) t.live }

-- a session ends
abbrev pub finished : Table → ℕ → ℕ → How → Table
finished t session place how = record t {
  live = filter (λ l. not (nat_eq l.session session)) t.live;
  past = t.past ++ record { session = session; place = place; how = how } ∷ [];
}

-- whether a live session has given no sign for the timeout; a time below its sign counts as none
abbrev pub is_due : ℕ → ℕ → Live → Bool
is_due timeout time l = nat_le timeout (time - l.sign)

-- the first live sessions that are due, ascending
abbrev pub due : Table → ℕ → List ℕ
due t time = take most_due (map (λ l. l.session) (filter (is_due t.timeout time) t.live))

abbrev pub is_due_in : ℕ → ℕ → Option Live → Bool
is_due_in timeout time None = false
is_due_in timeout time (Some l) = is_due timeout time l

-- whether a session is live and due
abbrev pub may_expire : Table → ℕ → ℕ → Bool
may_expire t session time = is_due_in t.timeout time (live_session t session)
