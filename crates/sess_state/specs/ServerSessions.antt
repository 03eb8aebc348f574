-- What contracts see of the session state of a server.
use Rattle.std.specs.Prelude.{Bool}
use Rattle.spec_sessions.specs.Sessions as session_states

-- the session state of the definitions, and whether want of memory has left an entry half applied
pub record ServerSessions : Type 0 where
  pub sessions : session_states.Sessions
  pub is_spent : Bool
