-- The parts of a session state, and what an entry does to them.
use Rattle.std.specs.Prelude.{ℕ, ◌<◌, Option, None, List, []}
use Rattle.std.specs.List.{AllByRecursion}
use Rattle.ax_types.specs.declared.entries.Act.TheVariants as act
use Rattle.ax_types.specs.declared.packets.Payload.{Payload}
use Rattle.spec_sessions.specs.Outboxes as outboxes
use Rattle.spec_sessions.specs.Sessions as session_states
use Rattle.spec_sessions.specs.Tables as tables
use Rattle.sess_table.specs.TableParts as table_parts
use Rattle.sess_state.specs.declared.parts.Parts.{Parts}
use Rattle.sess_state.specs.declared.parts.Effect.{Effect}

-- the session state of the parts, beside any book
abbrev pub of_parts : Parts → session_states.Sessions
of_parts p = record { applied = 0; book = []; table = p.table; boxes = p.boxes }

-- what an entry does beside the parts
abbrev pub effect_of : session_states.Effect → Effect
effect_of e = record { act = e.act; command = e.command; answer = e.answer }

-- nothing but an answer
abbrev pub only_answered : Option Payload → Effect
only_answered answer = record { act = act.Nothing; command = None; answer = answer }

-- the parts as an entry leaves them
abbrev pub parts_after : Parts → session_states.Effect → Parts
parts_after p e = record p { table = e.table; boxes = e.boxes }

-- a place is above every session and batch
pub record LieBelow (place : ℕ) (t : tables.Table) (boxes : List outboxes.Outbox) : Type 0 where
  pub table : table_parts.IsNew t place
  pub sessions : AllByRecursion (λ o. o.session < place) boxes
  pub batches : AllByRecursion (λ o. o.batches.last < place) boxes
