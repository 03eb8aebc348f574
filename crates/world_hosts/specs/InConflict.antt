-- The entries that a step for an input may cut off: those from the first conflict with an append packet on (Ongaro 2014, 3.5).
use Rattle.std.specs.Prelude.{ℕ, ◌-◌, Option, Some, None, List, [], drop}
use Rattle.ax_types.specs.declared.entries.Entry.{Entry}
use Rattle.ax_types.specs.declared.packets.Payload.{Payload}
use Rattle.ax_types.specs.declared.packets.Payload.TheVariants as payload
use Rattle.ax_types.specs.declared.sessions.ServerInput.{ServerInput}
use Rattle.ax_types.specs.declared.sessions.ServerInput.TheVariants as asks
use Rattle.spec_raft.specs.Log as logs

-- the place of the first entry in conflict with what is sent
abbrev pub payload_conflict : List Entry → Payload → Option ℕ
payload_conflict log (payload.Append term prev prev_term commit round entries) = logs.first_conflict log prev entries
payload_conflict log _ = None

abbrev pub conflict_with : List Entry → ServerInput → Option ℕ
conflict_with log (asks.Packet clock p) = payload_conflict log p.payload
conflict_with log _ = None

abbrev pub tail_from : List Entry → Option ℕ → List Entry
tail_from log None = []
tail_from log (Some place) = drop (place - 1) log
