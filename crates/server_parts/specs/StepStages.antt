-- The stages of a step behind that of the Raft node, each of the server that the one before it left.
use Rattle.std.specs.Prelude.{ℕ, Option, List, ◌++◌, map}
use Rattle.ax_types.specs.declared.entries.Act.{Act}
use Rattle.ax_types.specs.declared.entries.Entry.{Entry}
use Rattle.ax_types.specs.declared.packets.Packet.{Packet}
use Rattle.ax_types.specs.declared.sessions.Held.{Held}
use Rattle.spec_node.specs.Node as nodes
use Rattle.spec_sessions.specs.Sessions as session_states
use Rattle.spec_server.specs.Gates as gates
use Rattle.spec_server.specs.Servers as servers
use Rattle.spec_server.specs.ServerStep as server_steps

-- a session is connected, and a read that was taken waits with its query
abbrev pub taken_up : servers.Server → Option servers.Hearing → Option Held → Option ℕ → servers.Server
taken_up s connect read reached = record s {
  connections = server_steps.with_connection s.connections connect;
  readings = server_steps.with_reading s.readings s.raft.ballot.term read reached;
}

-- the places newly committed are applied
abbrev pub all_applied : nodes.Node → List gates.Connection → session_states.Sessions → server_steps.Progress
all_applied n cs s = server_steps.applying_all n cs s (server_steps.to_apply n s)

abbrev pub progress_in : servers.Server → server_steps.Progress
progress_in s = all_applied s.raft s.connections s.state

abbrev pub caught_up : servers.Server → servers.Server
caught_up s = record s { state = (progress_in s).state }

-- the time and the act of an entry, and what it sends
abbrev pub act_at : session_states.Sessions → ℕ → Entry → ℕ × Act
act_at s place e = (e.time, (session_states.applied_of s place e).act)

abbrev pub sent_at : nodes.Node → List gates.Connection → session_states.Sessions → ℕ → Entry → List Packet
sent_at n cs s place e = let a = session_states.applied_of s place e in server_steps.entry_answer n e a.answer ++ server_steps.batches_to n cs a.batches

-- queries wait at the gate, and those whose reads are ready wait for no read any more
abbrev pub gated : servers.Server → List Held → List (ℕ × ℕ) → servers.Server
gated s held reads = record s {
  gate = gates.with_all_held s.gate (held ++ gates.ready_held s.readings reads);
  readings = server_steps.readings_after s.raft s.readings reads;
}

-- the queries that the state is new enough for are let through, and answered behind these packets
abbrev pub let_go : servers.Server → servers.Server
let_go s = record s { gate = gates.still_held (session_states.is_ready s.state) s.gate }

abbrev pub with_answers : List Packet → servers.Server → Option servers.Hearing → List Packet
with_answers packets s hearing = packets
    ++ map (server_steps.query_answer s.raft s.state) (gates.let_through (session_states.is_ready s.state) s.gate)
    ++ server_steps.hearing_answer s.raft s.state hearing
