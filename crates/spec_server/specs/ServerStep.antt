-- A server node's step: its Raft node, the places newly committed, the gate, and the answers, in this order.
use Rattle.std.specs.Prelude.{ℕ, suc, Bool, true, false, ◌&&◌, nat_eq, Option, Some, None, List, [], ◌∷◌, ◌++◌, take, drop, map, if◌then◌else◌}
use Rattle.ax_types.specs.declared.entries.Act.{Act}
use Rattle.ax_types.specs.declared.entries.Batch.{Batch}
use Rattle.ax_types.specs.declared.entries.Entry.{Entry}
use Rattle.ax_types.specs.declared.ids.End.TheVariants as end
use Rattle.ax_types.specs.declared.items.Item.{Item}
use Rattle.ax_types.specs.declared.items.Item.TheVariants as item
use Rattle.ax_types.specs.declared.packets.Packet.{Packet}
use Rattle.ax_types.specs.declared.packets.Payload.{Payload}
use Rattle.ax_types.specs.declared.packets.Payload.TheVariants as payload
use Rattle.ax_types.specs.declared.raft.Out.{Out}
use Rattle.ax_types.specs.declared.raft.RaftInput.{RaftInput}
use Rattle.ax_types.specs.declared.sessions.Asked.{Asked}
use Rattle.ax_types.specs.declared.sessions.Asked.TheVariants as asking
use Rattle.ax_types.specs.declared.sessions.Held.{Held}
use Rattle.ax_types.specs.declared.sessions.ServerInput.{ServerInput}
use Rattle.ax_types.specs.declared.sessions.ServerOut.{ServerOut}
use Rattle.ax_types.specs.declared.sessions.SessionState.{SessionState}
use Rattle.ax_types.specs.declared.sessions.SessionState.TheVariants as state
use Rattle.spec_node.specs.Node as nodes
use Rattle.spec_node.specs.NodeStep as node_steps
use Rattle.spec_sessions.specs.Sessions as sessions_sessions
use Rattle.spec_server.specs.Gates as gates
use Rattle.spec_server.specs.Servers as servers

-- an input that asks nothing of the Raft node
abbrev pub idle_out : nodes.Node → Out
idle_out n = record { saves = record { vote = None; cut = None; add = [] }; packets = []; committed = n.commit; reads = []; reached = None; led = false }

abbrev pub raft_after : nodes.Node → Option RaftInput → nodes.Node
raft_after n None = n
raft_after n (Some i) = node_steps.stepped n i

abbrev pub raft_out : nodes.Node → Option RaftInput → Out
raft_out n None = idle_out n
raft_out n (Some i) = node_steps.out n i

-- a packet to a client
abbrev pub to_client : nodes.Node → ℕ → Payload → Packet
to_client n client p = record { «from» = end.Node n.ballot.me; to = end.Client client; payload = p }

-- an answer as packets: the one, or none
abbrev pub answers_to : nodes.Node → Option (ℕ × Payload) → List Packet
answers_to n None = []
answers_to n (Some a) = to_client n a.0 a.1 ∷ []

-- an entry's answer is the leader's of its own term alone
abbrev pub entry_answer : nodes.Node → Entry → Option (ℕ × Payload) → List Packet
entry_answer n e a = if nodes.is_leader n && nat_eq e.term n.ballot.term then answers_to n a else []

-- batches go to the sessions that are connected here, whoever leads
abbrev pub batch_payload : ℕ → Batch → Payload
batch_payload session b = payload.Batch session b.place b.prev b.events

abbrev pub batch_to : nodes.Node → ℕ → Batch → Option gates.Connection → List Packet
batch_to n session b None = []
batch_to n session b (Some c) = to_client n c.client (batch_payload session b) ∷ []

abbrev pub batches_to : nodes.Node → List gates.Connection → List (ℕ × Batch) → List Packet
batches_to n cs [] = []
batches_to n cs (b ∷ bs) = batch_to n b.0 b.1 (gates.connection cs b.0) ++ batches_to n cs bs

-- the places newly committed are applied in order: the session state after them, what they send, and their acts
pub record Progress : Type 0 where
  pub state : sessions_sessions.Sessions
  pub packets : List Packet
  pub acts : List (ℕ × Act)

abbrev pub applying_all : nodes.Node → List gates.Connection → sessions_sessions.Sessions → List Entry → Progress
applying_all n cs s [] = record { state = s; packets = []; acts = [] }
applying_all n cs s (e ∷ es) = let a = sessions_sessions.applied_of s (suc s.applied) e in
    let rest = applying_all n cs (sessions_sessions.applying s (suc s.applied) e) es in
    record rest { packets = entry_answer n e a.answer ++ batches_to n cs a.batches ++ rest.packets; acts = (e.time, a.act) ∷ rest.acts }

-- the entries that are committed and not applied
abbrev pub to_apply : nodes.Node → sessions_sessions.Sessions → List Entry
to_apply n s = drop s.applied (take n.commit n.log)

-- a read that was taken waits with its query
abbrev pub with_reading : List gates.WaitingQuery → ℕ → Option Held → Option ℕ → List gates.WaitingQuery
with_reading readings term (Some h) (Some arrival) = readings ++ record { arrival = arrival; held = record h { reach = Some (term, arrival) } } ∷ []
with_reading readings term _ _ = readings

abbrev pub reach_item : nodes.Node → Option Held → Option ℕ → Option Item
reach_item n (Some h) (Some arrival) = Some (item.Reach n.ballot.me n.ballot.term arrival h.session h.call)
reach_item n _ _ = None

-- a node that does not lead has no reads
abbrev pub readings_after : nodes.Node → List gates.WaitingQuery → List (ℕ × ℕ) → List gates.WaitingQuery
readings_after n readings reads = if nodes.is_leader n then gates.without_ready readings reads else []

-- the term and the arrival of a reach, 0 where there is none
abbrev pub reach_term : Option (ℕ × ℕ) → ℕ
reach_term None = 0
reach_term (Some r) = r.0

abbrev pub reach_arrival : Option (ℕ × ℕ) → ℕ
reach_arrival None = 0
reach_arrival (Some r) = r.1

-- the answer to a query that was let through (Ongaro 2014, 6.4)
abbrev pub answer_payload : Held → Asked → Payload
answer_payload h (asking.Answer place events reply) = payload.Answer h.session h.call h.level place events (reach_term h.reach) (reach_arrival h.reach) reply
answer_payload h (asking.Ended place how) = payload.Ended h.session place how

abbrev pub query_answer : nodes.Node → sessions_sessions.Sessions → Held → Packet
query_answer n s h = to_client n h.client (answer_payload h (sessions_sessions.asked s h.session h.name h.query))

-- the answer to Connect and Reset: the end of the session, or its first batches above what it has heard
abbrev pub hearing_state : nodes.Node → sessions_sessions.Sessions → servers.Hearing → SessionState → List Packet
hearing_state n s h state.Unknown = []
hearing_state n s h state.Live = map (λ b. to_client n h.client (batch_payload h.session b)) (sessions_sessions.after s h.session h.heard)
hearing_state n s h (state.Ended place how) = to_client n h.client (payload.Ended h.session place how) ∷ []

abbrev pub hearing_answer : nodes.Node → sessions_sessions.Sessions → Option servers.Hearing → List Packet
hearing_answer n s None = []
hearing_answer n s (Some h) = hearing_state n s h (sessions_sessions.session_state s h.session)

abbrev pub with_connection : List gates.Connection → Option servers.Hearing → List gates.Connection
with_connection cs None = cs
with_connection cs (Some h) = gates.connected cs h.session h.client

-- what a step has done before the gate lets queries through
pub record Stage : Type 0 where
  pub raft : nodes.Node
  pub out : Out
  pub connections : List gates.Connection
  pub progress : Progress
  pub readings : List gates.WaitingQuery
  pub gate : List Held

abbrev pub stage : servers.Server → servers.Task → Stage
stage s t = let n = raft_after s.raft t.input in
    let o = raft_out s.raft t.input in
    let cs = with_connection s.connections t.connect in
    let readings = with_reading s.readings n.ballot.term t.read o.reached in
    record {
      raft = n;
      out = o;
      connections = cs;
      progress = applying_all n cs s.state (to_apply n s.state);
      readings = readings_after n readings o.reads;
      gate = gates.with_all_held s.gate (t.held ++ gates.ready_held readings o.reads);
    }

abbrev pub server_at : Stage → servers.Server
server_at g = record {
  raft = g.raft;
  state = g.progress.state;
  gate = gates.still_held (sessions_sessions.is_ready g.progress.state) g.gate;
  readings = g.readings;
  connections = g.connections;
}

abbrev pub led_term : nodes.Node → Bool → Option ℕ
led_term n true = Some n.ballot.term
led_term n false = None

-- the packets of a step in their order: Raft and passed on, answers and batches by place, queries, batches asked for
abbrev pub packets_at : Stage → servers.Task → List Packet
packets_at g t = g.out.packets ++ t.passed ++ g.progress.packets
    ++ map (query_answer g.raft g.progress.state) (gates.let_through (sessions_sessions.is_ready g.progress.state) g.gate)
    ++ hearing_answer g.raft g.progress.state t.hearing

abbrev pub out_at : Stage → servers.Task → ServerOut
out_at g t = record {
  saves = g.out.saves;
  packets = packets_at g t;
  committed = g.out.committed;
  acts = g.progress.acts;
  led = led_term g.raft g.out.led;
  reach = reach_item g.raft t.read g.out.reached;
}

-- a step: the server after it, and what it gives
abbrev pub server_after : servers.Server → ServerInput → servers.Server
server_after s i = server_at (stage s (servers.task s i))

abbrev pub server_out : servers.Server → ServerInput → ServerOut
server_out s i = let t = servers.task s i in out_at (stage s t) t
