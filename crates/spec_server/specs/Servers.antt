-- A server node's state, and what an input asks of its Raft node, its gate and its connections.
use Rattle.std.specs.Prelude.{ℕ, Bool, Option, Some, None, List, [], ◌∷◌, map, if◌then◌else◌}
use Rattle.ax_types.specs.Loads as loads
use Rattle.ax_types.specs.declared.entries.Body.{Body}
use Rattle.ax_types.specs.declared.entries.Body.TheVariants as body
use Rattle.ax_types.specs.declared.entries.Loaded.{Loaded}
use Rattle.ax_types.specs.declared.ids.End.{End}
use Rattle.ax_types.specs.declared.ids.End.TheVariants as end
use Rattle.ax_types.specs.declared.ops.Level.{Level}
use Rattle.ax_types.specs.declared.ops.Level.TheVariants as level
use Rattle.ax_types.specs.declared.packets.Packet.{Packet}
use Rattle.ax_types.specs.declared.packets.Payload.{Payload}
use Rattle.ax_types.specs.declared.packets.Payload.TheVariants as payload
use Rattle.ax_types.specs.declared.raft.RaftInput.{RaftInput}
use Rattle.ax_types.specs.declared.raft.RaftInput.TheVariants as input
use Rattle.ax_types.specs.declared.sessions.Held.{Held}
use Rattle.ax_types.specs.declared.sessions.ServerInput.{ServerInput}
use Rattle.ax_types.specs.declared.sessions.ServerInput.TheVariants as asks
use Rattle.spec_node.specs.Node as raft_nodes
use Rattle.spec_sessions.specs.Sessions as sessions_sessions
use Rattle.spec_server.specs.Gates as gates

-- a server node; all but what its Raft node keeps goes at a crash
pub record Server : Type 0 where
  pub raft : raft_nodes.Node
  pub state : sessions_sessions.Sessions
  pub gate : List Held
  pub readings : List gates.WaitingQuery
  pub connections : List gates.Connection

-- a server after its store was loaded (restart)
abbrev pub server_from : ℕ → ℕ → ℕ → Loaded → Server
server_from me nodes timeout kept = record { raft = raft_nodes.restarted me nodes kept; state = sessions_sessions.new_sessions timeout; gate = []; readings = []; connections = [] }

abbrev pub new_server : ℕ → ℕ → ℕ → Server
new_server me nodes timeout = server_from me nodes timeout loads.nothing_loaded

abbrev pub leads : Server → Bool
leads s = raft_nodes.is_leader s.raft

-- a Connect or a Reset: which session, whose, and what it has heard
pub record Hearing : Type 0 where
  pub client : ℕ
  pub session : ℕ
  pub heard : ℕ

-- what an input asks: an input of the Raft node, a payload for another node, a query for the gate, a read, a connection, an answer of batches
pub record Task : Type 0 where
  pub input : Option RaftInput
  pub passed : List Packet
  pub held : List Held
  pub read : Option Held
  pub connect : Option Hearing
  pub hearing : Option Hearing

abbrev pub no_task : Task
no_task = record { input = None; passed = []; held = []; read = None; connect = None; hearing = None }

abbrev pub raft_task : RaftInput → Task
raft_task i = record no_task { input = Some i }

-- a client's request goes on to the known leader; what a node sent is never passed on
abbrev pub passed_to : Server → Payload → Option ℕ → List Packet
passed_to s p None = []
passed_to s p (Some k) = record { «from» = end.Node s.raft.ballot.me; to = end.Node k; payload = p } ∷ []

abbrev pub passed_on : Server → End → Payload → Task
passed_on s (end.Client c) p = record no_task { passed = passed_to s p s.raft.leader }
passed_on s (end.Node k) p = no_task

-- a request that goes through the log: a leader appends it (Ongaro 2014, 6.2)
abbrev pub logged : Server → ℕ → End → Payload → Body → Task
logged s clock «from» p b = if leads s then raft_task (input.Append clock (b ∷ [])) else passed_on s «from» p

-- a query: a sequential one waits here, a linearizable one becomes a read at the leader (Ongaro 2014, 6.4)
abbrev pub asked_at : Server → End → Payload → Level → Held → Task
asked_at s «from» p level.Seq h = record no_task { held = h ∷ [] }
asked_at s «from» p level.Lin h = if leads s then record (raft_task input.Read) { read = Some h } else passed_on s «from» p

-- a packet from a node or a client
abbrev pub raft_message : ℕ → End → Payload → Task
raft_message clock (end.Node j) p = raft_task (input.Message j clock p)
raft_message clock (end.Client c) p = no_task

abbrev pub packet_task : Server → ℕ → End → Payload → Task
packet_task s clock «from» (payload.Vote t l lt) = raft_message clock «from» (payload.Vote t l lt)
packet_task s clock «from» (payload.VoteReply t g) = raft_message clock «from» (payload.VoteReply t g)
packet_task s clock «from» (payload.Append t p pt c r es) = raft_message clock «from» (payload.Append t p pt c r es)
packet_task s clock «from» (payload.AppendReply t ok p r) = raft_message clock «from» (payload.AppendReply t ok p r)
packet_task s clock «from» (payload.Register c o) = logged s clock «from» (payload.Register c o) (body.Register c o)
packet_task s clock «from» (payload.Keep c session answered heard) = logged s clock «from» (payload.Keep c session answered heard) (body.Keep c session answered heard)
packet_task s clock «from» (payload.Command c session seq name o) = logged s clock «from» (payload.Command c session seq name o) (body.Command c session seq name o)
packet_task s clock «from» (payload.Close c session) = logged s clock «from» (payload.Close c session) (body.Close c session)
packet_task s clock «from» (payload.Query c session call l seen seq name q) =
    asked_at s «from» (payload.Query c session call l seen seq name q) l
    (record { client = c; session = session; call = call; place = seen; seq = seq; level = l; reach = None; name = name; query = q })
packet_task s clock «from» (payload.Connect c session heard) = let h : Hearing = record { client = c; session = session; heard = heard } in record no_task { connect = Some h; hearing = Some h }
packet_task s clock «from» (payload.Reset c session heard) = record no_task { hearing = Some (record { client = c; session = session; heard = heard }) }
packet_task s clock «from» _ = no_task

-- a check: the sessions that are due, by the applied state and the time of a new entry, are ended through the log (Ongaro 2014, 6.3)
abbrev pub expiries : List ℕ → ℕ → Task
expiries [] clock = no_task
expiries (s ∷ sessions) clock = raft_task (input.Append clock (map body.Expire (s ∷ sessions)))

-- what an input asks
abbrev pub task : Server → ServerInput → Task
task s (asks.Elect clock) = raft_task (input.Elect clock)
task s (asks.Beat clock) = raft_task input.Beat
task s (asks.Check clock) = expiries (sessions_sessions.due_sessions s.state (raft_nodes.time_for s.raft clock)) clock
task s (asks.Packet clock p) = packet_task s clock p.«from» p.payload
