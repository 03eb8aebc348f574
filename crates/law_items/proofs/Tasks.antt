-- A read of the Raft node is asked with its query, at a leader.
use Rattle.std.proofs.Common.{◌≡◌, ℕ, List, [], ◌∷◌, refl}
use Rattle.std.specs.Prelude.{Bool, true, Option, Some, None}
use Rattle.ax_types.specs.declared.entries.Body.{Body}
use Rattle.ax_types.specs.declared.entries.Body.TheVariants as body
use Rattle.ax_types.specs.declared.ids.End.{End}
use Rattle.ax_types.specs.declared.ids.End.TheVariants as end
use Rattle.ax_types.specs.declared.ops.Level.{Level}
use Rattle.ax_types.specs.declared.ops.Level.TheVariants as level
use Rattle.ax_types.specs.declared.packets.Payload.{Payload}
use Rattle.ax_types.specs.declared.packets.Payload.TheVariants as payload
use Rattle.ax_types.specs.declared.raft.RaftInput.{RaftInput}
use Rattle.ax_types.specs.declared.raft.RaftInput.TheVariants as input
use Rattle.ax_types.specs.declared.sessions.Held.{Held}
use Rattle.ax_types.specs.declared.sessions.ServerInput.{ServerInput}
use Rattle.ax_types.specs.declared.sessions.ServerInput.TheVariants as asks
use Rattle.spec_node.specs.Node as raft_nodes
use Rattle.spec_sessions.specs.Sessions as sessions_sessions
use Rattle.spec_server.specs.Servers as servers
use Rattle.law_refinement.proofs.Tests.{by_test}

-- what is known where the input is a read
abbrev pub IfReads : servers.Server → Option RaftInput → Option Held → Type 0
IfReads x None read = Unit {0}
IfReads x (Some (input.Elect clock)) read = Unit {0}
IfReads x (Some input.Beat) read = Unit {0}
IfReads x (Some (input.Append clock bodies)) read = Unit {0}
IfReads x (Some input.Read) read = (servers.leads x ≡ true) × ((h : Held) × (read ≡ Some h))
IfReads x (Some (input.Message from clock p)) read = Unit {0}

abbrev TaskReads : servers.Server → servers.Task → Type 0
TaskReads x t = IfReads x t.input t.read

passed : (x : servers.Server) (a : End) (p : Payload) → TaskReads x (servers.passed_on x a p)
passed x (end.Client c) p = tt
passed x (end.Node j) p = tt

logged : (x : servers.Server) (clock : ℕ) (a : End) (p : Payload) (b : Body) → TaskReads x (servers.logged x clock a p b)
logged x clock a p b = by_test (TaskReads x) (servers.leads x) (servers.raft_task (input.Append clock (b ∷ []))) (servers.passed_on x a p) (λ t. tt) (λ t. passed x a p)

asked : (x : servers.Server) (a : End) (p : Payload) (l : Level) (h : Held) → TaskReads x (servers.asked_at x a p l h)
asked x a p level.Seq h = tt
asked x a p level.Lin h = by_test (TaskReads x) (servers.leads x) (record (servers.raft_task input.Read) { read = Some h }) (servers.passed_on x a p) (λ t. (t, (h, refl))) (λ t. passed x a p)

message : (x : servers.Server) (clock : ℕ) (a : End) (p : Payload) → TaskReads x (servers.raft_message clock a p)
message x clock (end.Node j) p = tt
message x clock (end.Client c) p = tt

packet : (x : servers.Server) (clock : ℕ) (a : End) (p : Payload) → TaskReads x (servers.packet_task x clock a p)
packet x clock a (payload.Vote t l lt) = message x clock a (payload.Vote t l lt)
packet x clock a (payload.VoteReply t g) = message x clock a (payload.VoteReply t g)
packet x clock a (payload.Append t p pt c r es) = message x clock a (payload.Append t p pt c r es)
packet x clock a (payload.AppendReply t ok p r) = message x clock a (payload.AppendReply t ok p r)
packet x clock a (payload.Register c o) = logged x clock a (payload.Register c o) (body.Register c o)
packet x clock a (payload.Keep c session answered heard) = logged x clock a (payload.Keep c session answered heard) (body.Keep c session answered heard)
packet x clock a (payload.Command c session seq name o) = logged x clock a (payload.Command c session seq name o) (body.Command c session seq name o)
packet x clock a (payload.Close c session) = logged x clock a (payload.Close c session) (body.Close c session)
packet x clock a (payload.Query c session call l seen seq name q) =
    asked x a (payload.Query c session call l seen seq name q) l (record { client = c; session = session; call = call; place = seen; seq = seq; level = l; reach = None; name = name; query = q })
packet x clock a (payload.Connect c session heard) = tt
packet x clock a (payload.Reset c session heard) = tt
packet x clock a (payload.Opened b c) = tt
packet x clock a (payload.Reply b c d e f) = tt
packet x clock a (payload.Gap b c) = tt
packet x clock a (payload.Answer b c d e f g h i) = tt
packet x clock a (payload.Batch b c d e) = tt
packet x clock a (payload.Ended b c d) = tt

expires : (x : servers.Server) (sessions : List ℕ) (clock : ℕ) → TaskReads x (servers.expiries sessions clock)
expires x [] clock = tt
expires x (s ∷ sessions) clock = tt

pub task_reads : (x : servers.Server) (i : ServerInput) → TaskReads x (servers.task x i)
task_reads x (asks.Elect clock) = tt
task_reads x (asks.Beat clock) = tt
task_reads x (asks.Check clock) = expires x (sessions_sessions.due_sessions x.state (raft_nodes.time_for x.raft clock)) clock
task_reads x (asks.Packet clock p) = packet x clock p.«from» p.payload
