-- What an input asks of a server's Raft node is a rule that transitions carry out.
use Rattle.std.proofs.Common.{◌≡◌, ℕ, List, [], ◌∷◌, refl, subst}
use Rattle.std.specs.Prelude.{Bool, true, false, Option, Some, None, map}
use Rattle.std.specs.List.{AllByRecursion}
use Rattle.ax_types.specs.Places as lists
use Rattle.ax_types.specs.declared.entries.Body.{Body}
use Rattle.ax_types.specs.declared.entries.Body.TheVariants as body
use Rattle.ax_types.specs.declared.ids.End.{End}
use Rattle.ax_types.specs.declared.ids.End.TheVariants as end
use Rattle.ax_types.specs.declared.ops.Level.{Level}
use Rattle.ax_types.specs.declared.ops.Level.TheVariants as level
use Rattle.ax_types.specs.declared.packets.Packet.{Packet}
use Rattle.ax_types.specs.declared.packets.Payload.{Payload}
use Rattle.ax_types.specs.declared.packets.Payload.TheVariants as payload
use Rattle.ax_types.specs.declared.raft.RaftInput.{RaftInput}
use Rattle.ax_types.specs.declared.raft.RaftInput.TheVariants as input
use Rattle.ax_types.specs.declared.sessions.Held.{Held}
use Rattle.ax_types.specs.declared.sessions.ServerInput.{ServerInput}
use Rattle.ax_types.specs.declared.sessions.ServerInput.TheVariants as asks
use Rattle.spec_node.specs.Node as raft_nodes
use Rattle.spec_node.specs.NodeStep as node_steps
use Rattle.spec_transitions.specs.Systems as systems
use Rattle.spec_sessions.specs.Sessions as sessions_sessions
use Rattle.spec_server.specs.Servers as servers
use Rattle.spec_world.specs.Worlds as worlds
use Rattle.law_refinement.specs.Refinement as refinements
use Rattle.law_refinement.proofs.Tests.{by_test}
use Rattle.law_refinement.proofs.Rules.{Carried}
use Rattle.law_refinement.proofs.Elections.{elects}
use Rattle.law_refinement.proofs.Leaderships.{beats, appends, reads}
use Rattle.law_refinement.proofs.Replies.{heeds}
use Rattle.law_refinement.proofs.Orders.{all_at}
use Rattle.law_growth.specs.PlanCases as plan_cases
use Rattle.law_hosts.specs.Hosts as hosts

abbrev pub IfCarried : systems.System → ℕ → raft_nodes.Node → Option RaftInput → Type 0
IfCarried s k n None = Unit {0}
IfCarried s k n (Some i) = Carried s k n n (node_steps.did n i)

abbrev TaskCarried : systems.System → ℕ → raft_nodes.Node → servers.Task → Type 0
TaskCarried s k n t = IfCarried s k n t.input

-- what is passed on asks nothing
passed : (s : systems.System) (k : ℕ) (x : servers.Server) (a : End) (p : Payload) → TaskCarried s k x.raft (servers.passed_on x a p)
passed s k x (end.Client c) p = tt
passed s k x (end.Node j) p = tt

logged : (s : systems.System) (k : ℕ) (x : servers.Server) (clock : ℕ) (a : End) (p : Payload) (b : Body) → systems.IsUp s k x.raft → TaskCarried s k x.raft (servers.logged x clock a p b)
logged s k x clock a p b up =
    by_test (TaskCarried s k x.raft) (servers.leads x) (servers.raft_task (input.Append clock (b ∷ []))) (servers.passed_on x a p) (λ lead. appends s k x.raft clock (b ∷ []) up lead) (λ other. passed s k x a p)

asked : (s : systems.System) (k : ℕ) (x : servers.Server) (a : End) (p : Payload) (l : Level) (h : Held) → systems.IsUp s k x.raft → TaskCarried s k x.raft (servers.asked_at x a p l h)
asked s k x a p level.Seq h up = tt
asked s k x a p level.Lin h up =
    by_test (TaskCarried s k x.raft) (servers.leads x) (record (servers.raft_task input.Read) { read = Some h }) (servers.passed_on x a p) (λ lead. reads s k x.raft up lead) (λ other. passed s k x a p)

abbrev WasSentFrom : systems.System → ℕ → End → Payload → Type 0
WasSentFrom s k a p = (j : ℕ) → a ≡ end.Node j → systems.WasSent s j k p

message : (s : systems.System) (k : ℕ) (x : servers.Server) (clock : ℕ) (a : End) (p : Payload) → systems.IsUp s k x.raft → refinements.KnowsOthers x.raft → WasSentFrom s k a p → TaskCarried s k x.raft (servers.raft_message clock a p)
message s k x clock (end.Node j) p up others sent = heeds s k x.raft j clock p up others (sent j refl)
message s k x clock (end.Client c) p up others sent = tt

packet : (s : systems.System) (k : ℕ) (x : servers.Server) (clock : ℕ) (a : End) (p : Payload) → systems.IsUp s k x.raft → refinements.KnowsOthers x.raft
    → ((j : ℕ) → a ≡ end.Node j → hosts.is_of_raft p ≡ true → systems.WasSent s j k p) → TaskCarried s k x.raft (servers.packet_task x clock a p)
packet s k x clock a (payload.Vote t l lt) up others sent = message s k x clock a (payload.Vote t l lt) up others (λ j e. sent j e refl)
packet s k x clock a (payload.VoteReply t g) up others sent = message s k x clock a (payload.VoteReply t g) up others (λ j e. sent j e refl)
packet s k x clock a (payload.Append t p pt c r es) up others sent = message s k x clock a (payload.Append t p pt c r es) up others (λ j e. sent j e refl)
packet s k x clock a (payload.AppendReply t ok p r) up others sent = message s k x clock a (payload.AppendReply t ok p r) up others (λ j e. sent j e refl)
packet s k x clock a (payload.Register c o) up others sent = logged s k x clock a (payload.Register c o) (body.Register c o) up
packet s k x clock a (payload.Keep c session answered heard) up others sent = logged s k x clock a (payload.Keep c session answered heard) (body.Keep c session answered heard) up
packet s k x clock a (payload.Command c session seq name o) up others sent = logged s k x clock a (payload.Command c session seq name o) (body.Command c session seq name o) up
packet s k x clock a (payload.Close c session) up others sent = logged s k x clock a (payload.Close c session) (body.Close c session) up
packet s k x clock a (payload.Query c session call l seen seq name q) up others sent =
    asked s k x a (payload.Query c session call l seen seq name q) l
    (record { client = c; session = session; call = call; place = seen; seq = seq; level = l; reach = None; name = name; query = q }) up
packet s k x clock a (payload.Connect c session heard) up others sent = tt
packet s k x clock a (payload.Reset c session heard) up others sent = tt
packet s k x clock a (payload.Opened b c) up others sent = tt
packet s k x clock a (payload.Reply b c d e f) up others sent = tt
packet s k x clock a (payload.Gap b c) up others sent = tt
packet s k x clock a (payload.Answer b c d e f g h i) up others sent = tt
packet s k x clock a (payload.Batch b c d e) up others sent = tt
packet s k x clock a (payload.Ended b c d) up others sent = tt

expires : (s : systems.System) (k : ℕ) (x : servers.Server) (due : List ℕ) (clock : ℕ) → systems.IsUp s k x.raft → servers.leads x ≡ true → TaskCarried s k x.raft (servers.expiries due clock)
expires s k x [] clock up lead = tt
expires s k x (d ∷ due) clock up lead = appends s k x.raft clock (map body.Expire (d ∷ due)) up lead

-- a packet of Raft that the network keeps for a node was sent to it
pub kept_was_sent : (sent kept : List Packet) (p : Packet) (place j k : ℕ) → AllByRecursion (hosts.IsSentIfRaft sent) kept → lists.at_place kept place ≡ Some p → p.«from» ≡ end.Node j → p.to ≡ end.Node k
    → hosts.is_of_raft p.payload ≡ true → systems.Among (record { «from» = end.Node j; to = end.Node k; payload = p.payload }) sent
kept_was_sent sent kept p place j k all at e f raft =
    let same : p ≡ record { «from» = end.Node j; to = end.Node k; payload = p.payload } = (λ i. record { «from» = e i; to = f i; payload = p.payload }) in
    subst (λ q. systems.Among q sent) same (all_at (hosts.IsSentIfRaft sent) kept place p all at j k e f raft)

pub task_carried : (w : worlds.World) (s : systems.System) (k : ℕ) (h : worlds.Host) (i : ServerInput) → systems.IsUp s k h.server.raft → refinements.KnowsOthers h.server.raft → plan_cases.IsInputOf w k h i
    → AllByRecursion (hosts.IsSentIfRaft s.sent) (plan_cases.kept_packets w.bag) → TaskCarried s k h.server.raft (servers.task h.server i)
task_carried w s k h (asks.Elect clock) up others known all = elects s k h.server.raft clock up
task_carried w s k h (asks.Beat clock) up others known all = beats s k h.server.raft up known
task_carried w s k h (asks.Check clock) up others known all = expires s k h.server (sessions_sessions.due_sessions h.server.state (raft_nodes.time_for h.server.raft clock)) clock up known
task_carried w s k h (asks.Packet clock p) up others known all =
    packet s k h.server clock p.«from» p.payload up others (λ j e raft. kept_was_sent s.sent (plan_cases.kept_packets w.bag) p known.1.place j k all known.1.found e known.0 raft)
