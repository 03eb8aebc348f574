-- The packets of a server's step: those of its Raft node, and none of Raft besides.
use Rattle.std.proofs.Common.{◌≡◌, ℕ, suc, List, [], ◌∷◌, ◌++◌, map, refl, sym, ◌∙◌, inl, inr}
use Rattle.std.specs.Prelude.{Bool, true, false, ◌&&◌, nat_eq, Option, Some, None}
use Rattle.std.specs.List.{AllByRecursion}
use Rattle.ax_types.specs.declared.entries.Batch.{Batch}
use Rattle.ax_types.specs.declared.entries.Body.{Body}
use Rattle.ax_types.specs.declared.entries.Body.TheVariants as body
use Rattle.ax_types.specs.declared.entries.Entry.{Entry}
use Rattle.ax_types.specs.declared.ids.End.{End}
use Rattle.ax_types.specs.declared.ids.End.TheVariants as end
use Rattle.ax_types.specs.declared.ops.Level.{Level}
use Rattle.ax_types.specs.declared.ops.Level.TheVariants as level
use Rattle.ax_types.specs.declared.packets.Packet.{Packet}
use Rattle.ax_types.specs.declared.packets.Payload.{Payload}
use Rattle.ax_types.specs.declared.packets.Payload.TheVariants as payload
use Rattle.ax_types.specs.declared.raft.RaftInput.TheVariants as input
use Rattle.ax_types.specs.declared.sessions.Held.{Held}
use Rattle.ax_types.specs.declared.sessions.ServerInput.{ServerInput}
use Rattle.ax_types.specs.declared.sessions.ServerInput.TheVariants as asks
use Rattle.ax_types.specs.declared.sessions.SessionState.{SessionState}
use Rattle.ax_types.specs.declared.sessions.SessionState.TheVariants as state
use Rattle.spec_node.specs.Node as raft_nodes
use Rattle.spec_transitions.specs.Systems as systems
use Rattle.spec_sessions.specs.Sessions as sessions_sessions
use Rattle.spec_server.specs.Gates as gates
use Rattle.spec_server.specs.Servers as servers
use Rattle.spec_server.specs.ServerStep as server_steps
use Rattle.law_refinement.proofs.Tests.{by_test}
use Rattle.law_refinement.proofs.Steps.{all_sent}
use Rattle.law_growth.proofs.Cases.{true_false}
use Rattle.law_hosts.specs.Hosts as hosts

-- what was sent stays among those sent, and what is sent is then
pub among_more : (p : Packet) (sent ps : List Packet) → systems.Among p sent → systems.Among p (all_sent sent ps)
among_more p sent [] h = h
among_more p sent (q ∷ ps) h = among_more p (q ∷ sent) ps (inr h)

pub all_new : (sent ps : List Packet) → AllByRecursion (hosts.IsSentIfRaft (all_sent sent ps)) ps
all_new sent [] = tt
all_new sent (p ∷ ps) = (λ j k e f raft. among_more p (p ∷ sent) ps (inl refl), all_new (p ∷ sent) ps)

-- lists of packets
pub all_append : (P : Packet → Type 0) (ps qs : List Packet) → AllByRecursion P ps → AllByRecursion P qs → AllByRecursion P (ps ++ qs)
all_append P [] qs h k = k
all_append P (p ∷ ps) qs h k = (h.0, all_append P ps qs h.1 k)

all_map : {X : Type 0} (P : Packet → Type 0) (f : X → Packet) (xs : List X) → ((x : X) → P (f x)) → AllByRecursion P (map f xs)
all_map P f [] h = tt
all_map P f (x ∷ xs) h = (h x, all_map P f xs h)

-- a packet to a client, one from a client, and one with another payload
client_node : {A : Type 0} (c k : ℕ) → end.Client c ≡ end.Node k → A
client_node c k e = cc (e)

to_client : (sent : List Packet) (n : raft_nodes.Node) (c : ℕ) (p : Payload) → hosts.IsSentIfRaft sent (server_steps.to_client n c p)
to_client sent n c p j k e f raft = client_node c k f

pub from_client : (sent : List Packet) (c k : ℕ) (p : Payload) → hosts.IsSentIfRaft sent (record { «from» = end.Client c; to = end.Node k; payload = p })
from_client sent c k p i j e f raft = client_node c i e

-- the places newly committed
answers : (sent : List Packet) (n : raft_nodes.Node) (o : Option (ℕ × Payload)) → AllByRecursion (hosts.IsSentIfRaft sent) (server_steps.answers_to n o)
answers sent n None = tt
answers sent n (Some a) = (to_client sent n a.0 a.1, tt)

entry_answer : (sent : List Packet) (n : raft_nodes.Node) (e : Entry) (o : Option (ℕ × Payload)) → AllByRecursion (hosts.IsSentIfRaft sent) (server_steps.entry_answer n e o)
entry_answer sent n e o = by_test (AllByRecursion (hosts.IsSentIfRaft sent)) (raft_nodes.is_leader n && nat_eq e.term n.ballot.term) (server_steps.answers_to n o) [] (λ t. answers sent n o) (λ t. tt)

batch : (sent : List Packet) (n : raft_nodes.Node) (session : ℕ) (b : Batch) (o : Option gates.Connection) → AllByRecursion (hosts.IsSentIfRaft sent) (server_steps.batch_to n session b o)
batch sent n session b None = tt
batch sent n session b (Some c) = (to_client sent n c.client (server_steps.batch_payload session b), tt)

batches : (sent : List Packet) (n : raft_nodes.Node) (cs : List gates.Connection) (bs : List (ℕ × Batch)) → AllByRecursion (hosts.IsSentIfRaft sent) (server_steps.batches_to n cs bs)
batches sent n cs [] = tt
batches sent n cs (b ∷ bs) = all_append (hosts.IsSentIfRaft sent) (server_steps.batch_to n b.0 b.1 (gates.connection cs b.0)) (server_steps.batches_to n cs bs) (batch sent n b.0 b.1 (gates.connection cs b.0)) (batches sent n cs bs)

applies : (sent : List Packet) (n : raft_nodes.Node) (cs : List gates.Connection) (s : sessions_sessions.Sessions) (es : List Entry) → AllByRecursion (hosts.IsSentIfRaft sent) (server_steps.applying_all n cs s es).packets
applies sent n cs s [] = tt
applies sent n cs s (e ∷ es) =
    let P : Packet → Type 0 = hosts.IsSentIfRaft sent in
    let a = sessions_sessions.applied_of s (suc s.applied) e in
    let rest = server_steps.applying_all n cs (sessions_sessions.applying s (suc s.applied) e) es in
    all_append P (server_steps.entry_answer n e a.answer ++ server_steps.batches_to n cs a.batches) rest.packets
    (all_append P (server_steps.entry_answer n e a.answer) (server_steps.batches_to n cs a.batches) (entry_answer sent n e a.answer) (batches sent n cs a.batches))
    (applies sent n cs (sessions_sessions.applying s (suc s.applied) e) es)

-- connections and queries
hears_state : (sent : List Packet) (n : raft_nodes.Node) (s : sessions_sessions.Sessions) (h : servers.Hearing) (x : SessionState) → AllByRecursion (hosts.IsSentIfRaft sent) (server_steps.hearing_state n s h x)
hears_state sent n s h state.Unknown = tt
hears_state sent n s h state.Live = all_map (hosts.IsSentIfRaft sent) (λ b. server_steps.to_client n h.client (server_steps.batch_payload h.session b)) (sessions_sessions.after s h.session h.heard) (λ b. to_client sent n h.client (server_steps.batch_payload h.session b))
hears_state sent n s h (state.Ended place how) = (to_client sent n h.client (payload.Ended h.session place how), tt)

hears : (sent : List Packet) (n : raft_nodes.Node) (s : sessions_sessions.Sessions) (o : Option servers.Hearing) → AllByRecursion (hosts.IsSentIfRaft sent) (server_steps.hearing_answer n s o)
hears sent n s None = tt
hears sent n s (Some h) = hears_state sent n s h (sessions_sessions.session_state s h.session)

-- what is passed on
passes_to : (sent : List Packet) (x : servers.Server) (p : Payload) (o : Option ℕ) → hosts.is_of_raft p ≡ false → AllByRecursion (hosts.IsSentIfRaft sent) (servers.passed_to x p o)
passes_to sent x p None other = tt
passes_to sent x p (Some k) other = (λ i j e f raft. true_false (sym raft ∙ other), tt)

abbrev TaskPasses : List Packet → servers.Task → Type 0
TaskPasses sent t = AllByRecursion (hosts.IsSentIfRaft sent) t.passed

passes_on : (sent : List Packet) (x : servers.Server) (a : End) (p : Payload) → hosts.is_of_raft p ≡ false → TaskPasses sent (servers.passed_on x a p)
passes_on sent x (end.Client c) p other = passes_to sent x p x.raft.leader other
passes_on sent x (end.Node k) p other = tt

logged : (sent : List Packet) (x : servers.Server) (clock : ℕ) (a : End) (p : Payload) (b : Body) → hosts.is_of_raft p ≡ false → TaskPasses sent (servers.logged x clock a p b)
logged sent x clock a p b other = by_test (TaskPasses sent) (servers.leads x) (servers.raft_task (input.Append clock (b ∷ []))) (servers.passed_on x a p) (λ t. tt) (λ t. passes_on sent x a p other)

asked : (sent : List Packet) (x : servers.Server) (a : End) (p : Payload) (l : Level) (h : Held) → hosts.is_of_raft p ≡ false → TaskPasses sent (servers.asked_at x a p l h)
asked sent x a p level.Seq h other = tt
asked sent x a p level.Lin h other = by_test (TaskPasses sent) (servers.leads x) (record (servers.raft_task input.Read) { read = Some h }) (servers.passed_on x a p) (λ t. tt) (λ t. passes_on sent x a p other)

message : (sent : List Packet) (clock : ℕ) (a : End) (p : Payload) → TaskPasses sent (servers.raft_message clock a p)
message sent clock (end.Node j) p = tt
message sent clock (end.Client c) p = tt

packet : (sent : List Packet) (x : servers.Server) (clock : ℕ) (a : End) (p : Payload) → TaskPasses sent (servers.packet_task x clock a p)
packet sent x clock a (payload.Vote t l lt) = message sent clock a (payload.Vote t l lt)
packet sent x clock a (payload.VoteReply t g) = message sent clock a (payload.VoteReply t g)
packet sent x clock a (payload.Append t p pt c r es) = message sent clock a (payload.Append t p pt c r es)
packet sent x clock a (payload.AppendReply t ok p r) = message sent clock a (payload.AppendReply t ok p r)
packet sent x clock a (payload.Register c o) = logged sent x clock a (payload.Register c o) (body.Register c o) refl
packet sent x clock a (payload.Keep c session answered heard) = logged sent x clock a (payload.Keep c session answered heard) (body.Keep c session answered heard) refl
packet sent x clock a (payload.Command c session seq name o) = logged sent x clock a (payload.Command c session seq name o) (body.Command c session seq name o) refl
packet sent x clock a (payload.Close c session) = logged sent x clock a (payload.Close c session) (body.Close c session) refl
packet sent x clock a (payload.Query c session call l seen seq name q) =
    asked sent x a (payload.Query c session call l seen seq name q) l
    (record { client = c; session = session; call = call; place = seen; seq = seq; level = l; reach = None; name = name; query = q }) refl
packet sent x clock a (payload.Connect c session heard) = tt
packet sent x clock a (payload.Reset c session heard) = tt
packet sent x clock a (payload.Opened b c) = tt
packet sent x clock a (payload.Reply b c d e f) = tt
packet sent x clock a (payload.Gap b c) = tt
packet sent x clock a (payload.Answer b c d e f g h i) = tt
packet sent x clock a (payload.Batch b c d e) = tt
packet sent x clock a (payload.Ended b c d) = tt

expires : (sent : List Packet) (sessions : List ℕ) (clock : ℕ) → TaskPasses sent (servers.expiries sessions clock)
expires sent [] clock = tt
expires sent (s ∷ sessions) clock = tt

task_passes : (sent : List Packet) (x : servers.Server) (i : ServerInput) → TaskPasses sent (servers.task x i)
task_passes sent x (asks.Elect clock) = tt
task_passes sent x (asks.Beat clock) = tt
task_passes sent x (asks.Check clock) = expires sent (sessions_sessions.due_sessions x.state (raft_nodes.time_for x.raft clock)) clock
task_passes sent x (asks.Packet clock p) = packet sent x clock p.«from» p.payload

-- all packets of a server's step
pub server_packets : (sent : List Packet) (x : servers.Server) (i : ServerInput) → AllByRecursion (hosts.IsSentIfRaft sent) (server_steps.raft_out x.raft (servers.task x i).input).packets
    → AllByRecursion (hosts.IsSentIfRaft sent) (server_steps.server_out x i).packets
server_packets sent x i h =
    let P : Packet → Type 0 = hosts.IsSentIfRaft sent in
    let t : servers.Task = servers.task x i in
    let g : server_steps.Stage = server_steps.stage x t in
    let queries : List Packet = map (server_steps.query_answer g.raft g.progress.state) (gates.let_through (sessions_sessions.is_ready g.progress.state) g.gate) in
    let heard : List Packet = server_steps.hearing_answer g.raft g.progress.state t.hearing in
    all_append P (g.out.packets ++ t.passed ++ g.progress.packets ++ queries) heard
    (all_append P (g.out.packets ++ t.passed ++ g.progress.packets) queries
    (all_append P (g.out.packets ++ t.passed) g.progress.packets (all_append P g.out.packets t.passed h (task_passes sent x i)) (applies sent g.raft g.connections x.state (server_steps.to_apply g.raft x.state)))
    (all_map P (server_steps.query_answer g.raft g.progress.state) (gates.let_through (sessions_sessions.is_ready g.progress.state) g.gate)
    (λ q. to_client sent g.raft q.client (server_steps.answer_payload q (sessions_sessions.asked g.progress.state q.session q.name q.query)))))
    (hears sent g.raft g.progress.state t.hearing)
