-- What a server passes on.
use Rattle.std.proofs.Common.{◌≡◌, ℕ, suc, Bool, cond, not, ◌&&◌, nat_lt, nat_le, nat_eq, length, List, [], ◌∷◌, ◌++◌, Option, Some, None, map, refl, append_assoc}
use Rattle.std.specs.List.{AllByRecursion}
use Rattle.ax_types.specs.declared.entries.Batch.{Batch}
use Rattle.ax_types.specs.declared.entries.Body.{Body}
use Rattle.ax_types.specs.declared.entries.Body.TheVariants as body
use Rattle.ax_types.specs.declared.entries.Entry.{Entry}
use Rattle.ax_types.specs.declared.ids.End.{End}
use Rattle.ax_types.specs.declared.ids.End.TheVariants as end
use Rattle.ax_types.specs.declared.ops.Level.{Level}
use Rattle.ax_types.specs.declared.ops.Level.TheVariants as level
use Rattle.ax_types.specs.declared.packets.Packet.{Packet}
use Rattle.ax_types.specs.declared.packets.Payload.{Payload}
use Rattle.ax_types.specs.declared.packets.Payload.TheVariants as payload
use Rattle.ax_types.specs.declared.raft.RaftInput.{RaftInput}
use Rattle.ax_types.specs.declared.raft.RaftInput.TheVariants as raft_input
use Rattle.ax_types.specs.declared.sessions.Held.{Held}
use Rattle.ax_types.specs.declared.sessions.ServerInput.{ServerInput}
use Rattle.ax_types.specs.declared.sessions.ServerInput.TheVariants as input
use Rattle.ax_types.specs.declared.sessions.SessionState.{SessionState}
use Rattle.ax_types.specs.declared.sessions.SessionState.TheVariants as state
use Rattle.spec_raft.specs.Log as logs
use Rattle.spec_raft.specs.Ballot as ballots
use Rattle.spec_raft.specs.Progress as progress
use Rattle.spec_node.specs.Node as nodes
use Rattle.spec_node.specs.NodeStep as node_steps
use Rattle.spec_sessions.specs.Sessions as sessions
use Rattle.spec_server.specs.Gates as gates
use Rattle.spec_server.specs.Servers as servers
use Rattle.spec_server.specs.ServerStep as server_steps
use Rattle.law_told.proofs.Lists.{by_test, all_append}
use Rattle.law_answers.specs.Passing as passing

abbrev AreToNodes : List Packet → Type 0
AreToNodes ps = AllByRecursion (λ p. passing.IsToNode p.to) ps

abbrev pub AreToClients : List Packet → Type 0
AreToClients ps = AllByRecursion (λ p. passing.IsToClient p.to) ps

-- a Raft node sends to nodes
abbrev Sends : nodes.Did → Type 0
Sends d = AreToNodes d.packets

each_sent : {X : Type 0} (f : X → Packet) → ((x : X) → passing.IsToNode (f x).to) → (xs : List X) → AreToNodes (map f xs)
each_sent f k [] = tt
each_sent f k (x ∷ xs) = (k x, each_sent f k xs)

elects : (n : nodes.Node) (clock : ℕ) → Sends (nodes.candidacy n clock)
elects n clock = by_test Sends _ (nodes.led (nodes.candidate n) clock) (nodes.sending (nodes.candidate n) (nodes.vote_requests (nodes.candidate n))) (λ e. tt) (λ e. each_sent _ (λ k. tt) (nodes.each_other (nodes.candidate n)))

votes : (m : nodes.Node) (j clock : ℕ) → Sends (nodes.vote_counted m j clock)
votes m j clock = let x : nodes.Node = record m { ballot = ballots.counted m.ballot j } in by_test Sends (ballots.is_winning m.ballot j) (nodes.led x clock) (nodes.nothing_done x) (λ f. tt) (λ f. tt)

follows : (m : nodes.Node) (j prev prev_term commit round : ℕ) (es : List Entry) → Sends (nodes.append_followed m j prev prev_term commit round es)
follows m j prev prev_term commit round es =
    by_test Sends (not (logs.match_at m.log prev prev_term)) _ _ (λ e. (tt, tt))
    (λ e. by_test Sends (nodes.is_committed m (logs.first_conflict m.log prev es)) (nodes.nothing_done m) (nodes.sent_taken m j prev commit round es) (λ f. tt) (λ f. (tt, tt)))

takes : (m : nodes.Node) (j t prev prev_term commit round : ℕ) (es : List Entry) → Sends (nodes.append_heeded m j t prev prev_term commit round es)
takes m j t prev prev_term commit round es =
    by_test Sends (nat_lt t m.ballot.term) _ _ (λ e. (tt, tt))
    (λ e. by_test Sends (nodes.is_leader m) (nodes.nothing_done m) (nodes.append_followed (nodes.followed m j) j prev prev_term commit round es) (λ f. tt) (λ f. follows (nodes.followed m j) j prev prev_term commit round es))

more_sent : (m : nodes.Node) (j : ℕ) → AreToNodes (nodes.more_to m j)
more_sent m j = by_test AreToNodes (nat_le (progress.next_place_of m.leading.peers j) (length m.log)) (nodes.sent_to m j ∷ []) [] (λ e. (tt, tt)) (λ e. tt)

accepts : (m : nodes.Node) (j place round : ℕ) → Sends (nodes.append_accepted m j place round)
accepts m j place round =
    let x : nodes.Node = nodes.with_peers m (progress.accepted m.leading.peers j place round (length m.log)) in
    by_test Sends (progress.is_accepted m.leading.peers j place (length m.log)) (nodes.sending (nodes.advanced x) (nodes.more_to (nodes.advanced x) j)) (nodes.nothing_done x) (λ e. more_sent (nodes.advanced x) j) (λ e. tt)

refuses : (m : nodes.Node) (j place round : ℕ) → Sends (nodes.append_refused m j place round)
refuses m j place round =
    let x : nodes.Node = nodes.with_peers m (progress.refused m.leading.peers j place round) in
    by_test Sends (progress.is_refused m.leading.peers j place) (nodes.sending x (nodes.sent_to x j ∷ [])) (nodes.nothing_done x) (λ e. (tt, tt)) (λ e. tt)

hears : (m : nodes.Node) (j t : ℕ) (ok : Bool) (place round : ℕ) → Sends (nodes.append_answered m j t ok place round)
hears m j t ok place round =
    by_test Sends (nodes.is_leader m && nat_eq t m.ballot.term) (cond ok (nodes.append_accepted m j place round) (nodes.append_refused m j place round)) (nodes.nothing_done m)
    (λ e. by_test Sends ok (nodes.append_accepted m j place round) (nodes.append_refused m j place round) (λ f. accepts m j place round) (λ f. refuses m j place round)) (λ e. tt)

heeds : (n : nodes.Node) (j clock : ℕ) (p : Payload) → Sends (node_steps.packet_heeded n j clock p)
heeds n j clock (payload.Vote t l lt) = (tt, tt)
heeds n j clock (payload.VoteReply t g) =
    let m : nodes.Node = nodes.seen n t in
    by_test Sends (nat_eq t m.ballot.term && nodes.is_candidate m && g) (nodes.vote_counted m j clock) (nodes.nothing_done m) (λ e. votes m j clock) (λ e. tt)
heeds n j clock (payload.Append t prev prev_term commit round es) = takes (nodes.seen n t) j t prev prev_term commit round es
heeds n j clock (payload.AppendReply t ok p r) = hears (nodes.seen n t) j t ok p r
heeds n j clock p = tt

raft_sends : (n : nodes.Node) (i : RaftInput) → Sends (node_steps.did n i)
raft_sends n (raft_input.Elect clock) = elects n clock
raft_sends n raft_input.Beat = each_sent _ (λ k. tt) (nodes.each_other (nodes.ticked n))
raft_sends n (raft_input.Append clock bodies) = tt
raft_sends n raft_input.Read = by_test Sends (progress.has_read_room n.leading.reads) (record (nodes.nothing_done (nodes.read_taken n)) { reached = Some (suc n.leading.arrivals) }) (nodes.nothing_done n) (λ e. tt) (λ e. tt)
raft_sends n (raft_input.Message j clock p) = heeds n j clock p

pub all_raft_sends : (n : nodes.Node) (i : Option RaftInput) → AreToNodes (server_steps.raft_out n i).packets
all_raft_sends n None = tt
all_raft_sends n (Some i) = raft_sends n i

-- a request is passed on as it came
abbrev ArePassed : Option Payload → List Packet → Type 0
ArePassed o ps = AllByRecursion (λ p. passing.IsToNode p.to × (Some p.payload ≡ o)) ps

passed_to : (s : servers.Server) (p : Payload) (l : Option ℕ) → ArePassed (Some p) (servers.passed_to s p l)
passed_to s p None = tt
passed_to s p (Some k) = ((tt, refl), tt)

passed : (s : servers.Server) (a : End) (p : Payload) → ArePassed (Some p) (servers.passed_on s a p).passed
passed s (end.Client c) p = passed_to s p s.raft.leader
passed s (end.Node k) p = tt

abbrev Passes : Option Payload → servers.Task → Type 0
Passes o t = ArePassed o t.passed

logged : (s : servers.Server) (clock : ℕ) (a : End) (p : Payload) (b : Body) → Passes (Some p) (servers.logged s clock a p b)
logged s clock a p b = by_test (Passes (Some p)) (servers.leads s) (servers.raft_task (raft_input.Append clock (b ∷ []))) (servers.passed_on s a p) (λ e. tt) (λ e. passed s a p)

asked : (s : servers.Server) (a : End) (p : Payload) (l : Level) (h : Held) → Passes (Some p) (servers.asked_at s a p l h)
asked s a p level.Seq h = tt
asked s a p level.Lin h = by_test (Passes (Some p)) (servers.leads s) (record (servers.raft_task raft_input.Read) { read = Some h }) (servers.passed_on s a p) (λ e. tt) (λ e. passed s a p)

heard : (o : Option Payload) (clock : ℕ) (a : End) (p : Payload) → Passes o (servers.raft_message clock a p)
heard o clock (end.Node j) p = tt
heard o clock (end.Client c) p = tt

packet_passed : (s : servers.Server) (clock : ℕ) (a : End) (p : Payload) → Passes (Some p) (servers.packet_task s clock a p)
packet_passed s clock a (payload.Vote t l lt) = heard _ clock a (payload.Vote t l lt)
packet_passed s clock a (payload.VoteReply t g) = heard _ clock a (payload.VoteReply t g)
packet_passed s clock a (payload.Append t p pt c r es) = heard _ clock a (payload.Append t p pt c r es)
packet_passed s clock a (payload.AppendReply t ok p r) = heard _ clock a (payload.AppendReply t ok p r)
packet_passed s clock a (payload.Register c o) = logged s clock a (payload.Register c o) (body.Register c o)
packet_passed s clock a (payload.Keep c session answered heard) = logged s clock a (payload.Keep c session answered heard) (body.Keep c session answered heard)
packet_passed s clock a (payload.Command c session seq name o) = logged s clock a (payload.Command c session seq name o) (body.Command c session seq name o)
packet_passed s clock a (payload.Close c session) = logged s clock a (payload.Close c session) (body.Close c session)
packet_passed s clock a (payload.Query c session call l seen seq name q) =
    asked s a (payload.Query c session call l seen seq name q) l (record { client = c; session = session; call = call; place = seen; seq = seq; level = l; reach = None; name = name; query = q })
packet_passed s clock a (payload.Connect c session heard) = tt
packet_passed s clock a (payload.Reset c session heard) = tt
packet_passed s clock a (payload.Opened o session) = tt
packet_passed s clock a (payload.Reply session seq p named r) = tt
packet_passed s clock a (payload.Gap session last) = tt
packet_passed s clock a (payload.Answer session n l p named term arrival r) = tt
packet_passed s clock a (payload.Batch session p prev es) = tt
packet_passed s clock a (payload.Ended session p way) = tt

expiries_pass : (o : Option Payload) (xs : List ℕ) (clock : ℕ) → Passes o (servers.expiries xs clock)
expiries_pass o [] clock = tt
expiries_pass o (x ∷ xs) clock = tt

pub task_passes : (s : servers.Server) (i : ServerInput) → Passes (passing.payload_brought i) (servers.task s i)
task_passes s (input.Elect clock) = tt
task_passes s (input.Beat clock) = tt
task_passes s (input.Check clock) = expiries_pass None (sessions.due_sessions s.state (nodes.time_for s.raft clock)) clock
task_passes s (input.Packet clock p) = packet_passed s clock p.«from» p.payload

-- what clients are told
answers : (n : nodes.Node) (a : Option (ℕ × Payload)) → AreToClients (server_steps.answers_to n a)
answers n None = tt
answers n (Some a) = (tt, tt)

one_batch : (n : nodes.Node) (session : ℕ) (b : Batch) (c : Option gates.Connection) → AreToClients (server_steps.batch_to n session b c)
one_batch n session b None = tt
one_batch n session b (Some c) = (tt, tt)

all_batches : (n : nodes.Node) (cs : List gates.Connection) (bs : List (ℕ × Batch)) → AreToClients (server_steps.batches_to n cs bs)
all_batches n cs [] = tt
all_batches n cs (b ∷ bs) = all_append (λ p. passing.IsToClient p.to) (server_steps.batch_to n b.0 b.1 (gates.connection cs b.0)) (server_steps.batches_to n cs bs) (one_batch n b.0 b.1 (gates.connection cs b.0)) (all_batches n cs bs)

entries_told : (n : nodes.Node) (cs : List gates.Connection) (s : sessions.Sessions) (es : List Entry) → AreToClients (server_steps.applying_all n cs s es).packets
entries_told n cs s [] = tt
entries_told n cs s (e ∷ es) =
    let a = sessions.applied_of s (suc s.applied) e in
    let first : List Packet = server_steps.entry_answer n e a.answer in
    let batches : List Packet = server_steps.batches_to n cs a.batches in
    let rest : List Packet = (server_steps.applying_all n cs (sessions.applying s (suc s.applied) e) es).packets in
    all_append (λ p. passing.IsToClient p.to) (first ++ batches) rest
    (all_append (λ p. passing.IsToClient p.to) first batches (by_test AreToClients (nodes.is_leader n && nat_eq e.term n.ballot.term) (server_steps.answers_to n a.answer) [] (λ z. answers n a.answer) (λ z. tt)) (all_batches n cs a.batches))
    (entries_told n cs (sessions.applying s (suc s.applied) e) es)

each_told : {X : Type 0} (f : X → Packet) → ((x : X) → passing.IsToClient (f x).to) → (xs : List X) → AreToClients (map f xs)
each_told f k [] = tt
each_told f k (x ∷ xs) = (k x, each_told f k xs)

hearing_told : (n : nodes.Node) (s : sessions.Sessions) (h : servers.Hearing) (x : SessionState) → AreToClients (server_steps.hearing_state n s h x)
hearing_told n s h state.Unknown = tt
hearing_told n s h state.Live = each_told _ (λ b. tt) (sessions.after s h.session h.heard)
hearing_told n s h (state.Ended place way) = (tt, tt)

hearings_told : (n : nodes.Node) (s : sessions.Sessions) (h : Option servers.Hearing) → AreToClients (server_steps.hearing_answer n s h)
hearings_told n s None = tt
hearings_told n s (Some h) = hearing_told n s h (sessions.session_state s h.session)

regrouped : {X : Type 0} (a b c d e : List X) → a ++ b ++ c ++ d ++ e ≡ a ++ (b ++ ((c ++ d) ++ e))
regrouped a b c d e = simp append_assoc

pub servers_pass_on : passing.ServersPassOn
servers_pass_on s i =
    let t : servers.Task = servers.task s i in
    let g : server_steps.Stage = server_steps.stage s t in
    let queries : List Packet = map (server_steps.query_answer g.raft g.progress.state) (gates.let_through (sessions.is_ready g.progress.state) g.gate) in
    let hearings : List Packet = server_steps.hearing_answer g.raft g.progress.state t.hearing in
    record {
      raft = refl;
      saves = refl;
      passed = t.passed;
      told = (g.progress.packets ++ queries) ++ hearings;
      packets = regrouped g.out.packets t.passed g.progress.packets queries hearings;
      raft_sends = all_raft_sends s.raft t.input;
      requests = task_passes s i;
      clients = all_append (λ p. passing.IsToClient p.to) (g.progress.packets ++ queries) hearings
          (all_append (λ p. passing.IsToClient p.to) g.progress.packets queries (entries_told g.raft g.connections s.state (server_steps.to_apply g.raft s.state)) (each_told _ (λ h. tt) (gates.let_through (sessions.is_ready g.progress.state) g.gate)))
          (hearings_told g.raft g.progress.state t.hearing);
    }

-- what is appended
abbrev Appends : ServerInput → servers.Task → Type 0
Appends i t = passing.AppendsOf i t.input

passed_appends : (i : ServerInput) (s : servers.Server) (a : End) (p : Payload) → Appends i (servers.passed_on s a p)
passed_appends i s (end.Client c) p = tt
passed_appends i s (end.Node k) p = tt

logged_appends : (i : ServerInput) (s : servers.Server) (clock : ℕ) (a : End) (p : Payload) (b : Body) → passing.IsRequestOf i b → Appends i (servers.logged s clock a p b)
logged_appends i s clock a p b k = by_test (Appends i) (servers.leads s) (servers.raft_task (raft_input.Append clock (b ∷ []))) (servers.passed_on s a p) (λ e. (k, tt)) (λ e. passed_appends i s a p)

asked_appends : (i : ServerInput) (s : servers.Server) (a : End) (p : Payload) (l : Level) (h : Held) → Appends i (servers.asked_at s a p l h)
asked_appends i s a p level.Seq h = tt
asked_appends i s a p level.Lin h = by_test (Appends i) (servers.leads s) (record (servers.raft_task raft_input.Read) { read = Some h }) (servers.passed_on s a p) (λ e. tt) (λ e. passed_appends i s a p)

heard_appends : (i : ServerInput) (clock : ℕ) (a : End) (p : Payload) → Appends i (servers.raft_message clock a p)
heard_appends i clock (end.Node j) p = tt
heard_appends i clock (end.Client c) p = tt

packet_appends : (i : ServerInput) (s : servers.Server) (clock : ℕ) (a : End) (p : Payload) → ((b : Body) → passing.body_of p ≡ Some b → passing.IsRequestOf i b) → Appends i (servers.packet_task s clock a p)
packet_appends i s clock a (payload.Vote t l lt) k = heard_appends i clock a (payload.Vote t l lt)
packet_appends i s clock a (payload.VoteReply t g) k = heard_appends i clock a (payload.VoteReply t g)
packet_appends i s clock a (payload.Append t p pt c r es) k = heard_appends i clock a (payload.Append t p pt c r es)
packet_appends i s clock a (payload.AppendReply t ok p r) k = heard_appends i clock a (payload.AppendReply t ok p r)
packet_appends i s clock a (payload.Register c o) k = logged_appends i s clock a (payload.Register c o) (body.Register c o) (k (body.Register c o) refl)
packet_appends i s clock a (payload.Keep c session answered heard) k = logged_appends i s clock a (payload.Keep c session answered heard) (body.Keep c session answered heard) (k (body.Keep c session answered heard) refl)
packet_appends i s clock a (payload.Command c session seq name o) k = logged_appends i s clock a (payload.Command c session seq name o) (body.Command c session seq name o) (k (body.Command c session seq name o) refl)
packet_appends i s clock a (payload.Close c session) k = logged_appends i s clock a (payload.Close c session) (body.Close c session) (k (body.Close c session) refl)
packet_appends i s clock a (payload.Query c session call l seen seq name q) k =
    asked_appends i s a (payload.Query c session call l seen seq name q) l (record { client = c; session = session; call = call; place = seen; seq = seq; level = l; reach = None; name = name; query = q })
packet_appends i s clock a (payload.Connect c session heard) k = tt
packet_appends i s clock a (payload.Reset c session heard) k = tt
packet_appends i s clock a (payload.Opened o session) k = tt
packet_appends i s clock a (payload.Reply session seq p named r) k = tt
packet_appends i s clock a (payload.Gap session last) k = tt
packet_appends i s clock a (payload.Answer session n l p named term arrival r) k = tt
packet_appends i s clock a (payload.Batch session p prev es) k = tt
packet_appends i s clock a (payload.Ended session p way) k = tt

each_expires : (clock : ℕ) (xs : List ℕ) → AllByRecursion (passing.IsRequestOf (input.Check clock)) (map body.Expire xs)
each_expires clock [] = tt
each_expires clock (x ∷ xs) = ((x, refl), each_expires clock xs)

expiries_append : (clock : ℕ) (xs : List ℕ) → Appends (input.Check clock) (servers.expiries xs clock)
expiries_append clock [] = tt
expiries_append clock (x ∷ xs) = each_expires clock (x ∷ xs)

pub servers_append_requests : passing.ServersAppendRequests
servers_append_requests s (input.Elect clock) = tt
servers_append_requests s (input.Beat clock) = tt
servers_append_requests s (input.Check clock) = expiries_append clock (sessions.due_sessions s.state (nodes.time_for s.raft clock))
servers_append_requests s (input.Packet clock p) = packet_appends (input.Packet clock p) s clock p.«from» p.payload (λ b e. e)
