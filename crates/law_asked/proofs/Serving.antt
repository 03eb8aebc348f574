-- What a server keeps and sends says what its log and its input say.
use Rattle.std.proofs.Common.{◌≡◌, ℕ, suc, List, [], ◌∷◌, ◌++◌, map, sym, subst}
use Rattle.std.specs.Prelude.{◌&&◌, nat_eq, nat_le, Option, Some, None, if◌then◌else◌}
use Rattle.std.specs.List.{AllByRecursion}
use Rattle.ax_types.specs.declared.entries.Act.TheVariants as act
use Rattle.ax_types.specs.declared.entries.Batch.{Batch}
use Rattle.ax_types.specs.declared.entries.Body.{Body}
use Rattle.ax_types.specs.declared.entries.Body.TheVariants as body
use Rattle.ax_types.specs.declared.entries.Entry.{Entry}
use Rattle.ax_types.specs.declared.ids.End.{End}
use Rattle.ax_types.specs.declared.ids.End.TheVariants as end
use Rattle.ax_types.specs.declared.ops.Level.{Level}
use Rattle.ax_types.specs.declared.ops.Level.TheVariants as level
use Rattle.ax_types.specs.declared.packets.Packet.{Packet}
use Rattle.ax_types.specs.declared.packets.Payload.{Payload}
use Rattle.ax_types.specs.declared.packets.Payload.TheVariants as payload
use Rattle.ax_types.specs.declared.raft.RaftInput.{RaftInput}
use Rattle.ax_types.specs.declared.raft.RaftInput.TheVariants as raft_input
use Rattle.ax_types.specs.declared.replies.How.TheVariants as how
use Rattle.ax_types.specs.declared.replies.Reply.{Reply}
use Rattle.ax_types.specs.declared.sessions.Asked.{Asked}
use Rattle.ax_types.specs.declared.sessions.Asked.TheVariants as asking
use Rattle.ax_types.specs.declared.sessions.Held.{Held}
use Rattle.ax_types.specs.declared.sessions.KeptReply.{KeptReply}
use Rattle.ax_types.specs.declared.sessions.ServerInput.{ServerInput}
use Rattle.ax_types.specs.declared.sessions.ServerInput.TheVariants as input
use Rattle.ax_types.specs.declared.sessions.SessionState.{SessionState}
use Rattle.ax_types.specs.declared.sessions.SessionState.TheVariants as state
use Rattle.spec_node.specs.Node as nodes
use Rattle.spec_node.specs.NodeStep as node_steps
use Rattle.spec_sessions.specs.Tables as table
use Rattle.spec_sessions.specs.Outboxes as outboxes
use Rattle.spec_sessions.specs.Sessions as sessions
use Rattle.spec_server.specs.Gates as gates
use Rattle.spec_server.specs.Servers as servers
use Rattle.spec_server.specs.ServerStep as server_steps
use Rattle.law_origin.proofs.Rules.{MayBring, did_brings, stepped_log}
use Rattle.law_origin.specs.Origin.{entries_in}
use Rattle.law_release.proofs.Tests.{by_test}
use Rattle.law_client.proofs.Lists.{all_since, all_append}
use Rattle.law_asked.specs.Asked as asked
use Rattle.law_asked.proofs.Sending.{RaftSays, MaySend, did_sends}

abbrev pub PacketSays : (ℕ → Payload → Type 0) → Packet → Type 0
PacketSays S p = asked.PayloadSays S p.payload

abbrev pub EntrySays : (ℕ → Payload → Type 0) → Entry → Type 0
EntrySays S e = asked.BodySays S e.body

raft_says : (S : ℕ → Payload → Type 0) (p : Payload) → RaftSays (EntrySays S) p → asked.PayloadSays S p
raft_says S (payload.Append term prev prev_term commit round es) a = a
raft_says S (payload.Vote t last last_term) a = tt
raft_says S (payload.VoteReply t is_given) a = tt
raft_says S (payload.AppendReply t ok place round) a = tt
raft_says S p a = absurd a

entries_say : (S : ℕ → Payload → Type 0) (p : Payload) → asked.PayloadSays S p → AllByRecursion (EntrySays S) (entries_in p)
entries_say S (payload.Append term prev prev_term commit round es) a = a
entries_say S p a = tt

abbrev pub InputMay : (ℕ → Payload → Type 0) → nodes.Node → Option RaftInput → Type 0
InputMay S n None = Unit {0}
InputMay S n (Some i) = MayBring (EntrySays S) n i × MaySend (EntrySays S) i

-- what a task asks of the Raft node, and what it passes on
record TaskSays (S : ℕ → Payload → Type 0) (n : nodes.Node) (t : servers.Task) : Type 0 where
  input : InputMay S n t.input
  passed : AllByRecursion (PacketSays S) t.passed

message_says : (S : ℕ → Payload → Type 0) (n : nodes.Node) (clock : ℕ) (a : End) (p : Payload) → asked.PayloadSays S p → TaskSays S n (servers.raft_message clock a p)
message_says S n clock (end.Node j) p s = record { input = (entries_say S p s, entries_say S p s); passed = tt }
message_says S n clock (end.Client c) p s = record { input = tt; passed = tt }

passed_says : (S : ℕ → Payload → Type 0) (x : servers.Server) (p : Payload) (leader : Option ℕ) → asked.PayloadSays S p → AllByRecursion (PacketSays S) (servers.passed_to x p leader)
passed_says S x p None s = tt
passed_says S x p (Some k) s = (s, tt)

passes_on : (S : ℕ → Payload → Type 0) (n : nodes.Node) (x : servers.Server) (a : End) (p : Payload) → asked.PayloadSays S p → TaskSays S n (servers.passed_on x a p)
passes_on S n x (end.Client c) p s = record { input = tt; passed = passed_says S x p x.raft.leader s }
passes_on S n x (end.Node k) p s = record { input = tt; passed = tt }

logged_says : (S : ℕ → Payload → Type 0) (n : nodes.Node) (x : servers.Server) (clock : ℕ) (a : End) (p : Payload) (b : Body) → asked.PayloadSays S p → asked.BodySays S b → TaskSays S n (servers.logged x clock a p b)
logged_says S n x clock a p b s t =
    by_test (TaskSays S n) (servers.leads x) (servers.raft_task (raft_input.Append clock (b ∷ []))) (servers.passed_on x a p) (λ e. record { input = (λ time. (t, tt), tt); passed = tt }) (λ e. passes_on S n x a p s)

query_says : (S : ℕ → Payload → Type 0) (n : nodes.Node) (x : servers.Server) (a : End) (p : Payload) (l : Level) (h : Held) → asked.PayloadSays S p → TaskSays S n (servers.asked_at x a p l h)
query_says S n x a p level.Seq h s = record { input = tt; passed = tt }
query_says S n x a p level.Lin h s =
    by_test (TaskSays S n) (servers.leads x) (record (servers.raft_task raft_input.Read) { read = Some h }) (servers.passed_on x a p) (λ e. record { input = (tt, tt); passed = tt }) (λ e. passes_on S n x a p s)

packet_says : (S : ℕ → Payload → Type 0) (n : nodes.Node) (x : servers.Server) (clock : ℕ) (a : End) (p : Payload) → asked.PayloadSays S p → TaskSays S n (servers.packet_task x clock a p)
packet_says S n x clock a (payload.Vote t l lt) s = message_says S n clock a (payload.Vote t l lt) s
packet_says S n x clock a (payload.VoteReply t g) s = message_says S n clock a (payload.VoteReply t g) s
packet_says S n x clock a (payload.Append t p pt c r es) s = message_says S n clock a (payload.Append t p pt c r es) s
packet_says S n x clock a (payload.AppendReply t ok p r) s = message_says S n clock a (payload.AppendReply t ok p r) s
packet_says S n x clock a (payload.Register c o) s = logged_says S n x clock a (payload.Register c o) (body.Register c o) s s
packet_says S n x clock a (payload.Keep c u answered heard) s = logged_says S n x clock a (payload.Keep c u answered heard) (body.Keep c u answered heard) s s
packet_says S n x clock a (payload.Command c u seq name o) s = logged_says S n x clock a (payload.Command c u seq name o) (body.Command c u seq name o) s s
packet_says S n x clock a (payload.Close c u) s = logged_says S n x clock a (payload.Close c u) (body.Close c u) s s
packet_says S n x clock a (payload.Query c u number l seen seq name q) s =
    query_says S n x a (payload.Query c u number l seen seq name q) l (record { client = c; session = u; call = number; place = seen; seq = seq; level = l; reach = None; name = name; query = q }) s
packet_says S n x clock a (payload.Connect c u heard) s = record { input = tt; passed = tt }
packet_says S n x clock a (payload.Reset c u heard) s = record { input = tt; passed = tt }
packet_says S n x clock a p s = record { input = tt; passed = tt }

expiries_may : (S : ℕ → Payload → Type 0) (t time : ℕ) (ss : List ℕ) → AllByRecursion (EntrySays S) (nodes.entries_of t time (map body.Expire ss))
expiries_may S t time [] = tt
expiries_may S t time (s ∷ ss) = (tt, expiries_may S t time ss)

expiries_say : (S : ℕ → Payload → Type 0) (n : nodes.Node) (ss : List ℕ) (clock : ℕ) → TaskSays S n (servers.expiries ss clock)
expiries_say S n [] clock = record { input = tt; passed = tt }
expiries_say S n (s ∷ ss) clock = record { input = (λ time. expiries_may S n.ballot.term time (s ∷ ss), tt); passed = tt }

-- what comes in with an input
abbrev pub InputSays : (ℕ → Payload → Type 0) → ServerInput → Type 0
InputSays S (input.Packet clock p) = asked.PayloadSays S p.payload
InputSays S i = Unit {0}

task_says : (S : ℕ → Payload → Type 0) (x : servers.Server) (i : ServerInput) → InputSays S i → TaskSays S x.raft (servers.task x i)
task_says S x (input.Elect clock) s = record { input = (tt, tt); passed = tt }
task_says S x (input.Beat clock) s = record { input = (tt, tt); passed = tt }
task_says S x (input.Check clock) s = expiries_say S x.raft (sessions.due_sessions x.state (nodes.time_for x.raft clock)) clock
task_says S x (input.Packet clock p) s = packet_says S x.raft x clock p.«from» p.payload s

pub blank_says : (S : ℕ → Payload → Type 0) (e : Entry) → e.body ≡ body.Blank → EntrySays S e
blank_says S e is = subst (asked.BodySays S) (sym is) tt

-- the Raft node
raft_sends : (S : ℕ → Payload → Type 0) (n : nodes.Node) (i : Option RaftInput) → AllByRecursion (EntrySays S) n.log → InputMay S n i → AllByRecursion (PacketSays S) (server_steps.raft_out n i).packets
raft_sends S n None log may = tt
raft_sends S n (Some i) log may =
    all_since (λ (p : Packet). RaftSays (EntrySays S) p.payload) (PacketSays S) (λ p r. raft_says S p.payload r) (node_steps.did n i).packets (did_sends (EntrySays S) n i log may.1).packets

pub raft_log : (S : ℕ → Payload → Type 0) (n : nodes.Node) (i : Option RaftInput) → AllByRecursion (EntrySays S) n.log → InputMay S n i → AllByRecursion (EntrySays S) (server_steps.raft_after n i).log
raft_log S n None log may = log
raft_log S n (Some i) log may = stepped_log (EntrySays S) n i log (did_brings (EntrySays S) n i (blank_says S) log may.0)

-- what clients are told says nothing of requests
abbrev AnswerSays : (ℕ → Payload → Type 0) → Option Payload → Type 0
AnswerSays S None = Unit {0}
AnswerSays S (Some p) = asked.PayloadSays S p

end_says : (S : ℕ → Payload → Type 0) (s : sessions.Sessions) (u : ℕ) (t : SessionState) → AnswerSays S (sessions.told_end s u t).answer
end_says S s u state.Unknown = tt
end_says S s u state.Live = tt
end_says S s u (state.Ended p h) = tt

again_says : (S : ℕ → Payload → Type 0) (s : sessions.Sessions) (u : ℕ) (k : Option KeptReply) → AnswerSays S (sessions.again_from s u k).answer
again_says S s u None = tt
again_says S s u (Some k) = tt

effect_says : (S : ℕ → Payload → Type 0) (s : sessions.Sessions) (place time : ℕ) (b : Body) → AnswerSays S (sessions.effect s place time b).answer
effect_says S s place time body.Blank = tt
effect_says S s place time (body.Register c o) = tt
effect_says S s place time (body.Keep c u answered heard) = keep_says (sessions.session_state s u)
  where
    keep_says : (t : SessionState) → AnswerSays S (sessions.keeping s time u answered heard t).answer
    keep_says state.Unknown = tt
    keep_says state.Live = tt
    keep_says (state.Ended p h) = tt
effect_says S s place time (body.Command c u seq name o) = command_says (sessions.session_state s u)
  where
    command_says : (t : SessionState) → AnswerSays S (sessions.commanding s u seq name o t).answer
    command_says state.Unknown = tt
    command_says (state.Ended p h) = tt
    command_says state.Live =
        let last = outboxes.last_seq s.boxes u in
        let done : sessions.Effect = record (sessions.nothing s) { act = act.Do u name o; command = Some (u, seq) } in
        let again = sessions.again_from s u (outboxes.kept_reply s.boxes u seq) in
        let gap = sessions.only_answer s (Some (payload.Gap u last)) in
        by_test (λ (e : sessions.Effect). AnswerSays S e.answer) (nat_eq seq (suc last)) done (if nat_le seq last then again else gap) (λ e. tt)
        (λ e. by_test (λ (f : sessions.Effect). AnswerSays S f.answer) (nat_le seq last) again gap (λ f. again_says S s u (outboxes.kept_reply s.boxes u seq)) (λ f. tt))
effect_says S s place time (body.Close c u) = close_says (sessions.session_state s u)
  where
    close_says : (t : SessionState) → AnswerSays S (sessions.closing s place u t).answer
    close_says state.Unknown = tt
    close_says state.Live = tt
    close_says (state.Ended p h) = tt
effect_says S s place time (body.Expire u) =
    by_test (λ (e : sessions.Effect). AnswerSays S e.answer) (table.may_expire s.table u time) (sessions.ending s place u how.Expired (act.Expire u) None) (sessions.nothing s) (λ e. tt) (λ e. tt)

command_answers : (S : ℕ → Payload → Type 0) (boxes : List outboxes.Outbox) (place : ℕ) (c : Option (ℕ × ℕ)) (r : Reply) (other : Option Payload) → AnswerSays S other → AnswerSays S (sessions.command_answer boxes place c r other)
command_answers S boxes place None r other a = a
command_answers S boxes place (Some c) r other a = tt

answers_say : (S : ℕ → Payload → Type 0) (n : nodes.Node) (c : Option ℕ) (p : Option Payload) → AnswerSays S p → AllByRecursion (PacketSays S) (server_steps.answers_to n (sessions.answer_to c p))
answers_say S n (Some c) (Some p) a = (a, tt)
answers_say S n (Some c) None a = tt
answers_say S n None (Some p) a = tt
answers_say S n None None a = tt

batch_says : (S : ℕ → Payload → Type 0) (n : nodes.Node) (u : ℕ) (b : Batch) (c : Option gates.Connection) → AllByRecursion (PacketSays S) (server_steps.batch_to n u b c)
batch_says S n u b None = tt
batch_says S n u b (Some c) = (tt, tt)

batches_say : (S : ℕ → Payload → Type 0) (n : nodes.Node) (cs : List gates.Connection) (bs : List (ℕ × Batch)) → AllByRecursion (PacketSays S) (server_steps.batches_to n cs bs)
batches_say S n cs [] = tt
batches_say S n cs (b ∷ bs) = all_append (PacketSays S) (server_steps.batch_to n b.0 b.1 (gates.connection cs b.0)) (server_steps.batches_to n cs bs) (batch_says S n b.0 b.1 (gates.connection cs b.0)) (batches_say S n cs bs)

three_say : (S : ℕ → Payload → Type 0) (a b c : List Packet) → AllByRecursion (PacketSays S) a → AllByRecursion (PacketSays S) b → AllByRecursion (PacketSays S) c → AllByRecursion (PacketSays S) (a ++ b ++ c)
three_say S a b c x y z = all_append (PacketSays S) (a ++ b) c (all_append (PacketSays S) a b x y) z

applied_say : (S : ℕ → Payload → Type 0) (n : nodes.Node) (cs : List gates.Connection) (s : sessions.Sessions) (es : List Entry) → AllByRecursion (PacketSays S) (server_steps.applying_all n cs s es).packets
applied_say S n cs s [] = tt
applied_say S n cs s (e ∷ es) =
    let a = sessions.applied_of s (suc s.applied) e in
    let rest = (server_steps.applying_all n cs (sessions.applying s (suc s.applied) e) es).packets in
    let f = sessions.effect s (suc s.applied) e.time e.body in
    let own : AllByRecursion (PacketSays S) (server_steps.entry_answer n e a.answer) =
    by_test (AllByRecursion (PacketSays S)) (nodes.is_leader n && nat_eq e.term n.ballot.term) (server_steps.answers_to n a.answer) []
    (λ x. answers_say S n (sessions.body_client e.body) _ (command_answers S _ (suc s.applied) f.command _ f.answer (effect_says S s (suc s.applied) e.time e.body))) (λ x. tt) in
    three_say S (server_steps.entry_answer n e a.answer) (server_steps.batches_to n cs a.batches) rest own (batches_say S n cs a.batches) (applied_say S n cs (sessions.applying s (suc s.applied) e) es)

query_answer_says : (S : ℕ → Payload → Type 0) (h : Held) (a : Asked) → asked.PayloadSays S (server_steps.answer_payload h a)
query_answer_says S h (asking.Answer place events reply) = tt
query_answer_says S h (asking.Ended place way) = tt

queries_say : (S : ℕ → Payload → Type 0) (n : nodes.Node) (s : sessions.Sessions) (hs : List Held) → AllByRecursion (PacketSays S) (map (server_steps.query_answer n s) hs)
queries_say S n s [] = tt
queries_say S n s (h ∷ hs) = (query_answer_says S h (sessions.asked s h.session h.name h.query), queries_say S n s hs)

batches_again : (S : ℕ → Payload → Type 0) (n : nodes.Node) (h : servers.Hearing) (bs : List Batch) → AllByRecursion (PacketSays S) (map (λ b. server_steps.to_client n h.client (server_steps.batch_payload h.session b)) bs)
batches_again S n h [] = tt
batches_again S n h (b ∷ bs) = (tt, batches_again S n h bs)

hearing_says : (S : ℕ → Payload → Type 0) (n : nodes.Node) (s : sessions.Sessions) (h : Option servers.Hearing) → AllByRecursion (PacketSays S) (server_steps.hearing_answer n s h)
hearing_says S n s None = tt
hearing_says S n s (Some h) = by_state (sessions.session_state s h.session)
  where
    by_state : (t : SessionState) → AllByRecursion (PacketSays S) (server_steps.hearing_state n s h t)
    by_state state.Unknown = tt
    by_state state.Live = batches_again S n h (sessions.after s h.session h.heard)
    by_state (state.Ended place way) = (tt, tt)

pub record ServerSays (S : ℕ → Payload → Type 0) (x : servers.Server) (i : ServerInput) : Type 0 where
  pub log : asked.EntriesSay S (server_steps.server_after x i).raft.log
  pub packets : AllByRecursion (PacketSays S) (server_steps.server_out x i).packets
  pub add : InputMay S x.raft (servers.task x i).input

pub server_says : (S : ℕ → Payload → Type 0) (x : servers.Server) (i : ServerInput) → asked.EntriesSay S x.raft.log → InputSays S i → ServerSays S x i
server_says S x i log says =
    let t = servers.task x i in
    let g = server_steps.stage x t in
    let k : TaskSays S x.raft t = task_says S x i says in
    let sent = raft_sends S x.raft t.input log k.input in
    let P = PacketSays S in
    let let_through = map (server_steps.query_answer g.raft g.progress.state) (gates.let_through (sessions.is_ready g.progress.state) g.gate) in
    record {
      log = raft_log S x.raft t.input log k.input;
      packets = all_append P (((g.out.packets ++ t.passed) ++ g.progress.packets) ++ let_through) (server_steps.hearing_answer g.raft g.progress.state t.hearing)
          (all_append P ((g.out.packets ++ t.passed) ++ g.progress.packets) let_through
          (three_say S g.out.packets t.passed g.progress.packets sent k.passed (applied_say S g.raft g.connections x.state (server_steps.to_apply g.raft x.state)))
          (queries_say S g.raft g.progress.state (gates.let_through (sessions.is_ready g.progress.state) g.gate)))
          (hearing_says S g.raft g.progress.state t.hearing);
      add = k.input;
    }
