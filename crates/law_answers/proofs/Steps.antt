-- What a server tells clients in a step is true.
use Rattle.std.proofs.Common.{◌≡◌, ◌⊎◌, ℕ, ◌+◌, ◌≤◌, ◌<◌, max, Bool, true, false, cond, not, ◌&&◌, nat_eq, nat_le, List, [], ◌∷◌, ◌++◌, Option, Some, None, length, map, take, drop, count_by, refl, sym, ap, ap₂, ◌∙◌, subst, arith, inl, inr, leb-true, le-leb, take-append-drop, drop_of_length-le, append-nil, append_assoc}
use Rattle.std.specs.List.{AllByRecursion}
use Rattle.std.proofs.lemmas.List.{length-take-le, take-take}
use Rattle.std.proofs.lemmas.List.Sums.{sum_by-cons}
use Rattle.std.proofs.lemmas.Bool.Decides.{nat_tests}
use Rattle.ax_types.specs.declared.entries.Act.{Act}
use Rattle.ax_types.specs.declared.entries.Act.TheVariants as act
use Rattle.ax_types.specs.declared.entries.Batch.{Batch}
use Rattle.ax_types.specs.declared.entries.Body.{Body}
use Rattle.ax_types.specs.declared.entries.Body.TheVariants as body
use Rattle.ax_types.specs.declared.entries.Entry.{Entry}
use Rattle.ax_types.specs.declared.ids.End.{End}
use Rattle.ax_types.specs.declared.ids.End.TheVariants as end
use Rattle.ax_types.specs.declared.items.Item.{Item}
use Rattle.ax_types.specs.declared.items.Item.TheVariants as item
use Rattle.ax_types.specs.declared.ops.Level.{Level}
use Rattle.ax_types.specs.declared.ops.Level.TheVariants as level
use Rattle.ax_types.specs.declared.ops.Op.{Op}
use Rattle.ax_types.specs.declared.packets.Packet.{Packet}
use Rattle.ax_types.specs.declared.packets.Payload.{Payload}
use Rattle.ax_types.specs.declared.packets.Payload.TheVariants as payload
use Rattle.ax_types.specs.declared.raft.RaftInput.TheVariants as raft_input
use Rattle.ax_types.specs.declared.sessions.Held.{Held}
use Rattle.ax_types.specs.declared.sessions.ServerInput.{ServerInput}
use Rattle.ax_types.specs.declared.sessions.ServerInput.TheVariants as input
use Rattle.ax_types.specs.declared.sessions.SessionState.{SessionState}
use Rattle.ax_types.specs.declared.sessions.SessionState.TheVariants as state
use Rattle.spec_book.specs.Book as books
use Rattle.spec_book.specs.History as histories
use Rattle.spec_claims.specs.Once as once
use Rattle.spec_claims.specs.Transcript as transcripts
use Rattle.spec_claims.specs.Payloads as payloads
use Rattle.spec_node.specs.Node as nodes
use Rattle.spec_sessions.specs.Outboxes as outboxes
use Rattle.spec_sessions.specs.Sessions as sessions
use Rattle.spec_server.specs.Gates as gates
use Rattle.spec_server.specs.Servers as servers
use Rattle.spec_server.specs.ServerStep as server_steps
use Rattle.spec_run.specs.KeptStores as kept_stores
use Rattle.law_told.proofs.Lists.{by_test, all_since, all_append}
use Rattle.law_sessions.specs.Folds as folds
use Rattle.law_sessions.proofs.Finding.{equal, found_passes, all_filter}
use Rattle.law_sessions.proofs.Runs.{whole, acts_split}
use Rattle.law_sessions.proofs.Telling.{state_tells_fold}
use Rattle.law_answers.specs.TrueServers as true_servers
use Rattle.law_answers.specs.TrueSteps as laws
use Rattle.law_answers.specs.Passing as passing
use Rattle.law_answers.proofs.Passing.{all_raft_sends, task_passes}
use Rattle.law_answers.proofs.Entries.{entries_answer_truly, packets_grow}
use Rattle.law_answers.proofs.Terms.{LeadsOn, Same, Fell, NoElectionIn, leads_on}

-- all acts of a session stand within the history
abbrev Done : Type 0
Done = ℕ × (List ℕ × Op)

with_within : (p n : ℕ) (b : Bool) (x : List ℕ × Op) (ds : List Done) → p + 1 ≤ n → AllByRecursion (λ (d : Done). d.0 ≤ n) ds → AllByRecursion (λ (d : Done). d.0 ≤ n) (cond b ((p + 1, x) ∷ ds) ds)
with_within p n true x ds l h = (l, h)
with_within p n false x ds l h = h

dos_within : (s done n : ℕ) (h : histories.History) → done + length h ≤ n → AllByRecursion (λ (d : Done). d.0 ≤ n) (histories.dos_after s done h)
dos_within s done n [] l = tt
dos_within s done n ((time, act.Do t name o) ∷ h) l = with_within done n (nat_eq s t) (name, o) (histories.dos_after s (done + 1) h) (omega arith) (dos_within s (done + 1) n h (omega arith))
dos_within s done n ((time, act.Open c o) ∷ h) l = dos_within s (done + 1) n h (omega arith)
dos_within s done n ((time, act.Keep t) ∷ h) l = dos_within s (done + 1) n h (omega arith)
dos_within s done n ((time, act.Close t) ∷ h) l = dos_within s (done + 1) n h (omega arith)
dos_within s done n ((time, act.Expire t) ∷ h) l = dos_within s (done + 1) n h (omega arith)
dos_within s done n ((time, act.Nothing) ∷ h) l = dos_within s (done + 1) n h (omega arith)

count_all : (n : ℕ) (ds : List Done) → AllByRecursion (λ (d : Done). d.0 ≤ n) ds → count_by (λ (d : Done). nat_le d.0 n) ds ≡ length ds
count_all n [] h = refl
count_all n (d ∷ ds) h =
    let e : nat_le d.0 n ≡ true = le-leb d.0 n h.0 in
    let a = sum_by-cons (λ (x : Done). cond (nat_le x.0 n) 1 0) d ds in
    let unit : ℕ = 1 in
    let one : cond (nat_le d.0 n) 1 0 ≡ unit = ap (λ b. cond b 1 0) e in
    let r = count_all n ds h.1 in
    omega (arith, a, one, r)

pub dos_all : (h : histories.History) (s : ℕ) → once.dos_upto h s (length h) ≡ length (histories.dos h s)
dos_all h s = count_all (length h) (histories.dos h s) (dos_within s 0 (length h) h (omega arith))

-- a query that is let through
both_true : (a b : Bool) → (a && b) ≡ true → (a ≡ true) × (b ≡ true)
both_true true b e = (refl, e)
both_true false b e = absurd (cc)

reached_upto : (l : Level) (items : List Item) (s n p q term arrival : ℕ) → p ≤ q → payloads.IsReachedAt l items s n p term arrival → payloads.IsReachedAt l items s n q term arrival
reached_upto level.Lin items s n p q term arrival l k = record { node = k.node; later = k.later; earlier = k.earlier; there = k.there; covers = let c = k.covers in omega (arith, c, l) }
reached_upto level.Seq items s n p q term arrival l k = tt

live_answer : (items : List Item) (h : histories.History) (s : sessions.Sessions) (q : Held) → folds.TellsFold h s → true_servers.IsHeldTrue items q → sessions.session_state s q.session ≡ state.Live → q.place ≤ s.applied → q.seq ≤ outboxes.last_seq s.boxes q.session
    → payloads.IsTruePayload items h q.client (server_steps.answer_payload q (sessions.asked_of s q.session q.name q.query state.Live))
live_answer items h s q t k live place seq =
    let f = t.live q.session live in
    let e = t.applied in
    let d = dos_all h q.session in
    let g = f.seq in
    let b = k.queried.behind in
    let there : payloads.IsTrueAnswer items h q.session q.call q.level (length h) (outboxes.last_batch s.boxes q.session) (server_steps.reach_term q.reach) (server_steps.reach_arrival q.reach) (books.ask s.book q.name q.query) = record {
      name = q.name;
      query = q.query;
      called = k.queried.called;
      within = omega arith;
      live = f.live;
      behind = omega (arith, b, seq, g, d);
      last_event = f.batch;
      answer = ap (λ x. books.ask x q.name q.query) t.book;
      reached = reached_upto q.level items q.session q.call q.place (length h) (server_steps.reach_term q.reach) (server_steps.reach_arrival q.reach) (omega (arith, place, e)) k.reached;
    } in
    subst (λ n. payloads.IsTrueAnswer items h q.session q.call q.level n (outboxes.last_batch s.boxes q.session) (server_steps.reach_term q.reach) (server_steps.reach_arrival q.reach) (books.ask s.book q.name q.query)) (sym e) there

query_answer : (items : List Item) (h : histories.History) (s : sessions.Sessions) (q : Held) (x : SessionState) → folds.TellsFold h s → true_servers.IsHeldTrue items q → sessions.session_state s q.session ≡ x
    → (nat_le q.place s.applied && sessions.is_done x (outboxes.last_seq s.boxes q.session) q.seq) ≡ true → payloads.IsTruePayload items h q.client (server_steps.answer_payload q (sessions.asked_of s q.session q.name q.query x))
query_answer items h s q state.Live t k e r =
    let b = both_true (nat_le q.place s.applied) (nat_le q.seq (outboxes.last_seq s.boxes q.session)) r in
    live_answer items h s q t k e (leb-true q.place s.applied b.0) (leb-true q.seq (outboxes.last_seq s.boxes q.session) b.1)
query_answer items h s q (state.Ended p way) t k e r = t.ended q.client q.session p way e items
query_answer items h s q state.Unknown t k e r = let b = both_true (nat_le q.place s.applied) false r in absurd (cc)

queries_sent : (items : List Item) (h : histories.History) (n : nodes.Node) (s : sessions.Sessions) (gate : List Held) → folds.TellsFold h s → AllByRecursion (true_servers.IsHeldTrue items) gate
    → laws.AreTruePackets items h (map (server_steps.query_answer n s) (gates.let_through (sessions.is_ready s) gate))
queries_sent items h n s [] t k = tt
queries_sent items h n s (q ∷ gate) t k = go (queries_sent items h n s gate t k.1) (sessions.is_ready s q.session q.place q.seq) refl
  where
    go : laws.AreTruePackets items h (map (server_steps.query_answer n s) (gates.let_through (sessions.is_ready s) gate)) → (b : Bool) → sessions.is_ready s q.session q.place q.seq ≡ b
        → laws.AreTruePackets items h (map (server_steps.query_answer n s) (cond b (q ∷ gates.let_through (sessions.is_ready s) gate) (gates.let_through (sessions.is_ready s) gate)))
    go next true e = (query_answer items h s q (sessions.session_state s q.session) t k.0 refl e, next)
    go next false e = next

-- batches that are asked for
batch_packets : (items : List Item) (h : histories.History) (n : nodes.Node) (c t : ℕ) (bs : List Batch) → AllByRecursion (λ (b : Batch). folds.IsTrueOf h c (payload.Batch t b.place b.prev b.events)) bs
    → laws.AreTruePackets items h (map (λ b. server_steps.to_client n c (server_steps.batch_payload t b)) bs)
batch_packets items h n c t [] k = tt
batch_packets items h n c t (b ∷ bs) k = (k.0 items, batch_packets items h n c t bs k.1)

hearing_by : (items : List Item) (h : histories.History) (n : nodes.Node) (s : sessions.Sessions) (x : servers.Hearing) (y : SessionState) → folds.TellsFold h s → sessions.session_state s x.session ≡ y → laws.AreTruePackets items h (server_steps.hearing_state n s x y)
hearing_by items h n s x state.Unknown t e = tt
hearing_by items h n s x state.Live t e = batch_packets items h n x.client x.session (sessions.after s x.session x.heard) (t.batches x.client x.session x.heard)
hearing_by items h n s x (state.Ended p way) t e = (t.ended x.client x.session p way e items, tt)

hearing_sent : (items : List Item) (h : histories.History) (n : nodes.Node) (s : sessions.Sessions) (x : Option servers.Hearing) → folds.TellsFold h s → laws.AreTruePackets items h (server_steps.hearing_answer n s x)
hearing_sent items h n s None t = tt
hearing_sent items h n s (Some x) t = hearing_by items h n s x (sessions.session_state s x.session) t refl

-- what goes to nodes tells no client anything
to_nodes : (items : List Item) (h : histories.History) (ps : List Packet) → AllByRecursion (λ p. passing.IsToNode p.to) ps → laws.AreTruePackets items h ps
to_nodes items h ps k = all_since (λ p. passing.IsToNode p.to) (λ p. laws.IsTrueTo items h p.to p.payload) (λ p t. node_end p.to p.payload t) ps k
  where
    node_end : (a : End) (q : Payload) → passing.IsToNode a → laws.IsTrueTo items h a q
    node_end (end.Node j) q t = tt
    node_end (end.Client c) q t = absurd t

-- what a task holds was called
abbrev IsReadQueried : List Item → Option Held → Type 0
IsReadQueried items None = Unit {0}
IsReadQueried items (Some h) = true_servers.IsQueried items h.session h.call h.level h.seq h.name h.query

record IsTrueTask (items : List Item) (t : servers.Task) : Type 0 where
  held : AllByRecursion (true_servers.IsHeldTrue items) t.held
  read : IsReadQueried items t.read

passed_on : (items : List Item) (s : servers.Server) (a : End) (p : Payload) → IsTrueTask items (servers.passed_on s a p)
passed_on items s (end.Client c) p = record { held = tt; read = tt }
passed_on items s (end.Node k) p = record { held = tt; read = tt }

logged : (items : List Item) (s : servers.Server) (clock : ℕ) (a : End) (p : Payload) (b : Body) → IsTrueTask items (servers.logged s clock a p b)
logged items s clock a p b = by_test (IsTrueTask items) (servers.leads s) (servers.raft_task (raft_input.Append clock (b ∷ []))) (servers.passed_on s a p) (λ e. record { held = tt; read = tt }) (λ e. passed_on items s a p)

asked : (items : List Item) (s : servers.Server) (a : End) (p : Payload) (l : Level) (h : Held) → h.level ≡ l → true_servers.IsQueried items h.session h.call h.level h.seq h.name h.query → IsTrueTask items (servers.asked_at s a p l h)
asked items s a p level.Seq h e k = record { held = (record { queried = k; reached = subst (λ l. payloads.IsReachedAt l items h.session h.call h.place (server_steps.reach_term h.reach) (server_steps.reach_arrival h.reach)) (sym e) tt }, tt); read = tt }
asked items s a p level.Lin h e k =
    by_test (IsTrueTask items) (servers.leads s) (record (servers.raft_task raft_input.Read) { read = Some h }) (servers.passed_on s a p) (λ z. record { held = tt; read = k }) (λ z. passed_on items s a p)

message : (items : List Item) (clock : ℕ) (a : End) (p : Payload) → IsTrueTask items (servers.raft_message clock a p)
message items clock (end.Node j) p = record { held = tt; read = tt }
message items clock (end.Client c) p = record { held = tt; read = tt }

packet_true : (items : List Item) (s : servers.Server) (clock : ℕ) (a : End) (p : Payload) → laws.IsQueryMade items p → IsTrueTask items (servers.packet_task s clock a p)
packet_true items s clock a (payload.Vote t l lt) k = message items clock a (payload.Vote t l lt)
packet_true items s clock a (payload.VoteReply t g) k = message items clock a (payload.VoteReply t g)
packet_true items s clock a (payload.Append t p pt c r es) k = message items clock a (payload.Append t p pt c r es)
packet_true items s clock a (payload.AppendReply t ok p r) k = message items clock a (payload.AppendReply t ok p r)
packet_true items s clock a (payload.Register c o) k = logged items s clock a (payload.Register c o) _
packet_true items s clock a (payload.Keep c session answered heard) k = logged items s clock a (payload.Keep c session answered heard) _
packet_true items s clock a (payload.Command c session seq name o) k = logged items s clock a (payload.Command c session seq name o) _
packet_true items s clock a (payload.Close c session) k = logged items s clock a (payload.Close c session) _
packet_true items s clock a (payload.Query c session n l seen seq name q) k =
    asked items s a (payload.Query c session n l seen seq name q) l (record { client = c; session = session; call = n; place = seen; seq = seq; level = l; reach = None; name = name; query = q }) refl k
packet_true items s clock a (payload.Connect c session heard) k = record { held = tt; read = tt }
packet_true items s clock a (payload.Reset c session heard) k = record { held = tt; read = tt }
packet_true items s clock a (payload.Opened o session) k = record { held = tt; read = tt }
packet_true items s clock a (payload.Reply session seq p named r) k = record { held = tt; read = tt }
packet_true items s clock a (payload.Gap session last) k = record { held = tt; read = tt }
packet_true items s clock a (payload.Answer session n l p named term arrival r) k = record { held = tt; read = tt }
packet_true items s clock a (payload.Batch session p prev es) k = record { held = tt; read = tt }
packet_true items s clock a (payload.Ended session p way) k = record { held = tt; read = tt }

expiries_true : (items : List Item) (xs : List ℕ) (clock : ℕ) → IsTrueTask items (servers.expiries xs clock)
expiries_true items [] clock = record { held = tt; read = tt }
expiries_true items (x ∷ xs) clock = record { held = tt; read = tt }

task_true : (items : List Item) (s : servers.Server) (i : ServerInput) → laws.IsRightInput items s i → IsTrueTask items (servers.task s i)
task_true items s (input.Elect clock) k = record { held = tt; read = tt }
task_true items s (input.Beat clock) k = record { held = tt; read = tt }
task_true items s (input.Check clock) k = expiries_true items (sessions.due_sessions s.state (nodes.time_for s.raft clock)) clock
task_true items s (input.Packet clock p) k = packet_true items s clock p.«from» p.payload k

pub first_step_may_be_made : laws.FirstStepMayBeMade
first_step_may_be_made me nodes timeout clock = record {
  right = tt;
  log = record { within = omega arith; same = refl };
  reads = tt;
  reach = λ x e. absurd (cc);
}

-- the reads of a node
stands_split : (x : Item) (items : List Item) → transcripts.StandsIn x items → (later : List Item) × (earlier : List Item) × (items ≡ later ++ x ∷ earlier)
stands_split x [] k = absurd k
stands_split x (y ∷ items) (inl e) = ([], items, ap (λ z. z ∷ items) e)
stands_split x (y ∷ items) (inr k) = let r = stands_split x items k in (y ∷ r.0, r.1, ap (λ zs. y ∷ zs) r.2)

read_moves : (items : List Item) (n m : nodes.Node) → m.ballot.term ≡ n.ballot.term → m.ballot.me ≡ n.ballot.me → (ws : List gates.WaitingQuery) → AllByRecursion (true_servers.IsReadTrue items n) ws → AllByRecursion (true_servers.IsReadTrue items m) ws
read_moves items n m term me ws k =
    all_since (true_servers.IsReadTrue items n) (true_servers.IsReadTrue items m)
    (λ w t. record {
      queried = t.queried;
      reach = t.reach ∙ ap (λ x. Some (x, w.arrival)) (sym term);
      reached = subst (λ x. true_servers.IsReachedIn items x m.ballot.term w.arrival w.held.session w.held.call) (sym me) (subst (λ x. true_servers.IsReachedIn items n.ballot.me x w.arrival w.held.session w.held.call) (sym term) t.reached);
    }) ws k

-- a read that was taken waits with its query
one_more : (items : List Item) (n : nodes.Node) (ws : List gates.WaitingQuery) (read : Option Held) (reached : Option ℕ) → IsReadQueried items read → ((x : Item) → server_steps.reach_item n read reached ≡ Some x → transcripts.StandsIn x items)
    → AllByRecursion (true_servers.IsReadTrue items n) ws → AllByRecursion (true_servers.IsReadTrue items n) (server_steps.with_reading ws n.ballot.term read reached)
one_more items n ws None reached q r k = k
one_more items n ws (Some h) None q r k = k
one_more items n ws (Some h) (Some arrival) q r k =
    let a = stands_split (item.Reach n.ballot.me n.ballot.term arrival h.session h.call) items (r (item.Reach n.ballot.me n.ballot.term arrival h.session h.call) refl) in
    let w : gates.WaitingQuery = record { arrival = arrival; held = record h { reach = Some (n.ballot.term, arrival) } } in
    all_append (true_servers.IsReadTrue items n) ws (w ∷ []) k (record { queried = q; reach = refl; reached = record { later = a.0; earlier = a.1; there = a.2 } }, tt)

-- the query of a read that is ready
reached_by : (l : Level) (items : List Item) (s n p term arrival : ℕ) → payloads.IsReached items s n p term arrival → payloads.IsReachedAt l items s n p term arrival
reached_by level.Lin items s n p term arrival k = k
reached_by level.Seq items s n p term arrival k = tt

read_held : (items : List Item) (n : nodes.Node) (w : gates.WaitingQuery) (r : ℕ × ℕ) → w.arrival ≡ r.0 → true_servers.IsReadTrue items n w → laws.IsReadCovered items n.ballot.me n.ballot.term r → true_servers.IsHeldTrue items (gates.held_at r.1 w.held)
read_held items n w r e t c =
    let there : items ≡ t.reached.later ++ item.Reach n.ballot.me n.ballot.term r.0 w.held.session w.held.call ∷ t.reached.earlier = t.reached.there ∙ ap (λ x. t.reached.later ++ item.Reach n.ballot.me n.ballot.term x w.held.session w.held.call ∷ t.reached.earlier) e in
    let g = c w.held.session w.held.call t.reached.later t.reached.earlier there in
    let upto : payloads.IsReached items w.held.session w.held.call (max w.held.place r.1) n.ballot.term w.arrival = record { node = n.ballot.me; later = t.reached.later; earlier = t.reached.earlier; there = t.reached.there; covers = omega (arith, g) } in
    record {
      queried = t.queried;
      reached = subst (λ x. payloads.IsReachedAt w.held.level items w.held.session w.held.call (max w.held.place r.1) (server_steps.reach_term x) (server_steps.reach_arrival x)) (sym t.reach)
          (reached_by w.held.level items w.held.session w.held.call (max w.held.place r.1) n.ballot.term w.arrival upto);
    }

one_ready : (items : List Item) (n : nodes.Node) (ws : List gates.WaitingQuery) (r : ℕ × ℕ) (x : Option gates.WaitingQuery) → gates.reading ws r.0 ≡ x → AllByRecursion (true_servers.IsReadTrue items n) ws → laws.IsReadCovered items n.ballot.me n.ballot.term r
    → AllByRecursion (true_servers.IsHeldTrue items) (gates.reading_at r.1 x)
one_ready items n ws r None e k c = tt
one_ready items n ws r (Some w) e k c =
    let f = found_passes (true_servers.IsReadTrue items n) (λ y. nat_eq y.arrival r.0) ws w k e in
    (read_held items n w r (equal w.arrival r.0 f.1) f.0 c, tt)

all_ready : (items : List Item) (n : nodes.Node) (ws : List gates.WaitingQuery) (rs : List (ℕ × ℕ)) → AllByRecursion (true_servers.IsReadTrue items n) ws → AllByRecursion (laws.IsReadCovered items n.ballot.me n.ballot.term) rs → AllByRecursion (true_servers.IsHeldTrue items) (gates.ready_held ws rs)
all_ready items n ws [] k c = tt
all_ready items n ws (r ∷ rs) k c =
    all_append (true_servers.IsHeldTrue items) (gates.reading_at r.1 (gates.reading ws r.0)) (gates.ready_held ws rs) (one_ready items n ws r (gates.reading ws r.0) refl k c.0) (all_ready items n ws rs k c.1)

-- the readings in a step: they are true, or the node leads no more and gives none
abbrev AreTrueReadings : List Item → nodes.Node → List (ℕ × ℕ) → List gates.WaitingQuery → Type 0
AreTrueReadings items n reads ws = AllByRecursion (true_servers.IsReadTrue items n) ws ⊎ ((nodes.is_leader n ≡ false) × (reads ≡ []))

step_readings : (items : List Item) (n m : nodes.Node) (reads : List (ℕ × ℕ)) (ws : List gates.WaitingQuery) (read : Option Held) (reached : Option ℕ) → (nodes.is_leader n ≡ true → LeadsOn n m reads) → (nodes.is_leader n ≡ false → ws ≡ [])
    → IsReadQueried items read → ((x : Item) → server_steps.reach_item m read reached ≡ Some x → transcripts.StandsIn x items) → AllByRecursion (true_servers.IsReadTrue items n) ws
    → AreTrueReadings items m reads (server_steps.with_reading ws m.ballot.term read reached)
step_readings items n m reads ws read reached leads idle q r k = go (nodes.is_leader n) refl
  where
    by_lead : LeadsOn n m reads → AreTrueReadings items m reads (server_steps.with_reading ws m.ballot.term read reached)
    by_lead (Same l term me) = inl (one_more items m ws read reached q r (read_moves items n m term me ws k))
    by_lead (Fell l e) = inr (l, e)

    go : (b : Bool) → nodes.is_leader n ≡ b → AreTrueReadings items m reads (server_steps.with_reading ws m.ballot.term read reached)
    go true e = by_lead (leads e)
    go false e = inl (one_more items m ws read reached q r (subst (AllByRecursion (true_servers.IsReadTrue items m)) (sym (idle e)) tt))

readings_true : (items : List Item) (n : nodes.Node) (reads : List (ℕ × ℕ)) (ws : List gates.WaitingQuery) → AreTrueReadings items n reads ws → AllByRecursion (true_servers.IsReadTrue items n) (server_steps.readings_after n ws reads)
readings_true items n reads ws (inl k) = by_test (AllByRecursion (true_servers.IsReadTrue items n)) (nodes.is_leader n) (gates.without_ready ws reads) [] (λ e. all_filter (true_servers.IsReadTrue items n) (λ w. not (gates.is_given reads w.arrival)) ws k) (λ e. tt)
readings_true items n reads ws (inr k) = let e = k.0 in subst (λ b. AllByRecursion (true_servers.IsReadTrue items n) (cond b (gates.without_ready ws reads) [])) (sym e) tt

ready_true : (items : List Item) (n : nodes.Node) (reads : List (ℕ × ℕ)) (ws : List gates.WaitingQuery) → AreTrueReadings items n reads ws → AllByRecursion (laws.IsReadCovered items n.ballot.me n.ballot.term) reads → AllByRecursion (true_servers.IsHeldTrue items) (gates.ready_held ws reads)
ready_true items n reads ws (inl k) c = all_ready items n ws reads k c
ready_true items n reads ws (inr k) c = subst (λ rs. AllByRecursion (true_servers.IsHeldTrue items) (gates.ready_held ws rs)) (sym k.1) tt

-- the gate
gate_with : (items : List Item) (gate hs : List Held) → AllByRecursion (true_servers.IsHeldTrue items) gate → AllByRecursion (true_servers.IsHeldTrue items) hs → AllByRecursion (true_servers.IsHeldTrue items) (gates.with_all_held gate hs)
gate_with items gate [] k l = k
gate_with items gate (h ∷ hs) k l =
    gate_with items (gates.with_held gate h) hs (by_test (AllByRecursion (true_servers.IsHeldTrue items)) (gates.has_gate_room gate) (gate ++ h ∷ []) gate (λ e. all_append (true_servers.IsHeldTrue items) gate (h ∷ []) k (l.0, tt)) (λ e. k)) hs_rest
  where
    hs_rest : AllByRecursion (true_servers.IsHeldTrue items) hs
    hs_rest = l.1

-- no election is asked of a leader
message_none : (clock : ℕ) (a : End) (p : Payload) → NoElectionIn (servers.raft_message clock a p).input
message_none clock (end.Node j) p = tt
message_none clock (end.Client c) p = tt

passed_none : (s : servers.Server) (a : End) (p : Payload) → NoElectionIn (servers.passed_on s a p).input
passed_none s (end.Client c) p = tt
passed_none s (end.Node k) p = tt

abbrev AsksNone : servers.Task → Type 0
AsksNone t = NoElectionIn t.input

logged_none : (s : servers.Server) (clock : ℕ) (a : End) (p : Payload) (b : Body) → AsksNone (servers.logged s clock a p b)
logged_none s clock a p b = by_test AsksNone (servers.leads s) (servers.raft_task (raft_input.Append clock (b ∷ []))) (servers.passed_on s a p) (λ e. tt) (λ e. passed_none s a p)

asked_none : (s : servers.Server) (a : End) (p : Payload) (l : Level) (h : Held) → AsksNone (servers.asked_at s a p l h)
asked_none s a p level.Seq h = tt
asked_none s a p level.Lin h = by_test AsksNone (servers.leads s) (record (servers.raft_task raft_input.Read) { read = Some h }) (servers.passed_on s a p) (λ e. tt) (λ e. passed_none s a p)

packet_none : (s : servers.Server) (clock : ℕ) (a : End) (p : Payload) → AsksNone (servers.packet_task s clock a p)
packet_none s clock a (payload.Vote t l lt) = message_none clock a (payload.Vote t l lt)
packet_none s clock a (payload.VoteReply t g) = message_none clock a (payload.VoteReply t g)
packet_none s clock a (payload.Append t p pt c r es) = message_none clock a (payload.Append t p pt c r es)
packet_none s clock a (payload.AppendReply t ok p r) = message_none clock a (payload.AppendReply t ok p r)
packet_none s clock a (payload.Register c o) = logged_none s clock a (payload.Register c o) (body.Register c o)
packet_none s clock a (payload.Keep c session answered heard) = logged_none s clock a (payload.Keep c session answered heard) (body.Keep c session answered heard)
packet_none s clock a (payload.Command c session seq name o) = logged_none s clock a (payload.Command c session seq name o) (body.Command c session seq name o)
packet_none s clock a (payload.Close c session) = logged_none s clock a (payload.Close c session) (body.Close c session)
packet_none s clock a (payload.Query c session n l seen seq name q) = asked_none s a (payload.Query c session n l seen seq name q) l (record { client = c; session = session; call = n; place = seen; seq = seq; level = l; reach = None; name = name; query = q })
packet_none s clock a (payload.Connect c session heard) = tt
packet_none s clock a (payload.Reset c session heard) = tt
packet_none s clock a (payload.Opened o session) = tt
packet_none s clock a (payload.Reply session seq p named r) = tt
packet_none s clock a (payload.Gap session last) = tt
packet_none s clock a (payload.Answer session n l p named term arrival r) = tt
packet_none s clock a (payload.Batch session p prev es) = tt
packet_none s clock a (payload.Ended session p way) = tt

expiries_none : (xs : List ℕ) (clock : ℕ) → AsksNone (servers.expiries xs clock)
expiries_none [] clock = tt
expiries_none (x ∷ xs) clock = tt

task_none : (items : List Item) (s : servers.Server) (i : ServerInput) → laws.IsRightInput items s i → servers.leads s ≡ true → AsksNone (servers.task s i)
task_none items s (input.Elect clock) k l = absurd (cc)
task_none items s (input.Beat clock) k l = tt
task_none items s (input.Check clock) k l = expiries_none (sessions.due_sessions s.state (nodes.time_for s.raft clock)) clock
task_none items s (input.Packet clock p) k l = packet_none s clock p.«from» p.payload

-- a session state goes on to the commit
record GoesTo (timeout : ℕ) (items : List Item) (committed : List Entry) (p : server_steps.Progress) : Type 0 where
  applied : true_servers.IsAppliedOf timeout committed p.state
  before : List (ℕ × Act)
  after : List (ℕ × Act)
  whole : kept_stores.acts_of timeout committed ≡ before ++ after
  tells : folds.TellsFold before p.state
  packets : laws.AreTruePackets items before p.packets

-- what is applied and what is to be applied are a beginning of what is committed
joined : (committed : List Entry) (a n : ℕ) → a ≤ length committed → n ≤ length committed → (j : ℕ) × (j ≤ length committed) × (take a committed ++ drop a (take n committed) ≡ take j committed)
joined committed a n la ln = go (nat_le a n) refl
  where
    go : (b : Bool) → nat_le a n ≡ b → (j : ℕ) × (j ≤ length committed) × (take a committed ++ drop a (take n committed) ≡ take j committed)
    go true e =
        let l : a ≤ n = leb-true a n e in
        let t : take a (take n committed) ≡ take a committed = take-take a n committed l in
        (n, ln, ap (λ xs. xs ++ drop a (take n committed)) (sym t) ∙ take-append-drop a (take n committed))
    go false e =
        let long = length-take-le n committed ln in
        let d : drop a (take n committed) ≡ [] = drop_of_length-le (take n committed) (let b : n < a = above e in omega (arith, b, long)) in
        (a, la, ap (λ xs. take a committed ++ xs) d ∙ append-nil (take a committed))
      where
        above : nat_le a n ≡ false → n < a
        above f = grind (arith, nat_tests)

goes_to : (timeout : ℕ) (items : List Item) (committed : List Entry) (n : nodes.Node) (cs : List gates.Connection) (s : sessions.Sessions) → true_servers.IsAppliedOf timeout committed s → laws.IsCommittedLog committed n → GoesTo timeout items committed (server_steps.applying_all n cs s (server_steps.to_apply n s))
goes_to timeout items committed n cs s k l =
    let done : List Entry = take s.applied committed in
    let es : List Entry = drop s.applied (take n.commit committed) in
    let j = joined committed s.applied n.commit k.within l.within in
    let front : List Entry = take j.0 committed in
    let a = entries_answer_truly timeout done es items n cs in
    let same : server_steps.applying_all n cs s (server_steps.to_apply n s) ≡ server_steps.applying_all n cs (folds.sessions_after timeout done) es = ap₂ (λ x xs. server_steps.applying_all n cs x xs) k.state (ap (drop s.applied) l.same) in
    let reached : (server_steps.applying_all n cs (folds.sessions_after timeout done) es).state ≡ folds.sessions_after timeout front = a.state ∙ ap (folds.sessions_after timeout) j.2 in
    let f = state_tells_fold timeout front in
    let long : (folds.sessions_after timeout front).applied ≡ j.0 = f.applied ∙ (whole timeout front).acts.long ∙ length-take-le j.0 committed j.1 in
    let cut : committed ≡ front ++ drop j.0 committed = sym (take-append-drop j.0 committed) in
    subst (GoesTo timeout items committed) (sym same) (record {
      applied = subst (true_servers.IsAppliedOf timeout committed) (sym reached) (record {
        within = let b = j.1 in omega (arith, long, b);
        state = ap (λ x. folds.sessions_after timeout (take x committed)) (sym long);
      });
      before = kept_stores.acts_of timeout front;
      after = kept_stores.acts_from (folds.sessions_after timeout front) (drop j.0 committed);
      whole = ap (kept_stores.acts_of timeout) cut ∙ acts_split (sessions.new_sessions timeout) front (drop j.0 committed);
      tells = subst (folds.TellsFold (kept_stores.acts_of timeout front)) (sym reached) f;
      packets = subst (λ xs. laws.AreTruePackets items (kept_stores.acts_of timeout xs) (server_steps.applying_all n cs (folds.sessions_after timeout done) es).packets) j.2 a.packets;
    })

pub servers_send_truth : laws.ServersSendTruth
servers_send_truth timeout items committed s i k m =
    let t : servers.Task = servers.task s i in
    let g : server_steps.Stage = server_steps.stage s t in
    let n : nodes.Node = g.raft in
    let to = task_true items s i m.right in
    let p = goes_to timeout items committed n g.connections s.state k.applied m.log in
    let ws : List gates.WaitingQuery = server_steps.with_reading s.readings n.ballot.term t.read g.out.reached in
    let r = step_readings items s.raft n g.out.reads s.readings t.read g.out.reached (λ e. leads_on s.raft t.input (task_none items s i m.right e) e) k.idle to.read m.reach k.readings in
    let gate : AllByRecursion (true_servers.IsHeldTrue items) g.gate = gate_with items s.gate (t.held ++ gates.ready_held ws g.out.reads) k.gate (all_append (true_servers.IsHeldTrue items) t.held (gates.ready_held ws g.out.reads) to.held (ready_true items n g.out.reads ws r m.reads)) in
    let queries : List Packet = map (server_steps.query_answer n g.progress.state) (gates.let_through (sessions.is_ready g.progress.state) g.gate) in
    let hearings : List Packet = server_steps.hearing_answer n g.progress.state t.hearing in
    let told : laws.AreTruePackets items p.before (g.progress.packets ++ queries ++ hearings) =
    all_append (λ x. laws.IsTrueTo items p.before x.to x.payload) (g.progress.packets ++ queries) hearings
    (all_append (λ x. laws.IsTrueTo items p.before x.to x.payload) g.progress.packets queries p.packets (queries_sent items p.before n g.progress.state g.gate p.tells gate)) (hearing_sent items p.before n g.progress.state t.hearing p.tells) in
    let h : List (ℕ × Act) = kept_stores.acts_of timeout committed in
    let all : laws.AreTruePackets items h (g.progress.packets ++ queries ++ hearings) = subst (λ x. laws.AreTruePackets items x (g.progress.packets ++ queries ++ hearings)) (sym p.whole) (packets_grow items p.before p.after (g.progress.packets ++ queries ++ hearings) told) in
    let raft = to_nodes items h g.out.packets (all_raft_sends s.raft t.input) in
    let passed = to_nodes items h t.passed (all_since (λ x. passing.IsToNode x.to × (Some x.payload ≡ passing.payload_brought i)) (λ x. passing.IsToNode x.to) (λ x y. y.0) t.passed (task_passes s i)) in
    record {
      server = record {
        applied = p.applied;
        gate = all_filter (true_servers.IsHeldTrue items) (λ x. not (gates.is_ready_for (sessions.is_ready g.progress.state) x)) g.gate gate;
        readings = readings_true items n g.out.reads ws r;
        idle = λ e. ap (λ b. cond b (gates.without_ready ws g.out.reads) []) e;
      };
      packets = subst (laws.AreTruePackets items h) (regrouped g.out.packets t.passed g.progress.packets queries hearings)
          (all_append (λ x. laws.IsTrueTo items h x.to x.payload) (g.out.packets ++ t.passed) (g.progress.packets ++ queries ++ hearings) (all_append (λ x. laws.IsTrueTo items h x.to x.payload) g.out.packets t.passed raft passed) all);
    }
  where
    regrouped : {X : Type 0} (a b c d e : List X) → (a ++ b) ++ (c ++ d ++ e) ≡ a ++ b ++ c ++ d ++ e
    regrouped a b c d e = simp append_assoc
