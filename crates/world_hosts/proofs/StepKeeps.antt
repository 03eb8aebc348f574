-- What a step saves leads from what its node kept to what it keeps after the step, and what it cuts off was in conflict.
use Rattle.std.proofs.Common.{◌≡◌, ℕ, zero, suc, ◌+◌, ◌-◌, ◌≤◌, ◌⊎◌, inl, inr, Bool, true, false, Option, Some, None, List, [], ◌∷◌, ◌++◌, length, drop, refl, ap, sym, ◌∙◌, subst, arith}
use Rattle.std.specs.Prelude.{◌&&◌, not, nat_eq, nat_lt, if◌then◌else◌}
use Rattle.std.proofs.lemmas.List.{append-nil}
use Rattle.std.proofs.lemmas.Bool.Decides.{nat_tests}
use Rattle.ax_types.specs.declared.entries.Body.{Body}
use Rattle.ax_types.specs.declared.entries.Body.TheVariants as body
use Rattle.ax_types.specs.declared.entries.Entry.{Entry}
use Rattle.ax_types.specs.declared.entries.Loaded.{Loaded}
use Rattle.ax_types.specs.declared.ids.End.{End}
use Rattle.ax_types.specs.declared.ids.End.TheVariants as end
use Rattle.ax_types.specs.declared.ops.Level.{Level}
use Rattle.ax_types.specs.declared.ops.Level.TheVariants as level
use Rattle.ax_types.specs.declared.packets.Payload.{Payload}
use Rattle.ax_types.specs.declared.packets.Payload.TheVariants as payload
use Rattle.ax_types.specs.declared.raft.RaftInput.{RaftInput}
use Rattle.ax_types.specs.declared.raft.RaftInput.TheVariants as input
use Rattle.ax_types.specs.declared.sessions.Held.{Held}
use Rattle.ax_types.specs.declared.sessions.ServerInput.{ServerInput}
use Rattle.ax_types.specs.declared.sessions.ServerInput.TheVariants as asks
use Rattle.spec_raft.specs.Majority as majorities
use Rattle.spec_raft.specs.Log as logs
use Rattle.spec_raft.specs.Ballot as ballots
use Rattle.spec_raft.specs.Progress as progress
use Rattle.spec_node.specs.Node as nodes
use Rattle.spec_node.specs.NodeStep as steps
use Rattle.spec_node.specs.Saving as saving
use Rattle.spec_sessions.specs.Sessions as sessions
use Rattle.spec_server.specs.Servers as servers
use Rattle.spec_server.specs.ServerStep as server_steps
use Rattle.world_saves.specs.Replacing as replacing
use Rattle.world_saves.specs.declared.replaced.Replaced.{Replaced}
use Rattle.world_saves.proofs.Remains.{all_is, cut_log, voted}
use Rattle.world_hosts.specs.InConflict as conflicts
use Rattle.world_hosts.specs.HostSteps as host_steps

by_if : {A : Type 0} (P : A → Type 0) (b : Bool) (x y : A) → P x → P y → P (if b then x else y)
by_if P true x y f g = f
by_if P false x y f g = g

-- what a rule does to the log, where it cuts, and that the node's number and the size of the cluster stay
record Keeps (b : ballots.Ballot) (log : List Entry) (conflict : Option ℕ) (d : nodes.Did) : Type 0 where
  pub me : d.node.ballot.me ≡ b.me
  pub size : d.node.ballot.nodes ≡ b.nodes
  pub grows : d.node.log ≡ logs.cut_before log d.cut ++ d.add
  pub cuts : (d.cut ≡ None) ⊎ (d.cut ≡ conflict)

-- a rule that keeps no entries, and one that adds some
plain : (b : ballots.Ballot) (log : List Entry) (c : Option ℕ) (d : nodes.Did) → d.node.ballot.me ≡ b.me → d.node.ballot.nodes ≡ b.nodes → d.cut ≡ None → d.add ≡ [] → d.node.log ≡ log → Keeps b log c d
plain b log c d me size e f g = record {
  me = me;
  size = size;
  grows = g ∙ sym (append-nil log) ∙ ap (λ es. log ++ es) (sym f) ∙ ap (λ o. logs.cut_before log o ++ d.add) (sym e);
  cuts = inl e;
}

grown : (b : ballots.Ballot) (log : List Entry) (c : Option ℕ) (d : nodes.Did) → d.node.ballot.me ≡ b.me → d.node.ballot.nodes ≡ b.nodes → d.cut ≡ None → d.node.log ≡ log ++ d.add → Keeps b log c d
grown b log c d me size e g = record { me = me; size = size; grows = g ∙ ap (λ o. logs.cut_before log o ++ d.add) (sym e); cuts = inl e }

seen_log : (n : nodes.Node) (term : ℕ) → (nodes.seen n term).log ≡ n.log
seen_log n term = by_if (λ (m : nodes.Node). m.log ≡ n.log) (ballots.is_above n.ballot term) _ n refl refl

candidacy_keeps : (n : nodes.Node) (clock : ℕ) → Keeps n.ballot n.log None (nodes.candidacy n clock)
candidacy_keeps n clock =
    let m = nodes.candidate n in
    by_if (Keeps n.ballot n.log None) (ballots.is_elected m.ballot) (nodes.led m clock) (nodes.sending m (nodes.vote_requests m)) (grown n.ballot n.log None (nodes.led m clock) refl refl refl refl) (plain n.ballot n.log None (nodes.sending m (nodes.vote_requests m)) refl refl refl refl refl)

read_keeps : (n : nodes.Node) → Keeps n.ballot n.log None (nodes.read_arrived n)
read_keeps n =
    by_if (Keeps n.ballot n.log None) (progress.has_read_room n.leading.reads) _ (nodes.nothing_done n) (plain n.ballot n.log None _ refl refl refl refl refl) (plain n.ballot n.log None (nodes.nothing_done n) refl refl refl refl refl)

vote_counted_keeps : (n : nodes.Node) (from clock : ℕ) → Keeps n.ballot n.log None (nodes.vote_counted n from clock)
vote_counted_keeps n from clock =
    let m : nodes.Node = record n { ballot = ballots.counted n.ballot from } in
    let me : m.ballot.me ≡ n.ballot.me = by_if (λ (b : ballots.Ballot). b.me ≡ n.ballot.me) (majorities.is_in n.ballot.votes from) _ _ refl refl in
    let size : m.ballot.nodes ≡ n.ballot.nodes = by_if (λ (b : ballots.Ballot). b.nodes ≡ n.ballot.nodes) (majorities.is_in n.ballot.votes from) _ _ refl refl in
    by_if (Keeps n.ballot n.log None) (ballots.is_winning n.ballot from) (nodes.led m clock) (nodes.nothing_done m)
    (grown n.ballot n.log None (nodes.led m clock) me size refl refl)
    (plain n.ballot n.log None (nodes.nothing_done m) me size refl refl refl)

vote_heeded_keeps : (n : nodes.Node) (from clock term : ℕ) (given : Bool) → Keeps n.ballot n.log None (nodes.vote_heeded n from clock term given)
vote_heeded_keeps n from clock term given =
    by_if (Keeps n.ballot n.log None) (nat_eq term n.ballot.term && nodes.is_candidate n && given) (nodes.vote_counted n from clock) (nodes.nothing_done n) (vote_counted_keeps n from clock) (plain n.ballot n.log None (nodes.nothing_done n) refl refl refl refl refl)

followed_keeps : (n : nodes.Node) (from prev prev_term commit round : ℕ) (es : List Entry) → Keeps n.ballot n.log (logs.first_conflict n.log prev es) (nodes.append_followed n from prev prev_term commit round es)
followed_keeps n from prev prev_term commit round es =
    let P = Keeps n.ballot n.log (logs.first_conflict n.log prev es) in
    by_if P (not (logs.match_at n.log prev prev_term)) _ _
    (plain n.ballot n.log (logs.first_conflict n.log prev es) _ refl refl refl refl refl)
    (by_if P (nodes.is_committed n (logs.first_conflict n.log prev es)) (nodes.nothing_done n) (nodes.sent_taken n from prev commit round es)
    (plain n.ballot n.log (logs.first_conflict n.log prev es) (nodes.nothing_done n) refl refl refl refl refl)
    (record { me = refl; size = refl; grows = refl; cuts = inr refl }))

append_heeded_keeps : (n : nodes.Node) (from term prev prev_term commit round : ℕ) (es : List Entry) → Keeps n.ballot n.log (logs.first_conflict n.log prev es) (nodes.append_heeded n from term prev prev_term commit round es)
append_heeded_keeps n from term prev prev_term commit round es =
    let P = Keeps n.ballot n.log (logs.first_conflict n.log prev es) in
    by_if P (nat_lt term n.ballot.term) _ _
    (plain n.ballot n.log (logs.first_conflict n.log prev es) _ refl refl refl refl refl)
    (by_if P (nodes.is_leader n) (nodes.nothing_done n) (nodes.append_followed (nodes.followed n from) from prev prev_term commit round es)
    (plain n.ballot n.log (logs.first_conflict n.log prev es) (nodes.nothing_done n) refl refl refl refl refl)
    (followed_keeps (nodes.followed n from) from prev prev_term commit round es))

accepted_keeps : (n : nodes.Node) (from place round : ℕ) → Keeps n.ballot n.log None (nodes.append_accepted n from place round)
accepted_keeps n from place round =
    by_if (Keeps n.ballot n.log None) (progress.is_accepted n.leading.peers from place (length n.log)) _ _ (plain n.ballot n.log None _ refl refl refl refl refl) (plain n.ballot n.log None _ refl refl refl refl refl)

refused_keeps : (n : nodes.Node) (from place round : ℕ) → Keeps n.ballot n.log None (nodes.append_refused n from place round)
refused_keeps n from place round =
    by_if (Keeps n.ballot n.log None) (progress.is_refused n.leading.peers from place) _ _ (plain n.ballot n.log None _ refl refl refl refl refl) (plain n.ballot n.log None _ refl refl refl refl refl)

answered_keeps : (n : nodes.Node) (from term : ℕ) (ok : Bool) (place round : ℕ) → Keeps n.ballot n.log None (nodes.append_answered n from term ok place round)
answered_keeps n from term ok place round =
    by_if (Keeps n.ballot n.log None) (nodes.is_leader n && nat_eq term n.ballot.term) _ (nodes.nothing_done n)
    (by_if (Keeps n.ballot n.log None) ok (nodes.append_accepted n from place round) (nodes.append_refused n from place round) (accepted_keeps n from place round) (refused_keeps n from place round))
    (plain n.ballot n.log None (nodes.nothing_done n) refl refl refl refl refl)

-- a term is seen first
seen_ballot : (b : ballots.Ballot) (term : ℕ) → ((ballots.seen_ballot b term).me ≡ b.me) × ((ballots.seen_ballot b term).nodes ≡ b.nodes)
seen_ballot b term = by_if (λ (x : ballots.Ballot). (x.me ≡ b.me) × (x.nodes ≡ b.nodes)) (ballots.is_above b term) _ b (refl, refl) (refl, refl)

seen_number : (n : nodes.Node) (term : ℕ) → ((nodes.seen n term).ballot.me ≡ n.ballot.me) × ((nodes.seen n term).ballot.nodes ≡ n.ballot.nodes)
seen_number n term = by_if (λ (m : nodes.Node). (m.ballot.me ≡ n.ballot.me) × (m.ballot.nodes ≡ n.ballot.nodes)) (ballots.is_above n.ballot term) _ n (seen_ballot n.ballot term) (refl, refl)

after_seen : (n : nodes.Node) (term : ℕ) (c : List Entry → Option ℕ) (d : nodes.Did) → Keeps (nodes.seen n term).ballot (nodes.seen n term).log (c (nodes.seen n term).log) d → Keeps n.ballot n.log (c n.log) d
after_seen n term c d k =
    let m : Keeps (nodes.seen n term).ballot n.log (c n.log) d = subst (λ log. Keeps (nodes.seen n term).ballot log (c log) d) (seen_log n term) k in
    let s = seen_number n term in
    record { me = m.me ∙ s.0; size = m.size ∙ s.1; grows = m.grows; cuts = m.cuts }

-- a vote is given
vote_asked_keeps : (n : nodes.Node) (from term last last_term : ℕ) → Keeps n.ballot n.log None (nodes.vote_asked n from term last last_term)
vote_asked_keeps n from term last last_term =
    let s : ((ballots.granted n.ballot n.log term from last last_term).me ≡ n.ballot.me) × ((ballots.granted n.ballot n.log term from last last_term).nodes ≡ n.ballot.nodes) =
    by_if (λ (x : ballots.Ballot). (x.me ≡ n.ballot.me) × (x.nodes ≡ n.ballot.nodes)) (ballots.is_granted n.ballot n.log term from last last_term) _ n.ballot (refl, refl) (refl, refl) in
    plain n.ballot n.log None (nodes.vote_asked n from term last last_term) s.0 s.1 refl refl refl

packet_keeps : (n : nodes.Node) (from clock : ℕ) (p : Payload) → Keeps n.ballot n.log (conflicts.payload_conflict n.log p) (steps.packet_heeded n from clock p)
packet_keeps n from clock (payload.Vote term last last_term) = after_seen n term (λ log. None) _ (vote_asked_keeps (nodes.seen n term) from term last last_term)
packet_keeps n from clock (payload.VoteReply term given) = after_seen n term (λ log. None) _ (vote_heeded_keeps (nodes.seen n term) from clock term given)
packet_keeps n from clock (payload.Append term prev prev_term commit round es) =
    after_seen n term (λ log. logs.first_conflict log prev es) _ (append_heeded_keeps (nodes.seen n term) from term prev prev_term commit round es)
packet_keeps n from clock (payload.AppendReply term ok place round) = after_seen n term (λ log. None) _ (answered_keeps (nodes.seen n term) from term ok place round)
packet_keeps n from clock _ = plain n.ballot n.log None (nodes.nothing_done n) refl refl refl refl refl

abbrev input_conflict : List Entry → RaftInput → Option ℕ
input_conflict log (input.Message from clock p) = conflicts.payload_conflict log p
input_conflict log _ = None

did_keeps : (n : nodes.Node) (i : RaftInput) → Keeps n.ballot n.log (input_conflict n.log i) (steps.did n i)
did_keeps n (input.Elect clock) = candidacy_keeps n clock
did_keeps n input.Beat = plain n.ballot n.log None (nodes.beaten n) refl refl refl refl refl
did_keeps n (input.Append clock bodies) = grown n.ballot n.log None (nodes.appended n clock bodies) refl refl refl refl
did_keeps n input.Read = read_keeps n
did_keeps n (input.Message from clock p) = packet_keeps n from clock p

-- the vote that is saved is that of the node after the step
same_votes : (a b : Option ℕ) → steps.same_vote a b ≡ true → a ≡ b
same_votes None None e = refl
same_votes None (Some k) e = absurd (cc (e))
same_votes (Some j) None e = absurd (cc (e))
same_votes (Some j) (Some k) e = ap (λ i. Some i) (grind (arith, nat_tests, e))

both : (a b : Bool) → (a && b) ≡ true → (a ≡ true) × (b ≡ true)
both true b e = (refl, e)
both false b e = (e, absurd (cc (e)))

same_number : (a b : ℕ) → nat_eq a b ≡ true → a ≡ b
same_number a b e = grind (arith, nat_tests, e)

vote_kept : (n a : nodes.Node) → voted (steps.vote_save n a) (nodes.kept_of n) ≡ record { term = a.ballot.term; vote = a.ballot.vote; log = n.log }
vote_kept n a = by_cases (nat_eq n.ballot.term a.ballot.term && steps.same_vote n.ballot.vote a.ballot.vote) refl
  where
    by_cases : (b : Bool) → (nat_eq n.ballot.term a.ballot.term && steps.same_vote n.ballot.vote a.ballot.vote) ≡ b
        → voted (if b then None else Some (a.ballot.term, a.ballot.vote)) (nodes.kept_of n) ≡ record { term = a.ballot.term; vote = a.ballot.vote; log = n.log }
    by_cases true e =
        let p = both (nat_eq n.ballot.term a.ballot.term) (steps.same_vote n.ballot.vote a.ballot.vote) e in
        (λ i. record { term = same_number n.ballot.term a.ballot.term p.0 i; vote = same_votes n.ballot.vote a.ballot.vote p.1 i; log = n.log })
    by_cases false e = refl

cut_kept : (o : Option ℕ) (log : List Entry) → cut_log (steps.cut_save o) log ≡ logs.cut_before log o
cut_kept None log = refl
cut_kept (Some p) log = refl

saves_lead : (n : nodes.Node) (d : nodes.Did) (c : Option ℕ) → Keeps n.ballot n.log c d → nodes.kept_of d.node ≡ saving.all_saved (nodes.kept_of n) (saving.calls_of (steps.saves_of n d))
saves_lead n d c k =
    sym (all_is (steps.vote_save n d.node) (steps.cut_save d.cut) d.add (nodes.kept_of n)
    ∙ ap (λ (v : Loaded). let l : Loaded = record v { log = cut_log (steps.cut_save d.cut) n.log ++ d.add } in l) (vote_kept n d.node)
    ∙ ap (λ log. let l : Loaded = record { term = d.node.ballot.term; vote = d.node.ballot.vote; log = log } in l) (ap (λ log. log ++ d.add) (cut_kept d.cut n.log) ∙ sym k.grows))

-- what an input of a server is to its Raft node
abbrev task_conflict : List Entry → Option RaftInput → Option ℕ
task_conflict log None = None
task_conflict log (Some i) = input_conflict log i

record Saved (s : servers.Server) (conflict : Option ℕ) (o : Option RaftInput) : Type 0 where
  pub me : (server_steps.raft_after s.raft o).ballot.me ≡ s.raft.ballot.me
  pub size : (server_steps.raft_after s.raft o).ballot.nodes ≡ s.raft.ballot.nodes
  pub leads : nodes.kept_of (server_steps.raft_after s.raft o) ≡ saving.all_saved (nodes.kept_of s.raft) (saving.calls_of (server_steps.raft_out s.raft o).saves)
  pub cut : ((server_steps.raft_out s.raft o).saves.cut ≡ None) ⊎ ((server_steps.raft_out s.raft o).saves.cut ≡ steps.cut_save conflict)

raft_saves : (s : servers.Server) (o : Option RaftInput) → Saved s (task_conflict s.raft.log o) o
raft_saves s None = record { me = refl; size = refl; leads = refl; cut = inl refl }
raft_saves s (Some i) =
    let k = did_keeps s.raft i in
    record {
      me = k.me;
      size = k.size;
      leads = saves_lead s.raft (steps.did s.raft i) (input_conflict s.raft.log i) k;
      cut = elim k.cuts [ inl e ↦ inl (ap steps.cut_save e) | inr e ↦ inr (ap steps.cut_save e) ];
    }

-- the conflict that a task may have is that of the input
abbrev FitsConflict : Option ℕ → Option ℕ → Type 0
FitsConflict a b = (a ≡ None) ⊎ (a ≡ b)

logged_fits : (s : servers.Server) (log : List Entry) (clock : ℕ) (from : End) (p : Payload) (b : Body) (c : Option ℕ) → FitsConflict (task_conflict log (servers.logged s clock from p b).input) c
logged_fits s log clock from p b c = by_if (λ (t : servers.Task). FitsConflict (task_conflict log t.input) c) (servers.leads s) _ _ (inl refl) (passed from)
  where
    passed : (from : End) → FitsConflict (task_conflict log (servers.passed_on s from p).input) c
    passed (end.Node k) = inl refl
    passed (end.Client d) = inl refl

asked_fits : (s : servers.Server) (log : List Entry) (from : End) (p : Payload) (l : Level) (h : Held) (c : Option ℕ) → FitsConflict (task_conflict log (servers.asked_at s from p l h).input) c
asked_fits s log from p level.Seq h c = inl refl
asked_fits s log from p level.Lin h c = by_if (λ (t : servers.Task). FitsConflict (task_conflict log t.input) c) (servers.leads s) _ _ (inl refl) (passed from)
  where
    passed : (from : End) → FitsConflict (task_conflict log (servers.passed_on s from p).input) c
    passed (end.Node k) = inl refl
    passed (end.Client d) = inl refl

message_fits : (log : List Entry) (clock : ℕ) (from : End) (p : Payload) → FitsConflict (task_conflict log (servers.raft_message clock from p).input) (conflicts.payload_conflict log p)
message_fits log clock (end.Node k) p = inr refl
message_fits log clock (end.Client c) p = inl refl

packet_fits : (s : servers.Server) (log : List Entry) (clock : ℕ) (from : End) (p : Payload) → FitsConflict (task_conflict log (servers.packet_task s clock from p).input) (conflicts.payload_conflict log p)
packet_fits s log clock from (payload.Vote t l lt) = message_fits log clock from (payload.Vote t l lt)
packet_fits s log clock from (payload.VoteReply t g) = message_fits log clock from (payload.VoteReply t g)
packet_fits s log clock from (payload.Append t p pt c r es) = message_fits log clock from (payload.Append t p pt c r es)
packet_fits s log clock from (payload.AppendReply t ok p r) = message_fits log clock from (payload.AppendReply t ok p r)
packet_fits s log clock from (payload.Register c o) = logged_fits s log clock from (payload.Register c o) (body.Register c o) None
packet_fits s log clock from (payload.Keep c session answered heard) = logged_fits s log clock from (payload.Keep c session answered heard) (body.Keep c session answered heard) None
packet_fits s log clock from (payload.Command c session seq name o) = logged_fits s log clock from (payload.Command c session seq name o) (body.Command c session seq name o) None
packet_fits s log clock from (payload.Close c session) = logged_fits s log clock from (payload.Close c session) (body.Close c session) None
packet_fits s log clock from (payload.Query c session call l seen seq name q) =
    asked_fits s log from (payload.Query c session call l seen seq name q) l (record { client = c; session = session; call = call; place = seen; seq = seq; level = l; reach = None; name = name; query = q }) None
packet_fits s log clock from (payload.Connect c session heard) = inl refl
packet_fits s log clock from (payload.Reset c session heard) = inl refl
packet_fits s log clock from _ = inl refl

check_fits : (log : List Entry) (due : List ℕ) (clock : ℕ) → FitsConflict (task_conflict log (servers.expiries due clock).input) None
check_fits log [] clock = inl refl
check_fits log (d ∷ due) clock = inl refl

task_fits : (s : servers.Server) (log : List Entry) (i : ServerInput) → FitsConflict (task_conflict log (servers.task s i).input) (conflicts.conflict_with log i)
task_fits s log (asks.Elect clock) = inl refl
task_fits s log (asks.Beat clock) = inl refl
task_fits s log (asks.Check clock) = check_fits log (sessions.due_sessions s.state (nodes.time_for s.raft clock)) clock
task_fits s log (asks.Packet clock p) = packet_fits s log clock p.«from» p.payload

-- a conflict lies within the log
abbrev AtMost : ℕ → Option ℕ → Type 0
AtMost n None = Unit {0}
AtMost n (Some q) = q ≤ n

after_within : (p : ℕ) (xs sent : List Entry) → AtMost (p + length xs) (logs.conflict_after p xs sent)
after_within p [] sent = tt
after_within p (x ∷ xs) [] = tt
after_within p (x ∷ xs) (e ∷ sent) =
    by_if (AtMost (p + length (x ∷ xs))) (nat_eq x.term e.term) (logs.conflict_after (suc p) xs sent) (Some (suc p))
    (subst (λ n. AtMost n (logs.conflict_after (suc p) xs sent)) (omega arith) (after_within (suc p) xs sent))
    (omega arith)

drop_within : (a n : ℕ) (log sent : List Entry) → AtMost (a + length log) (logs.conflict_after (a + n) (drop n log) sent)
drop_within a zero log sent = subst (λ p. AtMost (a + length log) (logs.conflict_after p log sent)) (omega arith) (after_within a log sent)
drop_within a (suc n) [] sent = tt
drop_within a (suc n) (x ∷ log) sent =
    subst (λ p. AtMost (a + length (x ∷ log)) (logs.conflict_after p (drop n log) sent)) (omega arith)
    (subst (λ m. AtMost m (logs.conflict_after (suc a + n) (drop n log) sent)) (omega arith) (drop_within (suc a) n log sent))

conflict_within : (log : List Entry) (prev : ℕ) (sent : List Entry) → AtMost (length log) (logs.first_conflict log prev sent)
conflict_within log prev sent =
    subst (λ p. AtMost (length log) (logs.conflict_after p (drop prev log) sent)) (omega arith)
    (subst (λ m. AtMost m (logs.conflict_after (0 + prev) (drop prev log) sent)) (omega arith) (drop_within 0 prev log sent))

payload_within : (log : List Entry) (p : Payload) → AtMost (length log) (conflicts.payload_conflict log p)
payload_within log (payload.Append term prev prev_term commit round es) = conflict_within log prev es
payload_within log _ = tt

input_within : (log : List Entry) (i : ServerInput) → AtMost (length log) (conflicts.conflict_with log i)
input_within log (asks.Packet clock p) = payload_within log p.payload
input_within log _ = tt

-- a cut, where it is one at the conflict
cut_off_is : (cut conflict : Option ℕ) (log es : List Entry) → (cut ≡ None) ⊎ (cut ≡ steps.cut_save conflict) → es ≡ conflicts.tail_from log conflict → replacing.AreCutOff cut log es
cut_off_is None c log es h e = tt
cut_off_is (Some last) None log es (inl h) e = cc
cut_off_is (Some last) None log es (inr h) e = cc
cut_off_is (Some last) (Some p) log es (inl h) e = cc
cut_off_is (Some last) (Some p) log es (inr h) e = e ∙ ap (λ n. drop n log) (sym (same_some last (p - 1) h))
  where
    same_some : (a b : ℕ) → Some a ≡ Some b → a ≡ b
    same_some a b h = cc

cuts_log : (cut conflict : Option ℕ) (log : List Entry) → (cut ≡ None) ⊎ (cut ≡ steps.cut_save conflict) → AtMost (length log) conflict → host_steps.CutsLog cut log
cuts_log None c log h a = tt
cuts_log (Some last) None log (inl h) a = cc
cuts_log (Some last) None log (inr h) a = cc
cuts_log (Some last) (Some p) log (inl h) a = cc
cuts_log (Some last) (Some p) log (inr h) a = omega (arith, a, same_some last (p - 1) h)
  where
    same_some : (a b : ℕ) → Some a ≡ Some b → a ≡ b
    same_some a b h = cc

fits_cut : (cut a b : Option ℕ) → (cut ≡ None) ⊎ (cut ≡ steps.cut_save a) → FitsConflict a b → (cut ≡ None) ⊎ (cut ≡ steps.cut_save b)
fits_cut cut a b (inl e) f = inl e
fits_cut cut a b (inr e) (inl f) = inl (e ∙ ap steps.cut_save f)
fits_cut cut a b (inr e) (inr f) = inr (e ∙ ap steps.cut_save f)

-- what was set aside before a step is what the step may replace
pub set_aside : (s : servers.Server) (i : ServerInput) (r : Replaced) → r.term ≡ s.raft.ballot.term → r.vote ≡ s.raft.ballot.vote → r.cut_off ≡ conflicts.tail_from s.raft.log (conflicts.conflict_with s.raft.log i)
    → host_steps.IsReplacedBy s i r
set_aside s i r e f g =
    let o = (servers.task s i).input in
    let k = raft_saves s o in
    let cut = fits_cut (server_steps.raft_out s.raft o).saves.cut (task_conflict s.raft.log o) (conflicts.conflict_with s.raft.log i) k.cut (task_fits s s.raft.log i) in
    record {
      leads = record {
        replaced = record { term = e; vote = f; cut_off = cut_off_is (server_steps.raft_out s.raft o).saves.cut (conflicts.conflict_with s.raft.log i) s.raft.log r.cut_off cut g };
        all = k.leads;
      };
      within = cuts_log (server_steps.raft_out s.raft o).saves.cut (conflicts.conflict_with s.raft.log i) s.raft.log cut (input_within s.raft.log i);
    }

-- a step changes neither the node's number nor the size of the cluster
pub number_stays : (s : servers.Server) (i : ServerInput) → ((server_steps.server_after s i).raft.ballot.me ≡ s.raft.ballot.me) × ((server_steps.server_after s i).raft.ballot.nodes ≡ s.raft.ballot.nodes)
number_stays s i = let k = raft_saves s (servers.task s i).input in (k.me, k.size)
