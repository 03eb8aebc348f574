-- A step of a node keeps its number and the size of the cluster, and its packets go from it to others.
use Rattle.std.proofs.Common.{◌≡◌, ℕ, List, [], ◌∷◌, length, map, refl, ap, ◌∙◌}
use Rattle.std.specs.Prelude.{◌≢◌, Bool, true, false, ◌&&◌, not, nat_eq, nat_lt, nat_le, min, Option, Some, None, filter, suc, ◌-◌, if◌then◌else◌}
use Rattle.std.specs.List.{AllByRecursion}
use Rattle.ax_types.specs.declared.entries.Entry.{Entry}
use Rattle.ax_types.specs.declared.ids.End.TheVariants as end
use Rattle.ax_types.specs.declared.packets.Packet.{Packet}
use Rattle.ax_types.specs.declared.packets.Payload.{Payload}
use Rattle.ax_types.specs.declared.packets.Payload.TheVariants as payload
use Rattle.ax_types.specs.declared.raft.RaftInput.{RaftInput}
use Rattle.ax_types.specs.declared.raft.RaftInput.TheVariants as asked
use Rattle.spec_raft.specs.Majority as majorities
use Rattle.spec_raft.specs.Log as logs
use Rattle.spec_raft.specs.Ballot as votes
use Rattle.spec_raft.specs.Progress as progress
use Rattle.spec_node.specs.Node as nodes
use Rattle.spec_node.specs.NodeStep as steps
use Rattle.law_refinement.proofs.Tests.{by_test}
use Rattle.law_agreement.proofs.Tests.{unequal}
use Rattle.raft_world.specs.Between.{IsNamed}

-- a packet goes from this node to another
abbrev pub IsFrom : ℕ → Packet → Type 0
IsFrom me p = (k : ℕ) × (p.«from» ≡ end.Node me) × (p.to ≡ end.Node k) × (me ≢ k)

pub record Stays (me size : ℕ) (d : nodes.Did) : Type 0 where
  pub named : IsNamed me size d.node
  pub packets : AllByRecursion (IsFrom me) d.packets

-- where an input comes from
abbrev pub MayCome : ℕ → RaftInput → Type 0
MayCome me (asked.Message from clock p) = me ≢ from
MayCome me i = Unit {0}

quiet : (me size : ℕ) (n : nodes.Node) → IsNamed me size n → Stays me size (nodes.nothing_done n)
quiet me size n h = record { named = h; packets = tt }

to : (me size : ℕ) (n : nodes.Node) (k : ℕ) (p : Payload) → IsNamed me size n → me ≢ k → IsFrom me (nodes.to_node n k p)
to me size n k p h ne = (k, ap (λ j. end.Node j) h.me, refl, ne)

-- each of the others is another
differ_case : (me k : ℕ) (ks : List ℕ) (b : Bool) → nat_eq k me ≡ b → AllByRecursion (λ j. me ≢ j) ks → AllByRecursion (λ j. me ≢ j) (if not b then k ∷ ks else ks)
differ_case me k ks true e a = a
differ_case me k ks false e a = ((λ (z : me ≡ k). unequal k me e (Rattle.std.proofs.Common.sym z)), a)

differ : (me : ℕ) (ks : List ℕ) → AllByRecursion (λ j. me ≢ j) (filter (λ k. not (nat_eq k me)) ks)
differ me [] = tt
differ me (k ∷ ks) = differ_case me k (filter (λ j. not (nat_eq j me)) ks) (nat_eq k me) refl (differ me ks)

others_differ : (me size : ℕ) (n : nodes.Node) → IsNamed me size n → AllByRecursion (λ j. me ≢ j) (nodes.each_other n)
others_differ me size n h = Rattle.std.proofs.Common.subst (λ j. AllByRecursion (λ k. me ≢ k) (majorities.others n.ballot.nodes j)) (Rattle.std.proofs.Common.sym h.me) (differ me (majorities.cluster_of n.ballot.nodes))

each_from : (me : ℕ) (f : ℕ → Packet) → ((k : ℕ) → me ≢ k → IsFrom me (f k)) → (ks : List ℕ) → AllByRecursion (λ k. me ≢ k) ks → AllByRecursion (IsFrom me) (map f ks)
each_from me f g [] a = tt
each_from me f g (k ∷ ks) a = (g k a.0, each_from me f g ks a.1)

led_stays : (me size : ℕ) (n : nodes.Node) (clock : ℕ) → IsNamed me size n → Stays me size (nodes.led n clock)
led_stays me size n clock h = record { named = record { me = h.me; size = h.size }; packets = tt }

candidacy_stays : (me size : ℕ) (n : nodes.Node) (clock : ℕ) → IsNamed me size n → Stays me size (nodes.candidacy n clock)
candidacy_stays me size n clock h =
    let c : nodes.Node = nodes.candidate n in
    let a : IsNamed me size c = record { me = h.me; size = h.size } in
    by_test (Stays me size) (votes.is_elected c.ballot) (nodes.led c clock) (nodes.sending c (nodes.vote_requests c)) (λ e. led_stays me size c clock a)
    (λ e. record { named = a; packets = each_from me (λ k. nodes.to_node c k (payload.Vote c.ballot.term (length c.log) (logs.last_term c.log))) (λ k ne. to me size c k (payload.Vote c.ballot.term (length c.log) (logs.last_term c.log)) a ne) (nodes.each_other c) (others_differ me size c a) })

beaten_stays : (me size : ℕ) (n : nodes.Node) → IsNamed me size n → Stays me size (nodes.beaten n)
beaten_stays me size n h =
    let t : nodes.Node = nodes.ticked n in
    let a : IsNamed me size t = record { me = h.me; size = h.size } in
    record { named = a; packets = each_from me (nodes.sent_to t) (λ k ne. (k, ap (λ j. end.Node j) h.me, refl, ne)) (nodes.each_other t) (others_differ me size t a) }

read_stays : (me size : ℕ) (n : nodes.Node) → IsNamed me size n → Stays me size (nodes.read_arrived n)
read_stays me size n h =
    by_test (Stays me size) (progress.has_read_room n.leading.reads) (record (nodes.nothing_done (nodes.read_taken n)) { reached = Some (suc n.leading.arrivals) }) (nodes.nothing_done n)
    (λ e. record { named = record { me = h.me; size = h.size }; packets = tt }) (λ e. quiet me size n h)

counted_stays : (me size : ℕ) (n : nodes.Node) (from clock : ℕ) → IsNamed me size n → Stays me size (nodes.vote_counted n from clock)
counted_stays me size n from clock h =
    let m : nodes.Node = record n { ballot = votes.counted n.ballot from } in
    let b : (votes.counted n.ballot from).me ≡ me = by_test (λ (x : votes.Ballot). x.me ≡ me) (majorities.is_in n.ballot.votes from) n.ballot (record n.ballot { votes = Rattle.std.specs.Prelude.◌++◌ n.ballot.votes (from ∷ []) }) (λ e. h.me) (λ e. h.me) in
    let s : (votes.counted n.ballot from).nodes ≡ size = by_test (λ (x : votes.Ballot). x.nodes ≡ size) (majorities.is_in n.ballot.votes from) n.ballot (record n.ballot { votes = Rattle.std.specs.Prelude.◌++◌ n.ballot.votes (from ∷ []) }) (λ e. h.size) (λ e. h.size) in
    let a : IsNamed me size m = record { me = b; size = s } in
    by_test (Stays me size) (votes.is_winning n.ballot from) (nodes.led m clock) (nodes.nothing_done m) (λ e. led_stays me size m clock a) (λ e. quiet me size m a)

vote_stays : (me size : ℕ) (n : nodes.Node) (from clock t : ℕ) (is_given : Bool) → IsNamed me size n → Stays me size (nodes.vote_heeded n from clock t is_given)
vote_stays me size n from clock t is_given h =
    by_test (Stays me size) (nat_eq t n.ballot.term && nodes.is_candidate n && is_given) (nodes.vote_counted n from clock) (nodes.nothing_done n) (λ e. counted_stays me size n from clock h) (λ e. quiet me size n h)

asked_stays : (me size : ℕ) (n : nodes.Node) (from t last last_term : ℕ) → IsNamed me size n → me ≢ from → Stays me size (nodes.vote_asked n from t last last_term)
asked_stays me size n from t last last_term h ne =
    let g : Bool = votes.is_granted n.ballot n.log t from last last_term in
    record {
      named = record {
        me = by_test (λ (x : votes.Ballot). x.me ≡ me) g (record n.ballot { vote = Some from }) n.ballot (λ e. h.me) (λ e. h.me);
        size = by_test (λ (x : votes.Ballot). x.nodes ≡ size) g (record n.ballot { vote = Some from }) n.ballot (λ e. h.size) (λ e. h.size);
      };
      packets = (to me size n from (payload.VoteReply n.ballot.term g) h ne, tt);
    }

replying_stays : (me size : ℕ) (n : nodes.Node) (from : ℕ) (ok : Bool) (place round : ℕ) → IsNamed me size n → me ≢ from → Stays me size (nodes.sending n (nodes.reply_to n from ok place round ∷ []))
replying_stays me size n from ok place round h ne = record { named = h; packets = (to me size n from (payload.AppendReply n.ballot.term ok place round) h ne, tt) }

taken_stays : (me size : ℕ) (n : nodes.Node) (from prev commit round : ℕ) (es : List Entry) → IsNamed me size n → me ≢ from → Stays me size (nodes.sent_taken n from prev commit round es)
taken_stays me size n from prev commit round es h ne = record { named = record { me = h.me; size = h.size }; packets = ((from, ap (λ j. end.Node j) h.me, refl, ne), tt) }

followed_stays : (me size : ℕ) (n : nodes.Node) (from prev prev_term commit round : ℕ) (es : List Entry) → IsNamed me size n → me ≢ from → Stays me size (nodes.append_followed n from prev prev_term commit round es)
followed_stays me size n from prev prev_term commit round es h ne =
    let later : nodes.Did = if nodes.is_committed n (logs.first_conflict n.log prev es) then nodes.nothing_done n else nodes.sent_taken n from prev commit round es in
    by_test (Stays me size) (not (logs.match_at n.log prev prev_term)) (nodes.sending n (nodes.reply_to n from false (min (prev - 1) (length n.log)) round ∷ [])) later
    (λ e. replying_stays me size n from false (min (prev - 1) (length n.log)) round h ne)
    (λ e. by_test (Stays me size) (nodes.is_committed n (logs.first_conflict n.log prev es)) (nodes.nothing_done n) (nodes.sent_taken n from prev commit round es) (λ f. quiet me size n h) (λ f. taken_stays me size n from prev commit round es h ne))

append_stays : (me size : ℕ) (n : nodes.Node) (from t prev prev_term commit round : ℕ) (es : List Entry) → IsNamed me size n → me ≢ from → Stays me size (nodes.append_heeded n from t prev prev_term commit round es)
append_stays me size n from t prev prev_term commit round es h ne =
    let f : nodes.Node = nodes.followed n from in
    let next : nodes.Did = nodes.append_followed f from prev prev_term commit round es in
    by_test (Stays me size) (nat_lt t n.ballot.term) (nodes.sending n (nodes.reply_to n from false 0 0 ∷ [])) (if nodes.is_leader n then nodes.nothing_done n else next)
    (λ e. replying_stays me size n from false 0 0 h ne)
    (λ e. by_test (Stays me size) (nodes.is_leader n) (nodes.nothing_done n) next (λ g. quiet me size n h) (λ g. followed_stays me size f from prev prev_term commit round es (record { me = h.me; size = h.size }) ne))

accepted_stays : (me size : ℕ) (n : nodes.Node) (from place round : ℕ) → IsNamed me size n → me ≢ from → Stays me size (nodes.append_accepted n from place round)
accepted_stays me size n from place round h ne =
    let m : nodes.Node = nodes.with_peers n (progress.accepted n.leading.peers from place round (length n.log)) in
    let a : nodes.Node = nodes.advanced m in
    by_test (Stays me size) (progress.is_accepted n.leading.peers from place (length n.log)) (nodes.sending a (nodes.more_to a from)) (nodes.nothing_done m)
    (λ e. record {
      named = record { me = h.me; size = h.size };
      packets = by_test (AllByRecursion (IsFrom me)) (nat_le (progress.next_place_of a.leading.peers from) (length a.log)) (nodes.sent_to a from ∷ []) [] (λ f. ((from, ap (λ j. end.Node j) h.me, refl, ne), tt)) (λ f. tt);
    })
    (λ e. quiet me size m (record { me = h.me; size = h.size }))

refused_stays : (me size : ℕ) (n : nodes.Node) (from place round : ℕ) → IsNamed me size n → me ≢ from → Stays me size (nodes.append_refused n from place round)
refused_stays me size n from place round h ne =
    let m : nodes.Node = nodes.with_peers n (progress.refused n.leading.peers from place round) in
    let b : IsNamed me size m = record { me = h.me; size = h.size } in
    by_test (Stays me size) (progress.is_refused n.leading.peers from place) (nodes.sending m (nodes.sent_to m from ∷ [])) (nodes.nothing_done m)
    (λ e. record { named = b; packets = ((from, ap (λ j. end.Node j) h.me, refl, ne), tt) }) (λ e. quiet me size m b)

answered_stays : (me size : ℕ) (n : nodes.Node) (from t : ℕ) (ok : Bool) (place round : ℕ) → IsNamed me size n → me ≢ from → Stays me size (nodes.append_answered n from t ok place round)
answered_stays me size n from t ok place round h ne =
    by_test (Stays me size) (nodes.is_leader n && nat_eq t n.ballot.term) (if ok then nodes.append_accepted n from place round else nodes.append_refused n from place round) (nodes.nothing_done n)
    (λ e. by_test (Stays me size) ok (nodes.append_accepted n from place round) (nodes.append_refused n from place round) (λ f. accepted_stays me size n from place round h ne) (λ f. refused_stays me size n from place round h ne))
    (λ e. quiet me size n h)

seen_named : (me size : ℕ) (n : nodes.Node) (t : ℕ) → IsNamed me size n → IsNamed me size (nodes.seen n t)
seen_named me size n t h =
    let s : votes.Ballot = votes.seen_ballot n.ballot t in
    let b : s.me ≡ me = by_test (λ (x : votes.Ballot). x.me ≡ me) (votes.is_above n.ballot t) (record n.ballot { term = t; vote = None; votes = [] }) n.ballot (λ e. h.me) (λ e. h.me) in
    let z : s.nodes ≡ size = by_test (λ (x : votes.Ballot). x.nodes ≡ size) (votes.is_above n.ballot t) (record n.ballot { term = t; vote = None; votes = [] }) n.ballot (λ e. h.size) (λ e. h.size) in
    by_test (IsNamed me size) (votes.is_above n.ballot t) (record n { ballot = s; role = nodes.Follower; leader = None; leading = nodes.not_leading }) n
    (λ e. record { me = b; size = z }) (λ e. h)

heeded_stays : (me size : ℕ) (n : nodes.Node) (from clock : ℕ) (p : Payload) → IsNamed me size n → me ≢ from → Stays me size (steps.packet_heeded n from clock p)
heeded_stays me size n from clock (payload.Vote t last last_term) h ne = asked_stays me size (nodes.seen n t) from t last last_term (seen_named me size n t h) ne
heeded_stays me size n from clock (payload.VoteReply t is_given) h ne = vote_stays me size (nodes.seen n t) from clock t is_given (seen_named me size n t h)
heeded_stays me size n from clock (payload.Append t prev prev_term commit round es) h ne = append_stays me size (nodes.seen n t) from t prev prev_term commit round es (seen_named me size n t h) ne
heeded_stays me size n from clock (payload.AppendReply t ok place round) h ne = answered_stays me size (nodes.seen n t) from t ok place round (seen_named me size n t h) ne
heeded_stays me size n from clock p h ne = quiet me size n h

pub did_stays : (me size : ℕ) (n : nodes.Node) (i : RaftInput) → IsNamed me size n → MayCome me i → Stays me size (steps.did n i)
did_stays me size n (asked.Elect clock) h m = candidacy_stays me size n clock h
did_stays me size n asked.Beat h m = beaten_stays me size n h
did_stays me size n (asked.Append clock bodies) h m = record { named = record { me = h.me; size = h.size }; packets = tt }
did_stays me size n asked.Read h m = read_stays me size n h
did_stays me size n (asked.Message from clock p) h m = heeded_stays me size n from clock p h m
