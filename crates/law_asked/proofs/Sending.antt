-- What a node sends to others is Raft's, and its entries say what those of its log and of its packet say.
use Rattle.std.proofs.Common.{ℕ, suc, ◌-◌, List, [], ◌∷◌, length, drop}
use Rattle.std.specs.Prelude.{Bool, true, false, ◌&&◌, not, nat_eq, nat_lt, nat_le, min, Some, None, if◌then◌else◌}
use Rattle.std.specs.List.{AllByRecursion}
use Rattle.ax_types.specs.declared.entries.Entry.{Entry}
use Rattle.ax_types.specs.declared.packets.Packet.{Packet}
use Rattle.ax_types.specs.declared.packets.Payload.{Payload}
use Rattle.ax_types.specs.declared.packets.Payload.TheVariants as payload
use Rattle.ax_types.specs.declared.raft.RaftInput.{RaftInput}
use Rattle.ax_types.specs.declared.raft.RaftInput.TheVariants as asked
use Rattle.spec_raft.specs.Log as logs
use Rattle.spec_raft.specs.Ballot as votes
use Rattle.spec_raft.specs.Progress as progress
use Rattle.spec_node.specs.Node as nodes
use Rattle.spec_node.specs.NodeStep as steps
use Rattle.law_origin.specs.Origin.{entries_in}
use Rattle.law_origin.proofs.Each.{by_test, each_take, each_drop, each_map}

-- a payload of Raft, whose entries are such
abbrev pub RaftSays : (Entry → Type 0) → Payload → Type 0
RaftSays P (payload.Append term prev prev_term commit round es) = AllByRecursion P es
RaftSays P (payload.Vote t last last_term) = Unit {0}
RaftSays P (payload.VoteReply t is_given) = Unit {0}
RaftSays P (payload.AppendReply t ok place round) = Unit {0}
RaftSays P p = ⊥

-- the packets that a rule sends
pub record SendsRaft (P : Entry → Type 0) (d : nodes.Did) : Type 0 where
  pub packets : AllByRecursion (λ (p : Packet). RaftSays P p.payload) d.packets

-- what an input may bring to a node
abbrev pub MaySend : (Entry → Type 0) → RaftInput → Type 0
MaySend P (asked.Message from clock p) = AllByRecursion P (entries_in p)
MaySend P i = Unit {0}

quiet : (P : Entry → Type 0) (n : nodes.Node) → SendsRaft P (nodes.nothing_done n)
quiet P n = record { packets = tt }

-- a leader's packet holds a part of its log
sends : (P : Entry → Type 0) (n : nodes.Node) (k : ℕ) → AllByRecursion P n.log → RaftSays P (nodes.sent_to n k).payload
sends P n k a = each_take P logs.most_entries (drop (suc (progress.next_place_of n.leading.peers k - 1) - 1) n.log) (each_drop P (suc (progress.next_place_of n.leading.peers k - 1) - 1) n.log a)

led_sends : (P : Entry → Type 0) (n : nodes.Node) (clock : ℕ) → SendsRaft P (nodes.led n clock)
led_sends P n clock = record { packets = tt }

candidacy_sends : (P : Entry → Type 0) (n : nodes.Node) (clock : ℕ) → SendsRaft P (nodes.candidacy n clock)
candidacy_sends P n clock =
    let c = nodes.candidate n in
    by_test (SendsRaft P) (votes.is_elected c.ballot) (nodes.led c clock) (nodes.sending c (nodes.vote_requests c)) (λ e. led_sends P c clock)
    (λ e. record { packets = each_map (λ (p : Packet). RaftSays P p.payload) (λ k. nodes.to_node c k (payload.Vote c.ballot.term (length c.log) (logs.last_term c.log))) (nodes.each_other c) (λ k. tt) })

read_sends : (P : Entry → Type 0) (n : nodes.Node) (b : Bool) → SendsRaft P (if b then record (nodes.nothing_done (nodes.read_taken n)) { reached = Some (suc n.leading.arrivals) } else nodes.nothing_done n)
read_sends P n true = record { packets = tt }
read_sends P n false = record { packets = tt }

counted_sends : (P : Entry → Type 0) (n : nodes.Node) (from clock : ℕ) → SendsRaft P (nodes.vote_counted n from clock)
counted_sends P n from clock =
    let m : nodes.Node = record n { ballot = votes.counted n.ballot from } in
    by_test (SendsRaft P) (votes.is_winning n.ballot from) (nodes.led m clock) (nodes.nothing_done m) (λ e. led_sends P m clock) (λ e. quiet P m)

vote_sends : (P : Entry → Type 0) (n : nodes.Node) (from clock t : ℕ) (is_given : Bool) → SendsRaft P (nodes.vote_heeded n from clock t is_given)
vote_sends P n from clock t is_given = by_test (SendsRaft P) (nat_eq t n.ballot.term && nodes.is_candidate n && is_given) (nodes.vote_counted n from clock) (nodes.nothing_done n) (λ e. counted_sends P n from clock) (λ e. quiet P n)

replies : (P : Entry → Type 0) (n m : nodes.Node) (from : ℕ) (ok : Bool) (place round : ℕ) → SendsRaft P (nodes.sending n (nodes.reply_to m from ok place round ∷ []))
replies P n m from ok place round = record { packets = (tt, tt) }

taken_sends : (P : Entry → Type 0) (n : nodes.Node) (from prev commit round : ℕ) (es : List Entry) → AllByRecursion P es → SendsRaft P (nodes.sent_taken n from prev commit round es)
taken_sends P n from prev commit round es a = record { packets = (tt, tt) }

followed_sends : (P : Entry → Type 0) (n : nodes.Node) (from prev prev_term commit round : ℕ) (es : List Entry) → AllByRecursion P es → SendsRaft P (nodes.append_followed n from prev prev_term commit round es)
followed_sends P n from prev prev_term commit round es a =
    let later : nodes.Did = if nodes.is_committed n (logs.first_conflict n.log prev es) then nodes.nothing_done n else nodes.sent_taken n from prev commit round es in
    by_test (SendsRaft P) (not (logs.match_at n.log prev prev_term)) (nodes.sending n (nodes.reply_to n from false (min (prev - 1) (length n.log)) round ∷ [])) later
    (λ e. replies P n n from false (min (prev - 1) (length n.log)) round)
    (λ e. by_test (SendsRaft P) (nodes.is_committed n (logs.first_conflict n.log prev es)) (nodes.nothing_done n) (nodes.sent_taken n from prev commit round es) (λ f. quiet P n) (λ f. taken_sends P n from prev commit round es a))

append_sends : (P : Entry → Type 0) (n : nodes.Node) (from t prev prev_term commit round : ℕ) (es : List Entry) → AllByRecursion P es → SendsRaft P (nodes.append_heeded n from t prev prev_term commit round es)
append_sends P n from t prev prev_term commit round es a =
    let next : nodes.Did = nodes.append_followed (nodes.followed n from) from prev prev_term commit round es in
    by_test (SendsRaft P) (nat_lt t n.ballot.term) (nodes.sending n (nodes.reply_to n from false 0 0 ∷ [])) (if nodes.is_leader n then nodes.nothing_done n else next)
    (λ e. replies P n n from false 0 0)
    (λ e. by_test (SendsRaft P) (nodes.is_leader n) (nodes.nothing_done n) next (λ f. quiet P n) (λ f. followed_sends P (nodes.followed n from) from prev prev_term commit round es a))

more_sends : (P : Entry → Type 0) (n : nodes.Node) (k : ℕ) → AllByRecursion P n.log → AllByRecursion (λ (p : Packet). RaftSays P p.payload) (nodes.more_to n k)
more_sends P n k a = by_test (AllByRecursion (λ (p : Packet). RaftSays P p.payload)) (nat_le (progress.next_place_of n.leading.peers k) (length n.log)) (nodes.sent_to n k ∷ []) [] (λ e. (sends P n k a, tt)) (λ e. tt)

accepted_sends : (P : Entry → Type 0) (n : nodes.Node) (from place round : ℕ) → AllByRecursion P n.log → SendsRaft P (nodes.append_accepted n from place round)
accepted_sends P n from place round a =
    let m = nodes.with_peers n (progress.accepted n.leading.peers from place round (length n.log)) in
    by_test (SendsRaft P) (progress.is_accepted n.leading.peers from place (length n.log)) (nodes.sending (nodes.advanced m) (nodes.more_to (nodes.advanced m) from)) (nodes.nothing_done m)
    (λ e. record { packets = more_sends P (nodes.advanced m) from a }) (λ e. quiet P m)

refused_sends : (P : Entry → Type 0) (n : nodes.Node) (from place round : ℕ) → AllByRecursion P n.log → SendsRaft P (nodes.append_refused n from place round)
refused_sends P n from place round a =
    let m = nodes.with_peers n (progress.refused n.leading.peers from place round) in
    by_test (SendsRaft P) (progress.is_refused n.leading.peers from place) (nodes.sending m (nodes.sent_to m from ∷ [])) (nodes.nothing_done m) (λ e. record { packets = (sends P m from a, tt) }) (λ e. quiet P m)

answered_sends : (P : Entry → Type 0) (n : nodes.Node) (from t : ℕ) (ok : Bool) (place round : ℕ) → AllByRecursion P n.log → SendsRaft P (nodes.append_answered n from t ok place round)
answered_sends P n from t ok place round a =
    by_test (SendsRaft P) (nodes.is_leader n && nat_eq t n.ballot.term) (if ok then nodes.append_accepted n from place round else nodes.append_refused n from place round) (nodes.nothing_done n)
    (λ e. by_test (SendsRaft P) ok (nodes.append_accepted n from place round) (nodes.append_refused n from place round) (λ f. accepted_sends P n from place round a) (λ f. refused_sends P n from place round a))
    (λ e. quiet P n)

seen_keeps : (P : Entry → Type 0) (n : nodes.Node) (t : ℕ) → AllByRecursion P n.log → AllByRecursion P (nodes.seen n t).log
seen_keeps P n t a = by_test (λ (m : nodes.Node). AllByRecursion P m.log) (votes.is_above n.ballot t) (record n { ballot = votes.seen_ballot n.ballot t; role = nodes.Follower; leader = None; leading = nodes.not_leading }) n (λ e. a) (λ e. a)

heeded_sends : (P : Entry → Type 0) (n : nodes.Node) (from clock : ℕ) (p : Payload) → AllByRecursion P n.log → AllByRecursion P (entries_in p) → SendsRaft P (steps.packet_heeded n from clock p)
heeded_sends P n from clock (payload.Vote t last last_term) a b = record { packets = (tt, tt) }
heeded_sends P n from clock (payload.VoteReply t is_given) a b = vote_sends P (nodes.seen n t) from clock t is_given
heeded_sends P n from clock (payload.Append t prev prev_term commit round es) a b = append_sends P (nodes.seen n t) from t prev prev_term commit round es b
heeded_sends P n from clock (payload.AppendReply t ok place round) a b = answered_sends P (nodes.seen n t) from t ok place round (seen_keeps P n t a)
heeded_sends P n from clock p a b = quiet P n

pub did_sends : (P : Entry → Type 0) (n : nodes.Node) (i : RaftInput) → AllByRecursion P n.log → MaySend P i → SendsRaft P (steps.did n i)
did_sends P n (asked.Elect clock) a b = candidacy_sends P n clock
did_sends P n asked.Beat a b = record { packets = each_map (λ (p : Packet). RaftSays P p.payload) (nodes.sent_to (nodes.ticked n)) (nodes.each_other (nodes.ticked n)) (λ k. sends P (nodes.ticked n) k a) }
did_sends P n (asked.Append clock bodies) a b = record { packets = tt }
did_sends P n asked.Read a b = read_sends P n (progress.has_read_room n.leading.reads)
did_sends P n (asked.Message from clock p) a b = heeded_sends P n from clock p a b
