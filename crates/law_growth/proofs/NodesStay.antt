-- No rule of a node changes its number or the size of its cluster, and its commit never falls.
use Rattle.std.proofs.Common.{◌≡◌, ℕ, zero, suc, ◌+◌, ◌≤◌, List, [], ◌∷◌, ◌++◌, refl, ◌∙◌, arith}
use Rattle.std.specs.Prelude.{Bool, true, false, ◌&&◌, not, nat_eq, nat_lt, max, min, ◌-◌, Option, Some, None, length, if◌then◌else◌}
use Rattle.ax_types.specs.declared.entries.Entry.{Entry}
use Rattle.ax_types.specs.declared.packets.Payload.{Payload}
use Rattle.ax_types.specs.declared.packets.Payload.TheVariants as payload
use Rattle.ax_types.specs.declared.raft.RaftInput.{RaftInput}
use Rattle.ax_types.specs.declared.raft.RaftInput.TheVariants as input
use Rattle.spec_raft.specs.Majority as majorities
use Rattle.spec_raft.specs.Log as logs
use Rattle.spec_raft.specs.Ballot as ballots
use Rattle.spec_raft.specs.Progress as progress
use Rattle.spec_node.specs.Node as nodes
use Rattle.spec_node.specs.NodeStep as steps
use Rattle.law_refinement.proofs.Tests.{by_test}

-- a node after another
pub record Goes (n a : nodes.Node) : Type 0 where
  pub me : a.ballot.me ≡ n.ballot.me
  pub size : a.ballot.nodes ≡ n.ballot.nodes
  pub commit : n.commit ≤ a.commit

stays : (n : nodes.Node) → Goes n n
stays n = record { me = refl; size = refl; commit = omega arith }

then_goes : (n a b : nodes.Node) → Goes n a → Goes a b → Goes n b
then_goes n a b x y = record { me = y.me ∙ x.me; size = y.size ∙ x.size; commit = omega (arith, x.commit, y.commit) }

seen_goes : (n : nodes.Node) (term : ℕ) → Goes n (nodes.seen n term)
seen_goes n term =
    let b : ballots.Ballot = record n.ballot { term = term; vote = None; votes = [] } in
    by_test (Goes n) (ballots.is_above n.ballot term) (record n { ballot = ballots.seen_ballot n.ballot term; role = nodes.Follower; leader = None; leading = nodes.not_leading }) n
    (λ e. record {
      me = by_test (λ x. x.me ≡ n.ballot.me) (ballots.is_above n.ballot term) b n.ballot (λ t. refl) (λ t. refl);
      size = by_test (λ x. x.nodes ≡ n.ballot.nodes) (ballots.is_above n.ballot term) b n.ballot (λ t. refl) (λ t. refl);
      commit = omega arith;
    })
    (λ e. stays n)

not_below : (f : ℕ → Bool) (low n : ℕ) → low ≤ progress.greatest f low n
not_below f low zero = omega arith
not_below f low (suc n) = by_test (λ x. low ≤ x) (f (low + suc n)) (low + suc n) (progress.greatest f low n) (λ e. omega arith) (λ e. not_below f low n)

advanced_goes : (n : nodes.Node) → Goes n (nodes.advanced n)
advanced_goes n = record { me = refl; size = refl; commit = not_below (progress.may_commit n.leading.peers n.log n.ballot.term) n.commit (length n.log - n.commit) }

-- each rule
led_goes : (n : nodes.Node) (clock : ℕ) → Goes n (nodes.led n clock).node
led_goes n clock = let a = (nodes.led n clock).node in record { me = refl; size = refl; commit = not_below (progress.may_commit a.leading.peers a.log a.ballot.term) n.commit (length a.log - n.commit) }

elects : (n : nodes.Node) (clock : ℕ) → Goes n (nodes.candidacy n clock).node
elects n clock =
    let c : nodes.Node = nodes.candidate n in
    let g : Goes n c = record { me = refl; size = refl; commit = omega arith } in
    by_test (λ d. Goes n d.node) (ballots.is_elected c.ballot) (nodes.led c clock) (nodes.sending c (nodes.vote_requests c)) (λ e. then_goes n c (nodes.led c clock).node g (led_goes c clock)) (λ e. g)

asked : (n : nodes.Node) (from term last last_term : ℕ) → Goes n (nodes.vote_asked n from term last last_term).node
asked n from term last last_term = by_test (λ b. Goes n (record n { ballot = b })) (ballots.is_granted n.ballot n.log term from last last_term) (record n.ballot { vote = Some from }) n.ballot (λ e. record { me = refl; size = refl; commit = omega arith }) (λ e. stays n)

counted : (n : nodes.Node) (from clock : ℕ) → Goes n (nodes.vote_counted n from clock).node
counted n from clock =
    let m : nodes.Node = record n { ballot = ballots.counted n.ballot from } in
    let g : Goes n m = by_test (λ b. Goes n (record n { ballot = b })) (majorities.is_in n.ballot.votes from) n.ballot (record n.ballot { votes = n.ballot.votes ++ from ∷ [] }) (λ e. stays n) (λ e. record { me = refl; size = refl; commit = omega arith }) in
    by_test (λ d. Goes n d.node) (ballots.is_winning n.ballot from) (nodes.led m clock) (nodes.nothing_done m) (λ e. then_goes n m (nodes.led m clock).node g (led_goes m clock)) (λ e. g)

vote_heeded : (n : nodes.Node) (from clock term : ℕ) (is_given : Bool) → Goes n (nodes.vote_heeded n from clock term is_given).node
vote_heeded n from clock term is_given = by_test (λ d. Goes n d.node) (nat_eq term n.ballot.term && nodes.is_candidate n && is_given) (nodes.vote_counted n from clock) (nodes.nothing_done n) (λ e. counted n from clock) (λ e. stays n)

followed : (n : nodes.Node) (from prev prev_term commit round : ℕ) (es : List Entry) → Goes n (nodes.append_followed n from prev prev_term commit round es).node
followed n from prev prev_term commit round es =
    by_test (λ d. Goes n d.node) (not (logs.match_at n.log prev prev_term)) (nodes.sending n (nodes.reply_to n from false (min (prev - 1) (length n.log)) round ∷ []))
    (if nodes.is_committed n (logs.first_conflict n.log prev es) then nodes.nothing_done n else nodes.sent_taken n from prev commit round es)
    (λ e. stays n)
    (λ e. by_test (λ d. Goes n d.node) (nodes.is_committed n (logs.first_conflict n.log prev es)) (nodes.nothing_done n) (nodes.sent_taken n from prev commit round es) (λ f. stays n) (λ f. record { me = refl; size = refl; commit = omega arith }))

append_heeded : (n : nodes.Node) (from term prev prev_term commit round : ℕ) (es : List Entry) → Goes n (nodes.append_heeded n from term prev prev_term commit round es).node
append_heeded n from term prev prev_term commit round es =
    let f : nodes.Node = nodes.followed n from in
    let g : Goes n f = record { me = refl; size = refl; commit = omega arith } in
    by_test (λ d. Goes n d.node) (nat_lt term n.ballot.term) (nodes.sending n (nodes.reply_to n from false 0 0 ∷ []))
    (if nodes.is_leader n then nodes.nothing_done n else nodes.append_followed f from prev prev_term commit round es)
    (λ e. stays n)
    (λ e. by_test (λ d. Goes n d.node) (nodes.is_leader n) (nodes.nothing_done n) (nodes.append_followed f from prev prev_term commit round es)
    (λ l. stays n) (λ l. then_goes n f (nodes.append_followed f from prev prev_term commit round es).node g (followed f from prev prev_term commit round es)))

with_peers : (n : nodes.Node) (peers : List progress.Peer) → Goes n (nodes.with_peers n peers)
with_peers n peers = record { me = refl; size = refl; commit = omega arith }

accepted : (n : nodes.Node) (from place round : ℕ) → Goes n (nodes.append_accepted n from place round).node
accepted n from place round =
    let m : nodes.Node = nodes.with_peers n (progress.accepted n.leading.peers from place round (length n.log)) in
    let a : nodes.Node = nodes.advanced m in
    by_test (λ d. Goes n d.node) (progress.is_accepted n.leading.peers from place (length n.log)) (nodes.sending a (nodes.more_to a from)) (nodes.nothing_done m)
    (λ e. let x = advanced_goes m in record { me = x.me; size = x.size; commit = x.commit }) (λ e. record { me = refl; size = refl; commit = omega arith })

refused : (n : nodes.Node) (from place round : ℕ) → Goes n (nodes.append_refused n from place round).node
refused n from place round =
    let m : nodes.Node = nodes.with_peers n (progress.refused n.leading.peers from place round) in
    by_test (λ d. Goes n d.node) (progress.is_refused n.leading.peers from place) (nodes.sending m (nodes.sent_to m from ∷ [])) (nodes.nothing_done m) (λ e. with_peers n m.leading.peers) (λ e. with_peers n m.leading.peers)

answered : (n : nodes.Node) (from term : ℕ) (ok : Bool) (place round : ℕ) → Goes n (nodes.append_answered n from term ok place round).node
answered n from term ok place round =
    by_test (λ d. Goes n d.node) (nodes.is_leader n && nat_eq term n.ballot.term) (if ok then nodes.append_accepted n from place round else nodes.append_refused n from place round) (nodes.nothing_done n)
    (λ e. by_test (λ d. Goes n d.node) ok (nodes.append_accepted n from place round) (nodes.append_refused n from place round) (λ f. accepted n from place round) (λ f. refused n from place round))
    (λ e. stays n)

heeded : (n : nodes.Node) (from clock : ℕ) (p : Payload) → Goes n (steps.packet_heeded n from clock p).node
heeded n from clock (payload.Vote term last last_term) = let m = nodes.seen n term in then_goes n m _ (seen_goes n term) (asked m from term last last_term)
heeded n from clock (payload.VoteReply term is_given) = let m = nodes.seen n term in then_goes n m _ (seen_goes n term) (vote_heeded m from clock term is_given)
heeded n from clock (payload.Append term prev prev_term commit round es) = let m = nodes.seen n term in then_goes n m _ (seen_goes n term) (append_heeded m from term prev prev_term commit round es)
heeded n from clock (payload.AppendReply term ok place round) = let m = nodes.seen n term in then_goes n m _ (seen_goes n term) (answered m from term ok place round)
heeded n from clock (payload.Register a b) = stays n
heeded n from clock (payload.Keep a b c d) = stays n
heeded n from clock (payload.Command a b c d e) = stays n
heeded n from clock (payload.Close a b) = stays n
heeded n from clock (payload.Query a b c d e f g h) = stays n
heeded n from clock (payload.Connect a b c) = stays n
heeded n from clock (payload.Reset a b c) = stays n
heeded n from clock (payload.Opened a b) = stays n
heeded n from clock (payload.Reply a b c d e) = stays n
heeded n from clock (payload.Gap a b) = stays n
heeded n from clock (payload.Answer a b c d e f g h) = stays n
heeded n from clock (payload.Batch a b c d) = stays n
heeded n from clock (payload.Ended a b c) = stays n

pub step_goes : (n : nodes.Node) (i : RaftInput) → Goes n (steps.did n i).node
step_goes n (input.Elect clock) = elects n clock
step_goes n input.Beat = record { me = refl; size = refl; commit = omega arith }
step_goes n (input.Append clock bodies) = let a = (nodes.appended n clock bodies).node in record { me = refl; size = refl; commit = not_below (progress.may_commit a.leading.peers a.log a.ballot.term) n.commit (length a.log - n.commit) }
step_goes n input.Read = by_test (λ d. Goes n d.node) (progress.has_read_room n.leading.reads) (record (nodes.nothing_done (nodes.read_taken n)) { reached = Some (suc n.leading.arrivals) }) (nodes.nothing_done n) (λ e. record { me = refl; size = refl; commit = omega arith }) (λ e. stays n)
step_goes n (input.Message from clock p) = heeded n from clock p
