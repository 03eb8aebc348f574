-- The log after a step is the one before it without what was cut, and with what was added.
use Rattle.std.proofs.Common.{◌≡◌, ℕ, suc, ◌-◌, List, [], ◌∷◌, ◌++◌, length, refl, ap, sym, ◌∙◌, arith}
use Rattle.std.specs.Prelude.{Bool, true, false, ◌&&◌, not, nat_eq, nat_lt, min, Option, Some, None, if◌then◌else◌}
use Rattle.std.proofs.lemmas.Bool.Decides.{nat_tests}
use Rattle.ax_types.specs.declared.entries.Entry.{Entry}
use Rattle.ax_types.specs.declared.entries.Loaded.{Loaded}
use Rattle.ax_types.specs.declared.packets.Payload.{Payload}
use Rattle.ax_types.specs.declared.packets.Payload.TheVariants as payload
use Rattle.ax_types.specs.declared.raft.RaftInput.{RaftInput}
use Rattle.ax_types.specs.declared.raft.RaftInput.TheVariants as input
use Rattle.spec_raft.specs.Log as logs
use Rattle.spec_raft.specs.Ballot as ballots
use Rattle.spec_raft.specs.Progress as progress
use Rattle.ax_types.specs.declared.packets.Packet.{Packet}
use Rattle.spec_node.specs.Node as nodes
use Rattle.spec_node.specs.NodeStep as node_steps
use Rattle.spec_node.specs.Saving as saving

-- the log after a rule is the one before it without what was cut, and with what was added
pub record IsFollowing (log : List Entry) (d : nodes.Did) : Type 0 where
  pub log_is : d.node.log ≡ logs.cut_before log d.cut ++ d.add

by_test : {A : Type 0} (P : A → Type 0) (b : Bool) (x y : A) → P x → P y → P (if b then x else y)
by_test P true x y p q = p
by_test P false x y p q = q

append_none : (log : List Entry) → log ≡ log ++ []
append_none [] = refl
append_none (e ∷ log) = ap (λ l. e ∷ l) (append_none log)

-- nothing cut, nothing added
pub same_log : (log : List Entry) (d : nodes.Did) → d.node.log ≡ log → d.cut ≡ None → d.add ≡ [] → IsFollowing log d
same_log log d same cut add = record { log_is = same ∙ append_none log ∙ ap (λ a. log ++ a) (sym add) ∙ ap (λ c. logs.cut_before log c ++ d.add) (sym cut) }

seen_log : (n : nodes.Node) (t : ℕ) → (nodes.seen n t).log ≡ n.log
seen_log n t = by_test (λ (m : nodes.Node). m.log ≡ n.log) (ballots.is_above n.ballot t) (record n { ballot = ballots.seen_ballot n.ballot t; role = nodes.Follower; leader = None; leading = nodes.not_leading }) n refl refl

quiet_log : (log : List Entry) (n : nodes.Node) → n.log ≡ log → IsFollowing log (nodes.nothing_done n)
quiet_log log n e = same_log log (nodes.nothing_done n) e refl refl

sending_log : (log : List Entry) (n : nodes.Node) (packets : List Packet) → n.log ≡ log → IsFollowing log (nodes.sending n packets)
sending_log log n packets e = same_log log (nodes.sending n packets) e refl refl

led_log : (n : nodes.Node) (clock : ℕ) → IsFollowing n.log (nodes.led n clock)
led_log n clock = record { log_is = refl }

elected_log : (n : nodes.Node) (clock : ℕ) → IsFollowing n.log (nodes.candidacy n clock)
elected_log n clock = let c = nodes.candidate n in
    by_test (IsFollowing n.log) (ballots.is_elected c.ballot) (nodes.led c clock) (nodes.sending c (nodes.vote_requests c)) (led_log c clock) (sending_log n.log c (nodes.vote_requests c) refl)

reached : nodes.Node → nodes.Did
reached n = record (nodes.nothing_done (nodes.read_taken n)) { reached = Some (suc n.leading.arrivals) }

read_log : (n : nodes.Node) → IsFollowing n.log (nodes.read_arrived n)
unfolding reached
read_log n = by_test (IsFollowing n.log) (progress.has_read_room n.leading.reads) (reached n) (nodes.nothing_done n) (same_log n.log (reached n) refl refl refl) (quiet_log n.log n refl)

counted_log : (n : nodes.Node) (from clock : ℕ) → IsFollowing n.log (nodes.vote_counted n from clock)
counted_log n from clock = let m : nodes.Node = record n { ballot = ballots.counted n.ballot from } in
    by_test (IsFollowing n.log) (ballots.is_winning n.ballot from) (nodes.led m clock) (nodes.nothing_done m) (led_log m clock) (quiet_log n.log m refl)

vote_log : (n : nodes.Node) (from clock term : ℕ) (g : Bool) → IsFollowing n.log (nodes.vote_heeded n from clock term g)
vote_log n from clock term g =
    by_test (IsFollowing n.log) (nat_eq term n.ballot.term && nodes.is_candidate n && g) (nodes.vote_counted n from clock) (nodes.nothing_done n) (counted_log n from clock) (quiet_log n.log n refl)

taken_log : (n : nodes.Node) (from prev commit round : ℕ) (es : List Entry) → IsFollowing n.log (nodes.sent_taken n from prev commit round es)
taken_log n from prev commit round es = record { log_is = refl }

followed_log : (n : nodes.Node) (from prev prev_term commit round : ℕ) (es : List Entry) → IsFollowing n.log (nodes.append_followed n from prev prev_term commit round es)
followed_log n from prev prev_term commit round es =
    let no : List Packet = nodes.reply_to n from false (min (prev - 1) (length n.log)) round ∷ [] in
    let later : nodes.Did = if nodes.is_committed n (logs.first_conflict n.log prev es) then nodes.nothing_done n else nodes.sent_taken n from prev commit round es in
    by_test (IsFollowing n.log) (not (logs.match_at n.log prev prev_term)) (nodes.sending n no) later (sending_log n.log n no refl)
    (by_test (IsFollowing n.log) (nodes.is_committed n (logs.first_conflict n.log prev es)) (nodes.nothing_done n) (nodes.sent_taken n from prev commit round es) (quiet_log n.log n refl) (taken_log n from prev commit round es))

append_log : (n : nodes.Node) (from term prev prev_term commit round : ℕ) (es : List Entry) → IsFollowing n.log (nodes.append_heeded n from term prev prev_term commit round es)
append_log n from term prev prev_term commit round es =
    let old : List Packet = nodes.reply_to n from false 0 0 ∷ [] in
    let next : nodes.Did = nodes.append_followed (nodes.followed n from) from prev prev_term commit round es in
    by_test (IsFollowing n.log) (nat_lt term n.ballot.term) (nodes.sending n old) (if nodes.is_leader n then nodes.nothing_done n else next) (sending_log n.log n old refl)
    (by_test (IsFollowing n.log) (nodes.is_leader n) (nodes.nothing_done n) next (quiet_log n.log n refl) (followed_log (nodes.followed n from) from prev prev_term commit round es))

accepted_log : (n : nodes.Node) (from place round : ℕ) → IsFollowing n.log (nodes.append_accepted n from place round)
accepted_log n from place round =
    let m = nodes.with_peers n (progress.accepted n.leading.peers from place round (length n.log)) in
    let a = nodes.advanced m in
    by_test (IsFollowing n.log) (progress.is_accepted n.leading.peers from place (length n.log)) (nodes.sending a (nodes.more_to a from)) (nodes.nothing_done m) (sending_log n.log a (nodes.more_to a from) refl) (quiet_log n.log m refl)

refused_log : (n : nodes.Node) (from place round : ℕ) → IsFollowing n.log (nodes.append_refused n from place round)
refused_log n from place round =
    let m = nodes.with_peers n (progress.refused n.leading.peers from place round) in
    let again : List Packet = nodes.sent_to m from ∷ [] in
    by_test (IsFollowing n.log) (progress.is_refused n.leading.peers from place) (nodes.sending m again) (nodes.nothing_done m) (sending_log n.log m again refl) (quiet_log n.log m refl)

answered_log : (n : nodes.Node) (from term : ℕ) (ok : Bool) (place round : ℕ) → IsFollowing n.log (nodes.append_answered n from term ok place round)
answered_log n from term ok place round =
    let yes = nodes.append_accepted n from place round in
    let no = nodes.append_refused n from place round in
    by_test (IsFollowing n.log) (nodes.is_leader n && nat_eq term n.ballot.term) (if ok then yes else no) (nodes.nothing_done n)
    (by_test (IsFollowing n.log) ok yes no (accepted_log n from place round) (refused_log n from place round))
    (quiet_log n.log n refl)

-- from the log of a node that has seen a term to the log before
from_seen : (n : nodes.Node) (t : ℕ) (d : nodes.Did) → IsFollowing (nodes.seen n t).log d → IsFollowing n.log d
from_seen n t d f = record { log_is = f.log_is ∙ ap (λ l. logs.cut_before l d.cut ++ d.add) (seen_log n t) }

told_log : (n : nodes.Node) (from clock : ℕ) (p : Payload) → IsFollowing n.log (node_steps.packet_heeded n from clock p)
told_log n from clock (payload.Vote term last last_term) = same_log n.log (nodes.vote_asked (nodes.seen n term) from term last last_term) (seen_log n term) refl refl
told_log n from clock (payload.VoteReply term g) = from_seen n term (nodes.vote_heeded (nodes.seen n term) from clock term g) (vote_log (nodes.seen n term) from clock term g)
told_log n from clock (payload.Append term prev prev_term commit round es) = from_seen n term (nodes.append_heeded (nodes.seen n term) from term prev prev_term commit round es) (append_log (nodes.seen n term) from term prev prev_term commit round es)
told_log n from clock (payload.AppendReply term ok place round) = from_seen n term (nodes.append_answered (nodes.seen n term) from term ok place round) (answered_log (nodes.seen n term) from term ok place round)
told_log n from clock _ = quiet_log n.log n refl

-- the log after the rule of an input
pub did_log : (n : nodes.Node) (i : RaftInput) → IsFollowing n.log (node_steps.did n i)
did_log n (input.Elect clock) = elected_log n clock
did_log n input.Beat = same_log n.log (nodes.beaten n) refl refl refl
did_log n (input.Append clock bodies) = record { log_is = refl }
did_log n input.Read = read_log n
did_log n (input.Message from clock p) = told_log n from clock p
