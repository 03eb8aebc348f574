-- The rule of the answer to an append packet, and of each packet.
use Rattle.std.proofs.Common.{◌≡◌, ℕ, List, [], ◌∷◌, length, refl, subst}
use Rattle.std.specs.Prelude.{◌≢◌, Bool, true, false, ◌&&◌, nat_eq, nat_le, Option, Some, None, if◌then◌else◌}
use Rattle.std.specs.List.{AllByRecursion}
use Rattle.ax_types.specs.declared.packets.Payload.{Payload}
use Rattle.ax_types.specs.declared.packets.Payload.TheVariants as payload
use Rattle.spec_raft.specs.Ballot as ballots
use Rattle.spec_raft.specs.Progress as progress
use Rattle.spec_node.specs.Node as nodes
use Rattle.spec_node.specs.NodeStep as steps
use Rattle.spec_transitions.specs.Systems as systems
use Rattle.spec_transitions.specs.Transitions as transitions
use Rattle.law_refinement.specs.Refinement as refinements
use Rattle.law_refinement.proofs.Tests.{by_test, both, is_same}
use Rattle.law_refinement.proofs.Members.{stands}
use Rattle.law_refinement.proofs.Fragments.{Becomes, once, stays}
use Rattle.law_refinement.proofs.Rules.{settled, Carried, kin, quiet, advancing}
use Rattle.law_refinement.proofs.Ballots.{sees, seen_term, asks, heeds_vote}
use Rattle.law_refinement.proofs.Replications.{heeds_append}

-- one of the others is not the node itself
abbrev Tests : (progress.Peer → Bool) → Option progress.Peer → ℕ → ℕ → Type 0
Tests f o k me = progress.test_peer f o ≡ true → k ≢ me

known : (me k : ℕ) (f : progress.Peer → Bool) (peers : List progress.Peer) → AllByRecursion (λ p. p.node ≢ me) peers → Tests f (progress.peer peers k) k me
known me k f [] all = λ t. absurd (cc (t))
known me k f (p ∷ peers) all =
    by_test (λ o. Tests f o k me) (nat_eq p.node k) (Some p) (progress.peer peers k)
    (λ e t. subst (λ i. i ≢ me) (is_same p.node k e) all.0)
    (λ e. known me k f peers all.1)

-- a node knows the others after a higher term was seen
pub seen_others : (n : nodes.Node) (term : ℕ) → refinements.KnowsOthers n → refinements.KnowsOthers (nodes.seen n term)
seen_others n term h =
    by_test refinements.KnowsOthers (ballots.is_above n.ballot term) (record n { ballot = ballots.seen_ballot n.ballot term; role = nodes.Follower; leader = None; leading = nodes.not_leading }) n (λ e. tt) (λ e. h)

-- more entries go to a node
more_sent : (s : systems.System) (j k : ℕ) (a : nodes.Node) → systems.IsUp s j a → nodes.is_leader a ≡ true → k ≢ a.ballot.me → AllByRecursion (transitions.Sends s) (nodes.more_to a k)
more_sent s j k a up lead ne =
    by_test (AllByRecursion (transitions.Sends s)) (nat_le (progress.next_place_of a.leading.peers k) (length a.log)) (nodes.sent_to a k ∷ []) []
    (λ e. (transitions.Appends j k a up lead ne refl, tt)) (λ e. tt)

accepts : (s : systems.System) (j : ℕ) (n m : nodes.Node) (from place round : ℕ) → systems.IsUp s j m → nodes.is_leader m ≡ true → refinements.KnowsOthers m
    → systems.WasSent s from j (payload.AppendReply m.ballot.term true place round) → Carried s j n m (nodes.append_accepted m from place round)
accepts s j n m from place round up lead others sent =
    let peers : List progress.Peer = progress.accepted m.leading.peers from place round (length m.log) in
    let a : nodes.Node = nodes.with_peers m peers in
    let r : Becomes s j a = once s (transitions.Heed j m peers) (up, lead, transitions.Accepts from place round sent refl) in
    by_test (Carried s j n m) (progress.is_accepted m.leading.peers from place (length m.log)) (nodes.sending (nodes.advanced a) (nodes.more_to (nodes.advanced a) from)) (nodes.nothing_done a)
    (λ e. advancing s j n m a (nodes.more_to (nodes.advanced a) from) up (record { me = refl; size = refl; log = refl }) lead r
    (more_sent (settled s j n (nodes.sending (nodes.advanced a) (nodes.more_to (nodes.advanced a) from))) j from (nodes.advanced a) (stands s j m (nodes.advanced a) up) lead
    (known m.ballot.me from (progress.rises_at place (length m.log)) m.leading.peers others e)))
    (λ e. quiet s j n m a [] up (record { me = refl; size = refl; log = refl }) r tt)

refuses : (s : systems.System) (j : ℕ) (n m : nodes.Node) (from place round : ℕ) → systems.IsUp s j m → nodes.is_leader m ≡ true → refinements.KnowsOthers m
    → systems.WasSent s from j (payload.AppendReply m.ballot.term false place round) → Carried s j n m (nodes.append_refused m from place round)
refuses s j n m from place round up lead others sent =
    let peers : List progress.Peer = progress.refused m.leading.peers from place round in
    let a : nodes.Node = nodes.with_peers m peers in
    let r : Becomes s j a = once s (transitions.Heed j m peers) (up, lead, transitions.Refuses from place round sent refl) in
    by_test (Carried s j n m) (progress.is_refused m.leading.peers from place) (nodes.sending a (nodes.sent_to a from ∷ [])) (nodes.nothing_done a)
    (λ e. quiet s j n m a (nodes.sent_to a from ∷ []) up (record { me = refl; size = refl; log = refl }) r
    (transitions.Appends j from a (stands s j m a up) lead (known m.ballot.me from (progress.falls_at place) m.leading.peers others e) refl, tt))
    (λ e. quiet s j n m a [] up (record { me = refl; size = refl; log = refl }) r tt)

answered : (s : systems.System) (j : ℕ) (n m : nodes.Node) (from place round : ℕ) → systems.IsUp s j m → nodes.is_leader m ≡ true → refinements.KnowsOthers m
    → (ok : Bool) → systems.WasSent s from j (payload.AppendReply m.ballot.term ok place round) → Carried s j n m (if ok then nodes.append_accepted m from place round else nodes.append_refused m from place round)
answered s j n m from place round up lead others true sent = accepts s j n m from place round up lead others sent
answered s j n m from place round up lead others false sent = refuses s j n m from place round up lead others sent

heeds_reply : (s : systems.System) (j : ℕ) (n m : nodes.Node) (from term : ℕ) (ok : Bool) (place round : ℕ) → systems.IsUp s j m → refinements.KnowsOthers m
    → systems.WasSent s from j (payload.AppendReply term ok place round) → Carried s j n m (nodes.append_answered m from term ok place round)
heeds_reply s j n m from term ok place round up others sent =
    by_test (Carried s j n m) (nodes.is_leader m && nat_eq term m.ballot.term) (if ok then nodes.append_accepted m from place round else nodes.append_refused m from place round) (nodes.nothing_done m)
    (λ e.
    let parts : (nodes.is_leader m ≡ true) × (nat_eq term m.ballot.term ≡ true) = both (nodes.is_leader m) (nat_eq term m.ballot.term) e in
    answered s j n m from place round up parts.0 others ok (subst (λ t. systems.WasSent s from j (payload.AppendReply t ok place round)) (is_same term m.ballot.term parts.1) sent))
    (λ e. quiet s j n m m [] up (kin m) (stays s j m up) tt)

nothing_heeded : (s : systems.System) (j : ℕ) (n : nodes.Node) → systems.IsUp s j n → Carried s j n n (nodes.nothing_done n)
nothing_heeded s j n up = quiet s j n n n [] up (kin n) (stays s j n up) tt

-- any packet that was sent to the node
pub heeds : (s : systems.System) (j : ℕ) (n : nodes.Node) (from clock : ℕ) (p : Payload) → systems.IsUp s j n → refinements.KnowsOthers n → systems.WasSent s from j p → Carried s j n n (steps.packet_heeded n from clock p)
heeds s j n from clock (payload.Vote term last last_term) up others sent =
    let m : nodes.Node = nodes.seen n term in
    sees s j n term (nodes.vote_asked m from term last last_term) up (asks (systems.with_node s j m) j n m from term last last_term (stands s j n m up) sent)
heeds s j n from clock (payload.VoteReply term is_given) up others sent =
    let m : nodes.Node = nodes.seen n term in
    sees s j n term (nodes.vote_heeded m from clock term is_given) up (heeds_vote (systems.with_node s j m) j n m from clock term is_given (stands s j n m up) sent)
heeds s j n from clock (payload.Append term prev prev_term commit round es) up others sent =
    let m : nodes.Node = nodes.seen n term in
    sees s j n term (nodes.append_heeded m from term prev prev_term commit round es) up (heeds_append (systems.with_node s j m) j n m from term prev prev_term commit round es (stands s j n m up) (seen_term n term) sent)
heeds s j n from clock (payload.AppendReply term ok place round) up others sent =
    let m : nodes.Node = nodes.seen n term in
    sees s j n term (nodes.append_answered m from term ok place round) up (heeds_reply (systems.with_node s j m) j n m from term ok place round (stands s j n m up) (seen_others n term others) sent)
heeds s j n from clock _ up others sent = nothing_heeded s j n up
