-- The rules of votes: a higher term is seen, a vote is asked for, a vote is counted.
use Rattle.std.proofs.Common.{◌≡◌, ℕ, ◌≤◌, [], ◌∷◌, ◌++◌, refl, ap, sym, subst, arith}
use Rattle.std.specs.Prelude.{Bool, true, false, ◌&&◌, not, nat_eq, Some, None, if◌then◌else◌}
use Rattle.ax_types.specs.declared.packets.Payload.TheVariants as payload
use Rattle.spec_raft.specs.Majority as majorities
use Rattle.spec_raft.specs.Log as logs
use Rattle.spec_raft.specs.Ballot as ballots
use Rattle.spec_node.specs.Node as nodes
use Rattle.spec_transitions.specs.Systems as systems
use Rattle.spec_transitions.specs.Transitions as transitions
use Rattle.law_refinement.proofs.Tests.{by_test, both, is_above, not_above, is_same}
use Rattle.law_refinement.proofs.Members.{stands}
use Rattle.law_refinement.proofs.Fragments.{Becomes, once, stays}
use Rattle.law_refinement.proofs.Rules.{Carried, IsKin, kin, quiet, after_kin}
use Rattle.law_refinement.proofs.Elections.{leads}

-- the node that has seen a term
seen_kin : (n : nodes.Node) (term : ℕ) → IsKin n (nodes.seen n term)
seen_kin n term =
    let b : ballots.Ballot = record n.ballot { term = term; vote = None; votes = [] } in
    by_test (IsKin n) (ballots.is_above n.ballot term) (record n { ballot = ballots.seen_ballot n.ballot term; role = nodes.Follower; leader = None; leading = nodes.not_leading }) n
    (λ e. record {
      me = by_test (λ x. x.me ≡ n.ballot.me) (ballots.is_above n.ballot term) b n.ballot (λ t. refl) (λ t. refl);
      size = by_test (λ x. x.nodes ≡ n.ballot.nodes) (ballots.is_above n.ballot term) b n.ballot (λ t. refl) (λ t. refl);
      log = refl;
    })
    (λ e. kin n)

pub seen_term : (n : nodes.Node) (term : ℕ) → term ≤ (nodes.seen n term).ballot.term
seen_term n term =
    by_test (λ x. term ≤ x.ballot.term) (ballots.is_above n.ballot term) (record n { ballot = ballots.seen_ballot n.ballot term; role = nodes.Follower; leader = None; leading = nodes.not_leading }) n
    (λ e. by_test (λ b. term ≤ b.term) (ballots.is_above n.ballot term) (record n.ballot { term = term; vote = None; votes = [] }) n.ballot (λ t. omega arith) (λ t. not_above n.ballot.term term t))
    (λ e. not_above n.ballot.term term e)

raises : (s : systems.System) (j : ℕ) (n : nodes.Node) (term : ℕ) → systems.IsUp s j n → (b : Bool) → ballots.is_above n.ballot term ≡ b → Becomes s j (nodes.seen n term)
raises s j n term up true e = once s (transitions.Raise j n term) (up, is_above n.ballot.term term e)
raises s j n term up false e =
    let same : nodes.seen n term ≡ n = ap (λ b. if b then record n { ballot = ballots.seen_ballot n.ballot term; role = nodes.Follower; leader = None; leading = nodes.not_leading } else n) e in
    subst (Becomes s j) (sym same) (stays s j n up)

-- a rule for a packet, after a higher term in it was seen
pub sees : (s : systems.System) (j : ℕ) (n : nodes.Node) (term : ℕ) (d : nodes.Did) → systems.IsUp s j n
    → Carried (systems.with_node s j (nodes.seen n term)) j n (nodes.seen n term) d → Carried s j n n d
sees s j n term d up c = after_kin s j n n (nodes.seen n term) d (seen_kin n term) (raises s j n term up (ballots.is_above n.ballot term) refl) c

-- the rule of a candidate's request, where the vote is given or not
abbrev asked : nodes.Node → ℕ → Bool → nodes.Did
asked m from is_given = nodes.sending (record m { ballot = if is_given then record m.ballot { vote = Some from } else m.ballot }) (nodes.to_node m from (payload.VoteReply m.ballot.term is_given) ∷ [])

gives : (s : systems.System) (j : ℕ) (n m : nodes.Node) (from term last last_term : ℕ) → systems.IsUp s j m → systems.WasSent s from j (payload.Vote term last last_term)
    → (b : Bool) → ballots.is_granted m.ballot m.log term from last last_term ≡ b → Carried s j n m (asked m from b)
gives s j n m from term last last_term up sent true e =
    let v : nodes.Node = transitions.with_vote m from in
    let parts : (nat_eq term m.ballot.term && ballots.is_free m.ballot.vote from ≡ true) × (logs.newer_or_equal m.log last_term last ≡ true) = both (nat_eq term m.ballot.term && ballots.is_free m.ballot.vote from) (logs.newer_or_equal m.log last_term last) e in
    let same : term ≡ m.ballot.term = is_same term m.ballot.term (both (nat_eq term m.ballot.term) (ballots.is_free m.ballot.vote from) parts.0).0 in
    let request : systems.WasSent s from j (payload.Vote m.ballot.term last last_term) = subst (λ t. systems.WasSent s from j (payload.Vote t last last_term)) same sent in
    quiet s j n m v (nodes.to_node m from (payload.VoteReply m.ballot.term true) ∷ []) up (record { me = refl; size = refl; log = refl })
    (once s (transitions.Grant j m from last last_term) (up, request, subst (λ t. ballots.is_granted m.ballot m.log t from last last_term ≡ true) same e))
    (transitions.Votes j from last last_term v true (stands s j m v up) (λ t. (refl, request)) refl, tt)
gives s j n m from term last last_term up sent false e =
    quiet s j n m m (nodes.to_node m from (payload.VoteReply m.ballot.term false) ∷ []) up (kin m) (stays s j m up)
    (transitions.Votes j from last last_term m false (stands s j m m up) (λ t. absurd (cc (t))) refl, tt)

pub asks : (s : systems.System) (j : ℕ) (n m : nodes.Node) (from term last last_term : ℕ) → systems.IsUp s j m → systems.WasSent s from j (payload.Vote term last last_term) → Carried s j n m (nodes.vote_asked m from term last last_term)
asks s j n m from term last last_term up sent = gives s j n m from term last last_term up sent (ballots.is_granted m.ballot m.log term from last last_term) refl

-- a vote is counted
counted_kin : (m : nodes.Node) (from : ℕ) → IsKin m (record m { ballot = ballots.counted m.ballot from })
counted_kin m from =
    let v : ballots.Ballot = record m.ballot { votes = m.ballot.votes ++ from ∷ [] } in
    record {
      me = by_test (λ x. x.me ≡ m.ballot.me) (majorities.is_in m.ballot.votes from) m.ballot v (λ t. refl) (λ t. refl);
      size = by_test (λ x. x.nodes ≡ m.ballot.nodes) (majorities.is_in m.ballot.votes from) m.ballot v (λ t. refl) (λ t. refl);
      log = refl;
    }

counts : (s : systems.System) (j : ℕ) (n m : nodes.Node) (from clock : ℕ) → systems.IsUp s j m → nodes.is_candidate m ≡ true → systems.WasSent s from j (payload.VoteReply m.ballot.term true) → Carried s j n m (nodes.vote_counted m from clock)
counts s j n m from clock up runs sent =
    let c : nodes.Node = record m { ballot = ballots.counted m.ballot from } in
    let r : Becomes s j c = once s (transitions.Count j m from) (up, runs, sent) in
    by_test (Carried s j n m) (ballots.is_winning m.ballot from) (nodes.led c clock) (nodes.nothing_done c)
    (λ e. after_kin s j n m c (nodes.led c clock) (counted_kin m from) r
    (leads (systems.with_node s j c) j n c clock (stands s j m c up) runs (both (not (ballots.is_elected m.ballot)) (ballots.is_elected (ballots.counted m.ballot from)) e).1))
    (λ e. quiet s j n m c [] up (counted_kin m from) r tt)

pub heeds_vote : (s : systems.System) (j : ℕ) (n m : nodes.Node) (from clock term : ℕ) (is_given : Bool) → systems.IsUp s j m → systems.WasSent s from j (payload.VoteReply term is_given) → Carried s j n m (nodes.vote_heeded m from clock term is_given)
heeds_vote s j n m from clock term is_given up sent =
    by_test (Carried s j n m) (nat_eq term m.ballot.term && nodes.is_candidate m && is_given) (nodes.vote_counted m from clock) (nodes.nothing_done m)
    (λ e.
    let parts : (nat_eq term m.ballot.term && nodes.is_candidate m ≡ true) × (is_given ≡ true) = both (nat_eq term m.ballot.term && nodes.is_candidate m) is_given e in
    let more : (nat_eq term m.ballot.term ≡ true) × (nodes.is_candidate m ≡ true) = both (nat_eq term m.ballot.term) (nodes.is_candidate m) parts.0 in
    let first : systems.WasSent s from j (payload.VoteReply m.ballot.term is_given) = subst (λ t. systems.WasSent s from j (payload.VoteReply t is_given)) (is_same term m.ballot.term more.0) sent in
    counts s j n m from clock up more.1 (subst (λ g. systems.WasSent s from j (payload.VoteReply m.ballot.term g)) parts.1 first))
    (λ e. quiet s j n m m [] up (kin m) (stays s j m up) tt)
