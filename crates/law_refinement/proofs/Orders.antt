-- What every transition keeps: the bag keeps only packets that were sent, and no node counts itself among the others.
use Rattle.std.proofs.Common.{◌≡◌, ℕ, zero, suc, ◌+◌, ◌-◌, List, [], ◌∷◌, ◌++◌, length, drop, refl, sym, subst, inl, inr}
use Rattle.std.specs.Prelude.{◌≢◌, true, false, nat_eq, Some, map}
use Rattle.std.specs.List.{AllByRecursion}
use Rattle.ax_types.specs.Places as lists
use Rattle.spec_raft.specs.Positions as positions
use Rattle.spec_raft.specs.Majority as majorities
use Rattle.spec_raft.specs.Log as logs
use Rattle.spec_raft.specs.Ballot as ballots
use Rattle.spec_raft.specs.Progress as progress
use Rattle.spec_node.specs.Node as nodes
use Rattle.spec_node.specs.NodeStep as steps
use Rattle.spec_cluster.specs.Bag as bags
use Rattle.spec_cluster.specs.Cluster as clusters
use Rattle.spec_transitions.specs.Systems as systems
use Rattle.spec_transitions.specs.Transitions as transitions
use Rattle.law_refinement.specs.Refinement as refinements
use Rattle.law_refinement.proofs.Tests.{by_test}
use Rattle.law_refinement.proofs.Elections.{to_others}
use Rattle.law_refinement.proofs.Replies.{seen_others}

-- what holds of all
all_since : {X : Type 0} (P R : X → Type 0) → ((x : X) → P x → R x) → (xs : List X) → AllByRecursion P xs → AllByRecursion R xs
all_since P R f [] h = tt
all_since P R f (x ∷ xs) h = (f x h.0, all_since P R f xs h.1)

all_push : {X : Type 0} (P : X → Type 0) (xs : List X) (x : X) → AllByRecursion P xs → P x → AllByRecursion P (xs ++ x ∷ [])
all_push P [] x h k = (k, tt)
all_push P (y ∷ xs) x h k = (h.0, all_push P xs x h.1 k)

all_drop : {X : Type 0} (P : X → Type 0) (n : ℕ) (xs : List X) → AllByRecursion P xs → AllByRecursion P (drop n xs)
all_drop P zero xs h = h
all_drop P (suc n) [] h = tt
all_drop P (suc n) (x ∷ xs) h = all_drop P n xs h.1

all_changed : {X : Type 0} (P : X → Type 0) (f : X → X) → ((x : X) → P x → P (f x)) → (xs : List X) (p : ℕ) → AllByRecursion P xs → AllByRecursion P (positions.change_place f xs p)
all_changed P f g xs zero h = h
all_changed P f g [] (suc p) h = tt
all_changed P f g (x ∷ xs) (suc zero) h = (g x h.0, h.1)
all_changed P f g (x ∷ xs) (suc (suc p)) h = (h.0, all_changed P f g xs (suc p) h.1)

pub all_at : {X : Type 0} (P : X → Type 0) (xs : List X) (p : ℕ) (x : X) → AllByRecursion P xs → lists.at_place xs p ≡ Some x → P x
all_at P xs zero x h e = absurd (cc (e))
all_at P [] (suc p) x h e = absurd (cc (e))
all_at P (y ∷ xs) (suc zero) x h e = let k : y ≡ x = cc (e) in subst P k h.0
all_at P (y ∷ xs) (suc (suc p)) x h e = all_at P xs (suc p) x h.1 e

-- a member changes
replaced : (s : systems.System) (j : ℕ) (m : clusters.Member) → refinements.IsOrderly s → refinements.KnowsOthers m.node → refinements.IsOrderly (systems.member_changed s j m)
replaced s j m o h = record { sent = o.sent; others = all_changed (λ x. refinements.KnowsOthers x.node) (λ old. m) (λ x k. h) s.cluster.members j o.others }

pub others_of : (s : systems.System) (j : ℕ) (m : clusters.Member) → refinements.IsOrderly s → lists.at_place s.cluster.members j ≡ Some m → refinements.KnowsOthers m.node
others_of s j m o e = all_at (λ x. refinements.KnowsOthers x.node) s.cluster.members j m o.others e

-- a node that is up changes, which knows the others if it did before
kept : (s : systems.System) (j : ℕ) (n a : nodes.Node) → refinements.IsOrderly s → systems.IsUp s j n → (refinements.KnowsOthers n → refinements.KnowsOthers a) → refinements.IsOrderly (systems.with_node s j a)
kept s j n a o up f = replaced s j (record { is_up = true; node = a }) o (f (others_of s j (record { is_up = true; node = n }) o up))

counted_others : (n : nodes.Node) (voter : ℕ) → refinements.KnowsOthers n → refinements.KnowsOthers (record n { ballot = ballots.counted n.ballot voter })
counted_others n voter h =
    by_test (λ b. AllByRecursion (λ p. p.node ≢ b.me) n.leading.peers) (majorities.is_in n.ballot.votes voter) n.ballot (record n.ballot { votes = n.ballot.votes ++ voter ∷ [] }) (λ e. h) (λ e. h)

-- one of the peers changes
changed_others : (me : ℕ) (f : progress.Peer → progress.Peer) → ((p : progress.Peer) → (f p).node ≡ p.node) → (k : ℕ) (peers : List progress.Peer)
    → AllByRecursion (λ p. p.node ≢ me) peers → AllByRecursion (λ p. p.node ≢ me) (progress.change_peer f k peers)
changed_others me f same k [] h = tt
changed_others me f same k (p ∷ peers) h =
    by_test (AllByRecursion (λ q. q.node ≢ me)) (nat_eq p.node k) (f p ∷ peers) (p ∷ progress.change_peer f k peers)
    (λ e. (subst (λ i. i ≢ me) (sym (same p)) h.0, h.1))
    (λ e. (h.0, changed_others me f same k peers h.1))

heeding : (s : systems.System) (j : ℕ) (n : nodes.Node) (peers : List progress.Peer) → transitions.Heeds s j n peers → refinements.KnowsOthers n → refinements.KnowsOthers (nodes.with_peers n peers)
heeding s j n peers (transitions.Accepts k place round sent e) h =
    subst (AllByRecursion (λ p. p.node ≢ n.ballot.me)) (sym e)
    (changed_others n.ballot.me (progress.accepting place round (length n.log))
    (λ p. by_test (λ q. q.node ≡ p.node) (progress.rises_at place (length n.log) p) (record (progress.acking round p) { matched = place; next = place + 1 }) (progress.acking round p) (λ t. refl) (λ t. refl)) k n.leading.peers h)
heeding s j n peers (transitions.Refuses k place round sent e) h =
    subst (AllByRecursion (λ p. p.node ≢ n.ballot.me)) (sym e)
    (changed_others n.ballot.me (progress.refusing place round)
    (λ p. by_test (λ q. q.node ≡ p.node) (progress.falls_at place p) (record (progress.acking round p) { next = place + 1 }) (progress.acking round p) (λ t. refl) (λ t. refl)) k n.leading.peers h)

-- each transition
pub keeps_order : (s : systems.System) (t : transitions.Transition) → refinements.IsOrderly s → transitions.May s t → refinements.IsOrderly (transitions.after_transition s t)
keeps_order s (transitions.Raise j n term) o may = kept s j n (nodes.seen n term) o may.0 (seen_others n term)
keeps_order s (transitions.Campaign j n) o may = kept s j n (nodes.candidate n) o may (λ h. tt)
keeps_order s (transitions.Grant j n candidate last last_term) o may = kept s j n (transitions.with_vote n candidate) o may.0 (λ h. h)
keeps_order s (transitions.Count j n voter) o may = kept s j n (record n { ballot = ballots.counted n.ballot voter }) o may.0 (counted_others n voter)
keeps_order s (transitions.Lead j n e is_made) o may =
    let x : systems.System = record s { cluster = record s.cluster { leds = transitions.with_led s.cluster.leds j e is_made } } in
    let ox : refinements.IsOrderly x = record { sent = o.sent; others = o.others } in
    kept x j n (transitions.leading n e) ox may.0 (λ h. to_others (λ p. p.node ≢ n.ballot.me) _ n.ballot.me (λ k ne. ne) (majorities.cluster_of n.ballot.nodes))
keeps_order s (transitions.Take j n time bodies) o may = kept s j n (transitions.with_log n (n.log ++ nodes.entries_of n.ballot.term time bodies)) o may.0 (λ h. h)
keeps_order s (transitions.Advance j n) o may =
    let x : refinements.IsOrderly (systems.with_node s j (nodes.advanced n)) = kept s j n (nodes.advanced n) o may.0 (λ h. h) in
    record { sent = x.sent; others = x.others }
keeps_order s (transitions.Tick j n) o may = kept s j n (nodes.ticked n) o may.0 (λ h. h)
keeps_order s (transitions.Arrive j n) o may =
    let x : refinements.IsOrderly (systems.with_node s j (nodes.read_taken n)) = kept s j n (nodes.read_taken n) o may.0 (λ h. h) in
    record { sent = x.sent; others = x.others }
keeps_order s (transitions.Follow j n leader) o may = kept s j n (nodes.followed n leader) o may.0 (λ h. h)
keeps_order s (transitions.Cut j n place) o may = kept s j n (transitions.with_log n (logs.cut_before n.log (Some place))) o may.0 (λ h. h)
keeps_order s (transitions.Extend j n es) o may = kept s j n (transitions.with_log n (n.log ++ es)) o may.0 (λ h. h)
keeps_order s (transitions.Learn j n commit) o may =
    let x : refinements.IsOrderly (systems.with_node s j (transitions.with_commit n commit)) = kept s j n (transitions.with_commit n commit) o may.0 (λ h. h) in
    record { sent = x.sent; others = x.others }
keeps_order s (transitions.Heed j n peers) o may = kept s j n (nodes.with_peers n peers) o may.0 (heeding s j n peers may.2)
keeps_order s (transitions.Answer j n) o may =
    let x : refinements.IsOrderly (systems.with_node s j (steps.without_given n)) = kept s j n (steps.without_given n) o may (λ h. h) in
    record { sent = x.sent; others = x.others }
keeps_order s (transitions.Tally j n) o may = record { sent = o.sent; others = o.others }
keeps_order s (transitions.Send p) o may = record {
  sent = all_drop (λ k. systems.Among k.packet (p ∷ s.sent)) (length (s.cluster.bag.kept ++ record { is_marked = false; packet = p } ∷ []) - bags.most_kept) (s.cluster.bag.kept ++ record { is_marked = false; packet = p } ∷ [])
      (all_push (λ k. systems.Among k.packet (p ∷ s.sent)) s.cluster.bag.kept (record { is_marked = false; packet = p }) (all_since (λ k. systems.Among k.packet s.sent) (λ k. systems.Among k.packet (p ∷ s.sent)) (λ k h. inr h) s.cluster.bag.kept o.sent) (inl refl));
  others = o.others;
}
keeps_order s (transitions.Mark number) o may = record {
  sent = all_changed (λ k. systems.Among k.packet s.sent) (λ k. record k { is_marked = true }) (λ k h. h) s.cluster.bag.kept (number - bags.gone s.cluster.bag) o.sent;
  others = o.others;
}
keeps_order s (transitions.Crash j n) o may = replaced s j (clusters.fallen_member n (nodes.kept_of n)) o tt
keeps_order s (transitions.Start j n) o may = replaced s j (record { is_up = true; node = nodes.restarted n.ballot.me n.ballot.nodes (nodes.kept_of n) }) o tt

pub keeps_order_all : (s : systems.System) (ts : List transitions.Transition) → refinements.IsOrderly s → transitions.AllMay s ts → refinements.IsOrderly (transitions.after_transitions s ts)
keeps_order_all s [] o may = o
keeps_order_all s (t ∷ ts) o may = keeps_order_all (transitions.after_transition s t) ts (keeps_order s t o may.0) may.1

-- the beginning
new_others : (n : ℕ) (ks : List ℕ) → AllByRecursion (λ m. refinements.KnowsOthers m.node) (map (λ k. let m : clusters.Member = record { is_up = true; node = nodes.new_node k n } in m) ks)
new_others n [] = tt
new_others n (k ∷ ks) = (tt, new_others n ks)

pub new_order : (n : ℕ) → refinements.IsOrderly (systems.new_system n)
new_order n = record { sent = tt; others = new_others n (majorities.cluster_of n) }
