-- Each transition of a system whose past is sound leaves it a sound past.
use Rattle.std.proofs.Common.{◌≡◌, ℕ, zero, suc, ◌+◌, List, [], ◌∷◌, length, refl, ap, ◌∙◌, subst, arith}
use Rattle.std.specs.Prelude.{true, false, Some, map}
use Rattle.ax_types.specs.Places as lists
use Rattle.std.proofs.lemmas.List.{length-map}
use Rattle.spec_raft.specs.Majority as majorities
use Rattle.spec_raft.proofs.Counting.{length-cluster_of}
use Rattle.spec_node.specs.Node as nodes
use Rattle.spec_cluster.specs.Cluster as clusters
use Rattle.spec_transitions.specs.Systems as systems
use Rattle.spec_transitions.specs.Transitions as transitions
use Rattle.spec_past.specs.Past as pasts
use Rattle.spec_past.specs.PastMoves as past_moves
use Rattle.law_past.proofs.Agreement.{run_sound, beginning_sound}
use Rattle.law_agreement.specs.Pasts as agreement_pasts
use Rattle.law_agreement.proofs.Members.{some_same, none_some}
use Rattle.law_agreement.proofs.Ballots.{Stays, up, raise_stays, campaign_stays, grant_stays, count_stays, follow_stays, fall_stays}
use Rattle.law_agreement.proofs.Followers.{follows, cut_stays, extend_stays, learn_stays, tally_stays}
use Rattle.law_agreement.proofs.Leaders.{lead_stays, take_stays, tick_stays, arrive_stays, answer_stays, heed_stays}
use Rattle.law_agreement.proofs.Commits.{advance_stays}
use Rattle.law_agreement.proofs.Packets.{send_stays, mark_stays}

still : (n : ℕ) (s : systems.System) (w : pasts.Past) → agreement_pasts.IsPastOf n s w → Stays n s w []
still n s w i = record { fits = tt; past = i }

pub transition_stays : (n : ℕ) (s : systems.System) (w : pasts.Past) (t : transitions.Transition) → transitions.May s t → agreement_pasts.IsPastOf n s w → pasts.Sound (majorities.cluster_of n) w → Stays n (transitions.after_transition s t) w (agreement_pasts.moves_of w t)
transition_stays n s w (transitions.Raise j x t) m i sound = raise_stays n s w j x t i sound m.0 m.1
transition_stays n s w (transitions.Campaign j x) m i sound = campaign_stays n s w j x i sound m
transition_stays n s w (transitions.Grant j x c last lt) m i sound = grant_stays n s w j x c last lt i sound m.0 m.1 m.2
transition_stays n s w (transitions.Count j x v) m i sound = count_stays n s w j x v i sound m.0 m.2
transition_stays n s w (transitions.Lead j x e is_made) m i sound = lead_stays n s w j x e is_made i sound m.0 m.1 m.2 m.3 m.4
transition_stays n s w (transitions.Take j x time bodies) m i sound = take_stays n s w j x time bodies i sound m.0 m.1 m.2
transition_stays n s w (transitions.Advance j x) m i sound = advance_stays n s w j x i sound m.0 m.1
transition_stays n s w (transitions.Tick j x) m i sound = still n (systems.with_node s j (nodes.ticked x)) w (tick_stays n s w j x i m.0)
transition_stays n s w (transitions.Arrive j x) m i sound = record { fits = tt; past = arrive_stays n s w j x i m.0 }
transition_stays n s w (transitions.Follow j x leader) m i sound = follow_stays n s w j x leader i sound m.0
transition_stays n s w (transitions.Cut j x place) m i sound = cut_stays n s w j x place i sound m.0 (follows x m.1 m.2) m.3 m.4.0 m.4.1
transition_stays n s w (transitions.Extend j x es) m i sound = extend_stays n s w j x es m.3.1 i sound m.0 (follows x m.1 m.2) m.3.0 m.3.2 m.3.3
transition_stays n s w (transitions.Learn j x commit) m i sound = learn_stays n s w j x commit i sound m.0 (follows x m.1 m.2) m.3.0 m.3.1 m.3.2
transition_stays n s w (transitions.Heed j x peers) m i sound = record { fits = tt; past = heed_stays n s w j x peers i m.0 m.1 m.2 }
transition_stays n s w (transitions.Answer j x) m i sound = record { fits = tt; past = answer_stays n s w j x i m }
transition_stays n s w (transitions.Tally j x) m i sound =
    record { fits = tt; past = tally_stays n s w x i (let a = (i.members j (up x) m).commit in let b = sound.ahead j in let c = ap (λ g. length g) i.committed in omega (arith, a, b, c)) }
transition_stays n s w (transitions.Send p) m i sound = send_stays n s w p i sound m
transition_stays n s w (transitions.Mark number) m i sound = record { fits = tt; past = mark_stays n s w number i }
transition_stays n s w (transitions.Crash j x) m i sound = fall_stays n s w j true false x i sound m
transition_stays n s w (transitions.Start j x) m i sound = fall_stays n s w j false true x i sound m

-- a system with a sound past
pub record HasPast (n : ℕ) (s : systems.System) : Type 0 where
  pub past : pasts.Past
  pub sound : pasts.Sound (majorities.cluster_of n) past
  pub tied : agreement_pasts.IsPastOf n s past

pub transition_past : (n : ℕ) (s : systems.System) (t : transitions.Transition) → transitions.May s t → HasPast n s → HasPast n (transitions.after_transition s t)
transition_past n s t m h =
    let r = transition_stays n s h.past t m h.tied h.sound in
    record { past = past_moves.after_moves h.past (agreement_pasts.moves_of h.past t); sound = run_sound (majorities.cluster_of n) h.past (agreement_pasts.moves_of h.past t) r.fits h.sound; tied = r.past }

pub transitions_past : (n : ℕ) (s : systems.System) (ts : List transitions.Transition) → transitions.AllMay s ts → HasPast n s → HasPast n (transitions.after_transitions s ts)
transitions_past n s [] m h = h
transitions_past n s (t ∷ ts) m h = transitions_past n (transitions.after_transition s t) ts m.1 (transition_past n s t m.0 h)

-- at the beginning
abbrev pub new_member : ℕ → ℕ → clusters.Member
new_member n k = record { is_up = true; node = nodes.new_node k n }

new_from : (n a k p : ℕ) (m : clusters.Member) → lists.at_place (map (new_member n) (lists.numbers_from a k)) (suc p) ≡ Some m → new_member n (a + p) ≡ m
new_from n a zero p m h = absurd (none_some m h)
new_from n a (suc k) zero m h = let e : a + 0 ≡ a = omega arith in ap (new_member n) e ∙ some_same (new_member n a) m h
new_from n a (suc k) (suc p) m h = let e : a + suc p ≡ suc a + p = omega arith in ap (new_member n) e ∙ new_from n (suc a) k p m h

pub new_at : (n k : ℕ) (m : clusters.Member) → lists.at_place (map (new_member n) (majorities.cluster_of n)) k ≡ Some m → new_member n k ≡ m
new_at n zero m h = absurd (none_some m h)
new_at n (suc p) m h = let e : suc p ≡ 1 + p = omega arith in ap (new_member n) e ∙ new_from n 1 n p m h

new_like : (n k : ℕ) → agreement_pasts.IsLike n k (past_moves.beginning.poll.member k) (past_moves.beginning.log k) (past_moves.beginning.commit k) (new_member n k)
new_like n k = record { me = refl; size = refl; term = refl; vote = refl; role = refl; votes = λ one u. refl; log = refl; commit = refl }

nowhere : {X : Type 0} (p : ℕ) (x : X) → lists.at_place [] p ≡ Some x → ⊥
nowhere zero x h = none_some x h
nowhere (suc p) x h = none_some x h

pub new_past : (n : ℕ) → agreement_pasts.IsPastOf n (systems.new_system n) past_moves.beginning
new_past n = record {
  long = length-map (majorities.cluster_of n) (new_member n) ∙ length-cluster_of n;
  members = λ k m h. subst (λ y. agreement_pasts.IsLike n k (past_moves.beginning.poll.member k) (past_moves.beginning.log k) (past_moves.beginning.commit k) y) (new_at n k m h) (new_like n k);
  bare = λ k none. refl;
  leaders = λ k m h two. absurd (idle (ap (λ (y : clusters.Member). agreement_pasts.role_number y.node.role) (new_at n k m h) ∙ two));
  packets = λ p a. absurd a;
  committed = refl;
  counted = refl;
  terms = λ p t h. absurd (nowhere p t h);
  leds = λ k x h. absurd (nowhere k x h);
  once = λ k m x y h g e. absurd (nowhere k x h);
}
  where
    idle : agreement_pasts.role_number nodes.Follower ≡ 2 → ⊥
    idle e = omega (arith, e)

-- so each system that transitions lead to has a sound past
pub has_past : (n : ℕ) (ts : List transitions.Transition) → transitions.AllMay (systems.new_system n) ts → HasPast n (transitions.after_transitions (systems.new_system n) ts)
has_past n ts m = transitions_past n (systems.new_system n) ts m (record { past = past_moves.beginning; sound = beginning_sound (majorities.cluster_of n); tied = new_past n })
