-- Over every list of transitions the reads are served as they should be.
use Rattle.std.proofs.Common.{◌≡◌, ℕ, zero, suc, ◌+◌, ◌-◌, ◌<◌, ◌≤◌, List, [], ◌∷◌, ◌++◌, length, map, refl, ap, sym, ◌∙◌, subst, arith, inl, inr}
use Rattle.std.specs.Prelude.{◌≢◌, Bool, true, false, nat_le, Some, None, if◌then◌else◌}
use Rattle.ax_types.specs.Places as lists
use Rattle.ax_types.specs.declared.ids.End.{End}
use Rattle.ax_types.specs.declared.ids.End.TheVariants as end
use Rattle.ax_types.specs.declared.packets.Payload.{Payload}
use Rattle.ax_types.specs.declared.packets.Payload.TheVariants as payload
use Rattle.spec_raft.specs.Majority as majorities
use Rattle.spec_raft.specs.Log as logs
use Rattle.spec_raft.specs.Progress as progress
use Rattle.spec_node.specs.Node as nodes
use Rattle.spec_cluster.specs.Cluster as clusters
use Rattle.spec_transitions.specs.Systems as systems
use Rattle.spec_transitions.specs.Transitions as transitions
use Rattle.spec_past.specs.Past as pasts
use Rattle.spec_past.specs.PastMoves as past_moves
use Rattle.law_past.proofs.Agreement.{run_sound, beginning_sound}
use Rattle.law_past.proofs.Later.{later_self}
use Rattle.law_refinement.proofs.Steps.{run_executes}
use Rattle.law_agreement.specs.Agreement as agreements
use Rattle.law_agreement.specs.Pasts as agreement_pasts
use Rattle.law_agreement.proofs.Tests.{is_below, is_not_below}
use Rattle.law_agreement.proofs.Members.{none_some}
use Rattle.law_agreement.proofs.Ballots.{Stays, up}
use Rattle.law_agreement.proofs.Followers.{appended}
use Rattle.law_agreement.proofs.Commits.{greatest_is}
use Rattle.law_agreement.proofs.Transitions.{transition_stays, new_past, new_member, new_at}
use Rattle.law_reads.specs.Service as services
use Rattle.law_reads.proofs.Goods.{serve_change, serve_tick, serve_tally}
use Rattle.law_reads.proofs.Serving.{Served, step_of, not_serving, leads_not, vote_serving, count_serving, serve_lead, serve_take, serve_heed, serve_send}
use Rattle.law_reads.proofs.Reading.{serve_arrive, serve_given, serve_advance}

none_leads : (y : nodes.Node) → agreement_pasts.role_number y.role ≡ 0 → agreement_pasts.role_number y.role ≢ 2
none_leads y a b = omega (arith, a, b)

follower : agreement_pasts.role_number nodes.Follower ≢ 2
follower e = omega (arith, e)

candidate : agreement_pasts.role_number nodes.Candidate ≢ 2
candidate e = omega (arith, e)

seen_idle : (y : nodes.Node) (t : ℕ) → y.ballot.term < t → (agreement_pasts.role_number (nodes.seen y t).role ≢ 2) × ((nodes.seen y t).leading.reads ≡ [])
seen_idle y t lt =
    let above = is_below y.ballot.term t lt in (
      λ e. follower (sym (ap (λ b. agreement_pasts.role_number (if b then nodes.Follower else y.role)) above) ∙ sym (split_role (Rattle.spec_raft.specs.Ballot.is_above y.ballot t)) ∙ e),
      split_reads (Rattle.spec_raft.specs.Ballot.is_above y.ballot t) above,
    )
  where
    split_role : (b : Bool) → agreement_pasts.role_number (if b then record y { ballot = Rattle.spec_raft.specs.Ballot.seen_ballot y.ballot t; role = nodes.Follower; leader = None; leading = nodes.not_leading } else y).role ≡ agreement_pasts.role_number (if b then nodes.Follower else y.role)
    split_role true = refl
    split_role false = refl

    split_reads : (b : Bool) → b ≡ true → (if b then record y { ballot = Rattle.spec_raft.specs.Ballot.seen_ballot y.ballot t; role = nodes.Follower; leader = None; leading = nodes.not_leading } else y).leading.reads ≡ []
    split_reads true e = refl
    split_reads false e = absurd (grind (arith, e))

-- a packet that is sent changes no term
tell_term : (w : pasts.Past) (j k : ℕ) (b : Bool) → pasts.term (past_moves.after_moves w (if b then past_moves.Tell j ∷ [] else [])) k ≡ pasts.term w k
tell_term w j k true = refl
tell_term w j k false = refl

ack_term : (w : pasts.Past) (j p k : ℕ) (b : Bool) → pasts.term (past_moves.after_moves w (if b then past_moves.Ack j p ∷ [] else [])) k ≡ pasts.term w k
ack_term w j p k true = refl
ack_term w j p k false = refl

send_term : (w : pasts.Past) (e : End) (p : Payload) (k : ℕ) → pasts.term (past_moves.after_moves w (agreement_pasts.send_moves w e p)) k ≡ pasts.term w k
send_term w (end.Node j) (payload.Append t prev prev_term commit round es) k = tell_term w j k (nat_le (w.told (pasts.term w j)) (w.commit j))
send_term w (end.Node j) (payload.AppendReply t true place round) k = ack_term w j place k (nat_le (w.acked (pasts.term w j) j) place)
send_term w e p k = refl

mark_service : (n : ℕ) (s : systems.System) (w : pasts.Past) (x : services.Service) (number : ℕ) → services.IsServiceOf n s w x → services.IsServiceOf n (transitions.after_transition s (transitions.Mark number)) w x
mark_service n s w x number i = record { latest = i.latest; members = i.members; within = i.within; begun = i.begun; good = i.good; takens = i.takens; packets = i.packets; numbered = i.numbered; once = i.once; givens = i.givens }

within_committed : (n : ℕ) (s : systems.System) (w : pasts.Past) (y : nodes.Node) → y.commit ≤ length s.cluster.committed → clusters.entries_so_far s.cluster.committed y ≡ s.cluster.committed
within_committed n s w y le = ap (λ b. if b then Rattle.std.proofs.Common.take y.commit y.log else s.cluster.committed) (is_not_below (length s.cluster.committed) y.commit le)

pub serve : (n : ℕ) (s : systems.System) (w : pasts.Past) (x : services.Service) (t : transitions.Transition) → transitions.May s t → agreement_pasts.IsPastOf n s w → pasts.Sound (majorities.cluster_of n) w → Stays n (transitions.after_transition s t) w (agreement_pasts.moves_of w t) → services.IsServiceOf n s w x
    → Served n (transitions.after_transition s t) (past_moves.after_moves w (agreement_pasts.moves_of w t))
serve n s w x (transitions.Raise j y t) m p sound r i =
    let st = step_of n s (transitions.after_transition s (transitions.Raise j y t)) w (agreement_pasts.moves_of w (transitions.Raise j y t)) p sound r refl in
    let idle = seen_idle y t m.1 in
    record { service = x; holds = serve_change n s w (past_moves.after_moves w (agreement_pasts.moves_of w (transitions.Raise j y t))) x j (up y) (up (nodes.seen y t)) m.0 i st.later st.same (not_serving x s.cluster.takens (length s.cluster.committed) j (up (nodes.seen y t)) idle.0 idle.1) }
serve n s w x (transitions.Campaign j y) m p sound r i =
    let st = step_of n s (transitions.after_transition s (transitions.Campaign j y)) w (agreement_pasts.moves_of w (transitions.Campaign j y)) p sound r refl in
    record { service = x; holds = serve_change n s w (past_moves.after_moves w (agreement_pasts.moves_of w (transitions.Campaign j y))) x j (up y) (up (nodes.candidate y)) m i st.later st.same (not_serving x s.cluster.takens (length s.cluster.committed) j (up (nodes.candidate y)) candidate refl) }
serve n s w x (transitions.Grant j y c last lt) m p sound r i =
    let st = step_of n s (transitions.after_transition s (transitions.Grant j y c last lt)) w (agreement_pasts.moves_of w (transitions.Grant j y c last lt)) p sound r refl in
    record { service = x; holds = serve_change n s w (past_moves.after_moves w (agreement_pasts.moves_of w (transitions.Grant j y c last lt))) x j (up y) (up (transitions.with_vote y c)) m.0 i st.later st.same (vote_serving x s.cluster.takens (length s.cluster.committed) j y c (i.members j (up y) m.0)) }
serve n s w x (transitions.Count j y v) m p sound r i =
    let st = step_of n s (transitions.after_transition s (transitions.Count j y v)) w (agreement_pasts.moves_of w (transitions.Count j y v)) p sound r refl in
    record { service = x; holds = serve_change n s w (past_moves.after_moves w (agreement_pasts.moves_of w (transitions.Count j y v))) x j (up y) (up (record y { ballot = Rattle.spec_raft.specs.Ballot.counted y.ballot v })) m.0 i st.later st.same (count_serving x s.cluster.takens (length s.cluster.committed) j y v (majorities.is_in y.ballot.votes v) (i.members j (up y) m.0)) }
serve n s w x (transitions.Lead j y e is_made) m p sound r i = record { service = x; holds = serve_lead n s w x j y e is_made p sound m.0 m.1 m.3 r i }
serve n s w x (transitions.Take j y time bodies) m p sound r i =
    let st = step_of n s (transitions.after_transition s (transitions.Take j y time bodies)) w (agreement_pasts.moves_of w (transitions.Take j y time bodies)) p sound r refl in
    record { service = x; holds = serve_take n s w (past_moves.after_moves w (agreement_pasts.moves_of w (transitions.Take j y time bodies))) x j y (nodes.entries_of y.ballot.term time bodies) m.0 st.later st.same i }
serve n s w x (transitions.Advance j y) m p sound r i =
    let c = progress.commit_place y.leading.peers y.log y.ballot.term y.commit in
    let le : y.commit ≤ c = elim (greatest_is (progress.may_commit y.leading.peers y.log y.ballot.term) y.commit (length y.log - y.commit)) [ inl e ↦ omega (arith, e) | inr g ↦ let a = g.over in omega (arith, a) ] in
    serve_advance n s w (past_moves.after_moves w (agreement_pasts.moves_of w (transitions.Advance j y))) x j y c p sound m.0 m.1 le r.fits (Rattle.law_past.proofs.Later.run_later (majorities.cluster_of n) w (agreement_pasts.moves_of w (transitions.Advance j y)) r.fits sound) r.past.committed i
serve n s w x (transitions.Tick j y) m p sound r i = record { service = record x { rounds = Rattle.spec_past.specs.Polls.put x.rounds y.ballot.term (suc (x.rounds y.ballot.term)) }; holds = serve_tick n s w x j y p sound m.0 m.1 i }
serve n s w x (transitions.Arrive j y) m p sound r i = serve_arrive n s w x j y p sound m.0 m.1 m.2 i
serve n s w x (transitions.Follow j y leader) m p sound r i =
    let st = step_of n s (transitions.after_transition s (transitions.Follow j y leader)) w (agreement_pasts.moves_of w (transitions.Follow j y leader)) p sound r refl in
    record { service = x; holds = serve_change n s w (past_moves.after_moves w (agreement_pasts.moves_of w (transitions.Follow j y leader))) x j (up y) (up (nodes.followed y leader)) m.0 i st.later st.same (not_serving x s.cluster.takens (length s.cluster.committed) j (up (nodes.followed y leader)) follower ((i.members j (up y) m.0).idle (leads_not y m.1))) }
serve n s w x (transitions.Cut j y place) m p sound r i =
    let st = step_of n s (transitions.after_transition s (transitions.Cut j y place)) w (agreement_pasts.moves_of w (transitions.Cut j y place)) p sound r refl in
    let new = transitions.with_log y (logs.cut_before y.log (Some place)) in
    record { service = x; holds = serve_change n s w (past_moves.after_moves w (agreement_pasts.moves_of w (transitions.Cut j y place))) x j (up y) (up new) m.0 i st.later st.same (not_serving x s.cluster.takens (length s.cluster.committed) j (up new) (leads_not y m.1) ((i.members j (up y) m.0).idle (leads_not y m.1))) }
serve n s w x (transitions.Extend j y es) m p sound r i =
    let st = step_of n s (transitions.after_transition s (transitions.Extend j y es)) w (agreement_pasts.moves_of w (transitions.Extend j y es)) p sound r refl in
    let new = transitions.with_log y (y.log ++ es) in
    record { service = x; holds = serve_change n s w (past_moves.after_moves w (agreement_pasts.moves_of w (transitions.Extend j y es))) x j (up y) (up new) m.0 i st.later st.same (not_serving x s.cluster.takens (length s.cluster.committed) j (up new) (leads_not y m.1) ((i.members j (up y) m.0).idle (leads_not y m.1))) }
serve n s w x (transitions.Learn j y commit) m p sound r i =
    let new = transitions.with_commit y commit in
    let a = (p.members j (up y) m.0).commit in
    let b = sound.ahead j in
    let c = (appended n s w j y p m.3.0).told in
    let d = sound.behind y.ballot.term in
    let e = ap (λ g. length g) p.committed in
    let le : commit ≤ length s.cluster.committed = let f = m.3.2 in omega (arith, a, b, c, d, e, f) in
    let same = within_committed n s w (transitions.with_commit y commit) le in
    let st = step_of n s (transitions.after_transition s (transitions.Learn j y commit)) w (agreement_pasts.moves_of w (transitions.Learn j y commit)) p sound r same in
    record {
      service = x;
      holds = serve_tally n (systems.with_node s j (transitions.with_commit y commit)) (past_moves.after_moves w (agreement_pasts.moves_of w (transitions.Learn j y commit))) x (transitions.with_commit y commit) same
          (serve_change n s w (past_moves.after_moves w (agreement_pasts.moves_of w (transitions.Learn j y commit))) x j (up y) (up new) m.0 i st.later st.same (not_serving x s.cluster.takens (length s.cluster.committed) j (up new) (leads_not y m.1) ((i.members j (up y) m.0).idle (leads_not y m.1))));
    }
serve n s w x (transitions.Heed j y peers) m p sound r i = record { service = x; holds = serve_heed n s w x j y peers m.0 m.1 m.2 i }
serve n s w x (transitions.Answer j y) m p sound r i = record { service = x; holds = serve_given n s w x j y p sound m i }
serve n s w x (transitions.Tally j y) m p sound r i =
    let a = (p.members j (up y) m).commit in
    let b = sound.ahead j in
    let e = ap (λ g. length g) p.committed in
    record { service = x; holds = serve_tally n s w x y (within_committed n s w y (omega (arith, a, b, e))) i }
serve n s w x (transitions.Send q) m p sound r i =
    let st = step_of n s (transitions.after_transition s (transitions.Send q)) w (agreement_pasts.moves_of w (transitions.Send q)) p sound r refl in
    serve_send n s w (past_moves.after_moves w (agreement_pasts.moves_of w (transitions.Send q))) x q p (send_term w q.«from» q.payload) st.later st.same m i
serve n s w x (transitions.Mark number) m p sound r i = record { service = x; holds = mark_service n s w x number i }
serve n s w x (transitions.Crash j y) m p sound r i =
    let st = step_of n s (transitions.after_transition s (transitions.Crash j y)) w (agreement_pasts.moves_of w (transitions.Crash j y)) p sound r refl in
    record {
      service = x;
      holds = serve_change n s w (past_moves.after_moves w (agreement_pasts.moves_of w (transitions.Crash j y))) x j (up y) (record { is_up = false; node = nodes.restarted y.ballot.me y.ballot.nodes (nodes.kept_of y) }) m i st.later st.same
          (not_serving x s.cluster.takens (length s.cluster.committed) j (record { is_up = false; node = nodes.restarted y.ballot.me y.ballot.nodes (nodes.kept_of y) }) follower refl);
    }
serve n s w x (transitions.Start j y) m p sound r i =
    let st = step_of n s (transitions.after_transition s (transitions.Start j y)) w (agreement_pasts.moves_of w (transitions.Start j y)) p sound r refl in
    record {
      service = x;
      holds = serve_change n s w (past_moves.after_moves w (agreement_pasts.moves_of w (transitions.Start j y))) x j (record { is_up = false; node = y }) (record { is_up = true; node = nodes.restarted y.ballot.me y.ballot.nodes (nodes.kept_of y) }) m i st.later st.same
          (not_serving x s.cluster.takens (length s.cluster.committed) j (record { is_up = true; node = nodes.restarted y.ballot.me y.ballot.nodes (nodes.kept_of y) }) follower refl);
    }

-- a system with a sound past, whose reads are served as they should be
pub record HasService (n : ℕ) (s : systems.System) : Type 0 where
  pub past : pasts.Past
  pub sound : pasts.Sound (majorities.cluster_of n) past
  pub tied : agreement_pasts.IsPastOf n s past
  pub service : services.Service
  pub serves : services.IsServiceOf n s past service

pub transition_service : (n : ℕ) (s : systems.System) (t : transitions.Transition) → transitions.May s t → HasService n s → HasService n (transitions.after_transition s t)
transition_service n s t m h =
    let r = transition_stays n s h.past t m h.tied h.sound in
    let a = serve n s h.past h.service t m h.tied h.sound r h.serves in
    record { past = past_moves.after_moves h.past (agreement_pasts.moves_of h.past t); sound = run_sound (majorities.cluster_of n) h.past (agreement_pasts.moves_of h.past t) r.fits h.sound; tied = r.past; service = a.service; serves = a.holds }

pub transitions_service : (n : ℕ) (s : systems.System) (ts : List transitions.Transition) → transitions.AllMay s ts → HasService n s → HasService n (transitions.after_transitions s ts)
transitions_service n s [] m h = h
transitions_service n s (t ∷ ts) m h = transitions_service n (transitions.after_transition s t) ts m.1 (transition_service n s t m.0 h)

nowhere : {X : Type 0} (p : ℕ) (x : X) → lists.at_place [] p ≡ Some x → ⊥
nowhere zero x h = none_some x h
nowhere (suc p) x h = none_some x h

new_service : services.Service
new_service = record { by = 0; rounds = λ t. 0; answered = λ t k. 0; reads = [] }

new_serves : (n : ℕ) → services.IsServiceOf n (systems.new_system n) past_moves.beginning new_service
unfolding new_service
new_serves n = record {
  latest = inl refl;
  members = λ k m h. subst (services.IsServing (record { by = 0; rounds = λ t. 0; answered = λ t k. 0; reads = [] }) [] 0 k) (new_at n k m h)
      (not_serving (record { by = 0; rounds = λ t. 0; answered = λ t k. 0; reads = [] }) [] 0 k (new_member n k) follower refl);
  within = λ t k. omega arith;
  begun = λ t ne. absurd (ne refl);
  good = tt;
  takens = refl;
  packets = λ p a. absurd a;
  numbered = λ t. refl;
  once = λ i j t u h g e f. absurd (nowhere i t h);
  givens = λ i g h. absurd (nowhere i g h);
}

pub begins_service : (n : ℕ) → HasService n (systems.new_system n)
begins_service n = record { past = past_moves.beginning; sound = beginning_sound (majorities.cluster_of n); tied = new_past n; service = new_service; serves = new_serves n }

pub has_service : (n : ℕ) (ts : List transitions.Transition) → transitions.AllMay (systems.new_system n) ts → HasService n (transitions.after_transitions (systems.new_system n) ts)
has_service n ts m = transitions_service n (systems.new_system n) ts m (begins_service n)

-- a law of each system whose reads are served holds after every list of steps
pub always : (P : ℕ → clusters.Cluster → Type 0) → ((n : ℕ) (s : systems.System) → HasService n s → P n s.cluster) → agreements.Always P
always P f n steps one =
    let x = run_executes n steps in
    subst (P n) x.ends (f n (transitions.after_transitions (systems.new_system n) x.list) (has_service n x.list x.may))
