-- What a follower does with an append packet leaves the past of the system its past.
use Rattle.std.proofs.Common.{◌≡◌, ℕ, suc, ◌+◌, ◌-◌, ◌<◌, ◌≤◌, List, [], ◌∷◌, ◌++◌, length, take, refl, ap, sym, ◌∙◌, subst, arith, inl, inr}
use Rattle.std.specs.Prelude.{◌≢◌, Bool, true, false, nat_lt, max, min, replicate, Some, None, if◌then◌else◌}
use Rattle.std.proofs.lemmas.List.{append-nil}
use Rattle.ax_types.specs.Places as lists
use Rattle.ax_types.specs.declared.entries.Entry.{Entry}
use Rattle.ax_types.specs.declared.ids.End.TheVariants as end
use Rattle.ax_types.specs.declared.packets.Payload.TheVariants as payload
use Rattle.spec_raft.specs.Majority as majorities
use Rattle.spec_raft.specs.Log as logs
use Rattle.spec_node.specs.Node as nodes
use Rattle.spec_cluster.specs.Cluster as clusters
use Rattle.spec_transitions.specs.Systems as systems
use Rattle.spec_transitions.specs.Transitions as transitions
use Rattle.spec_past.specs.Matching as matchings
use Rattle.spec_past.specs.Past as pasts
use Rattle.spec_past.specs.PastMoves as past_moves
use Rattle.law_past.proofs.Logs.{agree_less}
use Rattle.law_past.proofs.Later.{move_later, later_self}
use Rattle.law_past.proofs.Agreement.{meets}
use Rattle.law_agreement.specs.Pasts as agreement_pasts
use Rattle.law_agreement.proofs.Tests.{is_not_below, below, not_below, off}
use Rattle.law_agreement.proofs.Changes.{nothing_changes, log_put, commit_put, member_changes}
use Rattle.law_agreement.proofs.Slices.{matched, same_term, conflict_at, extended, lacks_some, slice_end}
use Rattle.law_agreement.proofs.Ballots.{Stays, up}

-- a node that neither leads nor runs follows
pub follows : (x : nodes.Node) → nodes.is_leader x ≡ false → nodes.is_candidate x ≡ false → agreement_pasts.role_number x.role ≡ 0
follows x a b = go x.role a b
  where
    go : (r : nodes.Role) → nodes.is_leading r ≡ false → nodes.is_running r ≡ false → agreement_pasts.role_number r ≡ 0
    go nodes.Follower a b = refl
    go nodes.Candidate a b = absurd (off (sym b))
    go nodes.Leader a b = absurd (off (sym a))

leads_not : {A : Type 0} (x : nodes.Node) → agreement_pasts.role_number x.role ≡ 0 → agreement_pasts.role_number x.role ≡ 2 → A
leads_not x a b = absurd (omega (arith, a, b))

-- what an append packet says of the log of its term's leader
pub appended : (n : ℕ) (s : systems.System) (w : pasts.Past) (j : ℕ) (x : nodes.Node) → agreement_pasts.IsPastOf n s w → (m : transitions.Matching s j x) → agreement_pasts.IsAppended w m.leader x.ballot.term m.prev m.prev_term m.commit m.entries
appended n s w j x i m = i.packets (record { «from» = end.Node m.leader; to = end.Node j; payload = payload.Append x.ballot.term m.prev m.prev_term m.commit m.round m.entries }) m.was_sent

-- the log of a node and that of its term's leader agree up to a place where their terms are equal
meets_at : (n : ℕ) (s : systems.System) (w : pasts.Past) (j : ℕ) (x : nodes.Node) → agreement_pasts.IsPastOf n s w → pasts.Sound (majorities.cluster_of n) w → systems.IsUp s j x → (p : ℕ) → p ≤ length x.log → p ≤ length (w.leader_log x.ballot.term) → logs.term_at x.log p ≡ logs.term_at (w.leader_log x.ballot.term) p → matchings.Agree x.log (w.leader_log x.ballot.term) p
meets_at n s w j x i sound at p =
    let l = i.members j (up x) at in
    subst (λ g. p ≤ length g → p ≤ length (w.leader_log x.ballot.term) → logs.term_at g p ≡ logs.term_at (w.leader_log x.ballot.term) p → matchings.Agree g (w.leader_log x.ballot.term) p) l.log (meets (majorities.cluster_of n) w j x.ballot.term p sound)

starts : (x : nodes.Node) (s : systems.System) (j : ℕ) (w : pasts.Past) (m : transitions.Matching s j x) → agreement_pasts.IsAppended w m.leader x.ballot.term m.prev m.prev_term m.commit m.entries → (logs.match_at x.log m.prev (logs.term_at (w.leader_log x.ballot.term) m.prev) ≡ true) × (m.prev ≤ length x.log)
starts x s j w m a = (ap (logs.match_at x.log m.prev) (sym a.before) ∙ m.matches, elim (matched x.log m.prev m.prev_term m.matches) [ inl z ↦ omega (arith, z) | inr h ↦ h.0 ])

pub cut_stays : (n : ℕ) (s : systems.System) (w : pasts.Past) (j : ℕ) (x : nodes.Node) (place : ℕ) → agreement_pasts.IsPastOf n s w → pasts.Sound (majorities.cluster_of n) w → systems.IsUp s j x → agreement_pasts.role_number x.role ≡ 0 → x.commit < place
    → (m : transitions.Matching s j x) → logs.first_conflict x.log m.prev m.entries ≡ Some place → Stays n (systems.with_node s j (transitions.with_log x (logs.cut_before x.log (Some place)))) w (past_moves.Cut j (place - 1) ∷ [])
cut_stays n s w j x place i sound at idle above m conflict =
    let l = i.members j (up x) at in
    let k = place - 1 in
    let a = appended n s w j x i m in
    let c = conflict_at x.log (w.leader_log x.ballot.term) m.prev m.entries place a.slice conflict in
    let e : suc k ≡ place = omega (arith, c.0) in
    let zero_role : pasts.role w j ≡ 0 = l.role ∙ idle in
    let len : length (w.log j) ≡ length x.log = ap (λ g. length g) l.log in
    let len_l : length (w.leader_log (pasts.term w j)) ≡ length (w.leader_log x.ballot.term) = ap (λ t. length (w.leader_log t)) l.term in
    let differ : logs.term_at (w.log j) (suc k) ≢ logs.term_at (w.leader_log (pasts.term w j)) (suc k) =
    λ z. c.3 (sym (ap (λ g. logs.term_at g place) l.log) ∙ sym (ap (logs.term_at (w.log j)) e) ∙ z ∙ ap (logs.term_at (w.leader_log (pasts.term w j))) e ∙ ap (λ t. logs.term_at (w.leader_log t) place) l.term) in
    let safe : w.commit j ≤ k = omega (arith, l.commit, above, e) in
    let left : suc k ≤ length (w.log j) = omega (arith, e, len, c.1) in
    let right : suc k ≤ length (w.leader_log (pasts.term w j)) = omega (arith, e, len_l, c.2) in
    let v = past_moves.moves w (past_moves.Cut j k) in
    record {
      fits = ((zero_role, safe, left, right, differ), tt);
      past = member_changes n s w v j (w.poll.member j) (take k (w.log j)) (w.commit j) (up x) (up (transitions.with_log x (take k x.log))) at i (move_later (majorities.cluster_of n) w (past_moves.Cut j k) (zero_role, safe, left, right, differ) sound) refl
          (log_put w v j (take k (w.log j)) refl refl refl)
          (record { me = l.me; size = l.size; term = l.term; vote = l.vote; role = l.role; votes = l.votes; log = ap (take k) l.log; commit = l.commit })
          (leads_not x idle);
    }

pub extend_stays : (n : ℕ) (s : systems.System) (w : pasts.Past) (j : ℕ) (x : nodes.Node) (es : List Entry) (k : ℕ) → agreement_pasts.IsPastOf n s w → pasts.Sound (majorities.cluster_of n) w → systems.IsUp s j x → agreement_pasts.role_number x.role ≡ 0
    → (m : transitions.Matching s j x) → logs.first_conflict x.log m.prev m.entries ≡ None → es ≡ take k (logs.lacking x.log m.prev m.entries) → Stays n (systems.with_node s j (transitions.with_log x (x.log ++ es))) w (agreement_pasts.extend_moves j es)
extend_stays n s w j x [] k i sound at idle m free same =
    let l = i.members j (up x) at in
    record {
      fits = tt;
      past = member_changes n s w w j (w.poll.member j) (w.log j) (w.commit j) (up x) (up (transitions.with_log x (x.log ++ []))) at i (later_self w) refl
          (nothing_changes w j)
          (record { me = l.me; size = l.size; term = l.term; vote = l.vote; role = l.role; votes = l.votes; log = l.log ∙ sym (append-nil x.log); commit = l.commit })
          (leads_not x idle);
    }
extend_stays n s w j x (e ∷ es) k i sound at idle m free same =
    let l = i.members j (up x) at in
    let h = w.leader_log x.ballot.term in
    let a = appended n s w j x i m in
    let b = starts x s j w m a in
    let some : 1 ≤ length (take k (logs.lacking x.log m.prev m.entries)) = subst (λ y. 1 ≤ length y) same (omega arith) in
    let lt = lacks_some x.log m.prev m.entries k some in
    let end = slice_end h m.prev m.entries a.slice in
    let last : logs.term_at x.log (length x.log) ≡ logs.term_at h (length x.log) = same_term x.log h m.prev m.entries (length x.log) a.slice b.0 free b.1 (omega arith) (omega (arith, lt)) in
    let whole : matchings.Agree x.log h (length x.log) = meets_at n s w j x i sound at (length x.log) (omega arith) (omega (arith, lt, end)) last in
    let more : matchings.Agree (x.log ++ take k (logs.lacking x.log m.prev m.entries)) h (length (x.log ++ take k (logs.lacking x.log m.prev m.entries))) = extended x.log h m.prev m.entries k a.slice whole b.1 (omega (arith, lt)) in
    let fit : matchings.Agree (w.log j ++ e ∷ es) (w.leader_log (pasts.term w j)) (length (w.log j ++ e ∷ es)) =
    subst (λ t. matchings.Agree (w.log j ++ e ∷ es) (w.leader_log t) (length (w.log j ++ e ∷ es))) (sym l.term)
    (subst (λ g. matchings.Agree (g ++ e ∷ es) h (length (g ++ e ∷ es))) (sym l.log) (subst (λ y. matchings.Agree (x.log ++ y) h (length (x.log ++ y))) (sym same) more)) in
    let zero_role : pasts.role w j ≡ 0 = l.role ∙ idle in
    let v = past_moves.moves w (past_moves.Extend j (e ∷ es)) in
    record {
      fits = ((zero_role, fit), tt);
      past = member_changes n s w v j (w.poll.member j) (w.log j ++ e ∷ es) (w.commit j) (up x) (up (transitions.with_log x (x.log ++ e ∷ es))) at i (move_later (majorities.cluster_of n) w (past_moves.Extend j (e ∷ es)) (zero_role, fit) sound) refl
          (log_put w v j (w.log j ++ e ∷ es) refl refl refl)
          (record { me = l.me; size = l.size; term = l.term; vote = l.vote; role = l.role; votes = l.votes; log = ap (λ g. g ++ e ∷ es) l.log; commit = l.commit })
          (leads_not x idle);
    }

-- a log that holds all that was sent agrees with that of the leader as far
pub holding : (n : ℕ) (s : systems.System) (w : pasts.Past) (j : ℕ) (x : nodes.Node) → agreement_pasts.IsPastOf n s w → pasts.Sound (majorities.cluster_of n) w → systems.IsUp s j x → (m : transitions.Matching s j x) → transitions.Holding s j x m → matchings.Agree (w.log j) (w.leader_log (pasts.term w j)) (m.prev + length m.entries)
holding n s w j x i sound at m h =
    let l = i.members j (up x) at in
    let g = w.leader_log x.ballot.term in
    let a = appended n s w j x i m in
    let b = starts x s j w m a in
    let p = m.prev + length m.entries in
    let e : logs.term_at x.log p ≡ logs.term_at g p = same_term x.log g m.prev m.entries p a.slice b.0 h.free (omega arith) h.long (omega arith) in
    let agree : matchings.Agree x.log g p = meets_at n s w j x i sound at p h.long (slice_end g m.prev m.entries a.slice) e in
    subst (λ t. matchings.Agree (w.log j) (w.leader_log t) p) (sym l.term) (subst (λ y. matchings.Agree y g p) (sym l.log) agree)

-- a node whose commit lies within what is committed
pub tally_stays : (n : ℕ) (s : systems.System) (w : pasts.Past) (y : nodes.Node) → agreement_pasts.IsPastOf n s w → y.commit ≤ length s.cluster.committed → agreement_pasts.IsPastOf n (systems.tallied s y) w
tally_stays n s w y i le =
    let es : clusters.entries_so_far s.cluster.committed y ≡ s.cluster.committed = ap (λ b. if b then take y.commit y.log else s.cluster.committed) (is_not_below (length s.cluster.committed) y.commit le) in
    let none : y.commit - length s.cluster.terms ≡ 0 = omega (arith, i.counted, le) in
    let ts : clusters.terms_so_far s.cluster.terms y ≡ s.cluster.terms = ap (λ k. s.cluster.terms ++ replicate k y.ballot.term) none ∙ append-nil s.cluster.terms in
    record {
      long = i.long;
      members = i.members;
      bare = i.bare;
      leaders = i.leaders;
      packets = i.packets;
      committed = i.committed ∙ sym es;
      counted = ap (λ l. length l) ts ∙ i.counted ∙ ap (λ l. length l) (sym es);
      terms = λ p t h. i.terms p t (sym (ap (λ l. lists.at_place l p) ts) ∙ h);
      leds = i.leds;
      once = i.once;
    }

pub learn_stays : (n : ℕ) (s : systems.System) (w : pasts.Past) (j : ℕ) (x : nodes.Node) (commit : ℕ) → agreement_pasts.IsPastOf n s w → pasts.Sound (majorities.cluster_of n) w → systems.IsUp s j x → agreement_pasts.role_number x.role ≡ 0
    → (m : transitions.Matching s j x) → transitions.Holding s j x m → commit ≡ max x.commit (min m.commit (m.prev + length m.entries))
    → Stays n (systems.tallied (systems.with_node s j (transitions.with_commit x commit)) (transitions.with_commit x commit)) w (agreement_pasts.learn_moves j x.commit commit)
learn_stays n s w j x commit i sound at idle m h is = go (nat_lt x.commit commit) refl
  where
    l : agreement_pasts.IsLike n j (w.poll.member j) (w.log j) (w.commit j) (up x)
    l = i.members j (up x) at

    y : nodes.Node
    y = transitions.with_commit x commit

    go : (b : Bool) → nat_lt x.commit commit ≡ b → Stays n (systems.tallied (systems.with_node s j (transitions.with_commit x commit)) (transitions.with_commit x commit)) w (if b then past_moves.Learn j commit commit ∷ [] else [])
    go true e =
        let up_to = below x.commit commit e in
        let p = m.prev + length m.entries in
        let told = (appended n s w j x i m).told in
        let told_same : w.told (pasts.term w j) ≡ w.told x.ballot.term = ap w.told l.term in
        let within : commit ≤ p = omega (arith, is, up_to) in
        let known : commit ≤ w.told (pasts.term w j) = omega (arith, is, up_to, told, told_same) in
        let fit : matchings.Agree (w.log j) (w.leader_log (pasts.term w j)) commit = agree_less (w.log j) (w.leader_log (pasts.term w j)) p commit within (holding n s w j x i sound at m h) in
        let v = past_moves.moves w (past_moves.Learn j commit commit) in
        let same : commit ≤ commit = omega arith in
        let after = member_changes n s w v j (w.poll.member j) (w.log j) commit (up x) (up (transitions.with_commit x commit)) at i (move_later (majorities.cluster_of n) w (past_moves.Learn j commit commit) (fit, same, known) sound) refl
        (commit_put w v j commit refl refl refl)
        (record { me = l.me; size = l.size; term = l.term; vote = l.vote; role = l.role; votes = l.votes; log = l.log; commit = refl })
        (leads_not x idle) in
        let bound = sound.behind (pasts.term w j) in
        let all : length w.committed ≡ length s.cluster.committed = ap (λ g. length g) i.committed in
        record {
          fits = ((fit, same, known), tt);
          past = tally_stays n (systems.with_node s j (transitions.with_commit x commit)) v (transitions.with_commit x commit) after (omega (arith, known, bound, all));
        }
    go false e =
        let low = not_below x.commit commit e in
        let same : x.commit ≡ commit = omega (arith, is, low) in
        let bound = sound.ahead j in
        let all : length w.committed ≡ length s.cluster.committed = ap (λ g. length g) i.committed in
        let after = member_changes n s w w j (w.poll.member j) (w.log j) (w.commit j) (up x) (up (transitions.with_commit x commit)) at i (later_self w) refl
        (nothing_changes w j)
        (record { me = l.me; size = l.size; term = l.term; vote = l.vote; role = l.role; votes = l.votes; log = l.log; commit = l.commit ∙ same })
        (leads_not x idle) in
        record {
          fits = tt;
          past = tally_stays n (systems.with_node s j (transitions.with_commit x commit)) w (transitions.with_commit x commit) after (omega (arith, bound, all, l.commit, same));
        }
