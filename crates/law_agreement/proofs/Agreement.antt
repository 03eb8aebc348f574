-- The laws of agreement, of a system with a sound past.
use Rattle.std.proofs.Common.{◌≡◌, ℕ, ◌+◌, ◌≤◌, List, [], ◌∷◌, ◌++◌, length, take, drop, refl, ap, sym, ◌∙◌, subst, arith, inl, inr}
use Rattle.std.specs.Prelude.{◌⊎◌, Bool, true, nat_le, Option, Some, None}
use Rattle.ax_types.specs.Places as lists
use Rattle.ax_types.specs.declared.entries.Entry.{Entry}
use Rattle.spec_raft.specs.Majority as majorities
use Rattle.spec_raft.specs.Log as logs
use Rattle.spec_raft.proofs.Counting.{length-cluster_of}
use Rattle.spec_cluster.specs.Cluster as clusters
use Rattle.spec_transitions.specs.Systems as systems
use Rattle.spec_transitions.specs.Transitions as transitions
use Rattle.spec_past.specs.Matching as matchings
use Rattle.spec_past.specs.Past as pasts
use Rattle.law_past.proofs.Logs.{agree_back, agree_on, agree_less, agree_time, le_or_lt}
use Rattle.law_past.proofs.Polls.{one_leader}
use Rattle.law_past.proofs.Agreement.{node_agrees, logs_agree, times_rise, leader_holds, kept_by, newest_done}
use Rattle.law_past.proofs.Later.{run_committed}
use Rattle.law_agreement.specs.Pasts as agreement_pasts
use Rattle.spec_cluster.proofs.Joined.{all_happened-append}
use Rattle.law_refinement.proofs.Steps.{run_executes, steps_execute}
use Rattle.law_agreement.specs.Agreement as laws
use Rattle.law_agreement.proofs.Tests.{at_most, below, is_below}
use Rattle.law_agreement.proofs.Ballots.{up, up_to_date}
use Rattle.law_agreement.proofs.Leaders.{leads}
use Rattle.law_agreement.proofs.Slices.{begun}
use Rattle.law_agreement.proofs.Transitions.{HasPast, has_past, transition_stays, transition_past}

pub one_leads : (n : ℕ) (s : systems.System) → HasPast n s → laws.OneLeads n s.cluster
one_leads n s h i j a b la lb e =
    let x = h.tied.members i (up a) la.0 in
    let y = h.tied.members j (up b) lb.0 in
    one_leader (majorities.cluster_of n) h.past.poll i j h.sound.fair (x.role ∙ leads a la.1) (y.role ∙ leads b lb.1) (x.term ∙ e ∙ sym y.term)

pub led_once : (n : ℕ) (s : systems.System) → HasPast n s → laws.LedOnce n s.cluster
led_once n s h i j x y a b e = h.tied.once i j x y a b e

pub logs_match : (n : ℕ) (s : systems.System) → HasPast n s → laws.LogsMatch n s.cluster
logs_match n s h i j a b p at_i at_j le_a le_b e =
    let x = h.tied.members i a at_i in
    let y = h.tied.members j b at_j in
    let r : (g k : List Entry) → h.past.log i ≡ g → h.past.log j ≡ k → p ≤ length g → p ≤ length k → logs.term_at g p ≡ logs.term_at k p → take p g ≡ take p k =
    λ g k eg ek l m t. subst (λ z. take p z ≡ take p k) eg (subst (λ z. take p (h.past.log i) ≡ take p z) ek
    (logs_agree (majorities.cluster_of n) h.past i j p h.sound (subst (λ z. p ≤ length z) (sym eg) l) (subst (λ z. p ≤ length z) (sym ek) m) (ap (λ z. logs.term_at z p) eg ∙ t ∙ sym (ap (λ z. logs.term_at z p) ek))).same) in
    r a.node.log b.node.log x.log y.log le_a le_b e

-- from what the past knows to what the cluster shows
shown : (n : ℕ) (s : systems.System) (h : HasPast n s) (g k : List Entry) (p : ℕ) → g ≡ k → matchings.Agree g h.past.committed p → laws.BeginsAs k s.cluster p
shown n s h g k p e a =
    let len : length g ≡ length k = ap (λ l. length l) e in
    let all : length h.past.committed ≡ length s.cluster.committed = ap (λ l. length l) h.tied.committed in
    (omega (arith, a.left, len), omega (arith, a.right, all), sym (ap (take p) e) ∙ a.same ∙ ap (take p) h.tied.committed)

pub logs_begin : (n : ℕ) (s : systems.System) → HasPast n s → laws.LogsBegin n s.cluster
logs_begin n s h j m at =
    let l = h.tied.members j m at in
    subst (λ c. laws.BeginsAs m.node.log s.cluster c) l.commit (shown n s h (h.past.log j) m.node.log (h.past.commit j) l.log (node_agrees (majorities.cluster_of n) h.past j h.sound))

pub leaders_hold : (n : ℕ) (s : systems.System) → HasPast n s → laws.LeadersHold n s.cluster
leaders_hold n s h j x p t lead at le =
    let l = h.tied.members j (up x) lead.0 in
    let c = h.tied.terms p t at in
    let low : t ≤ pasts.term h.past j = omega (arith, le, l.term) in
    let holds : matchings.Agree (h.past.log j) (h.past.leader_log t) c.place = leader_holds (majorities.cluster_of n) h.past j t c.place (l.role ∙ leads x lead.1) low c.quorum h.sound in
    shown n s h (h.past.log j) x.log p l.log (agree_on (h.past.log j) (h.past.leader_log t) h.past.committed p (agree_less (h.past.log j) (h.past.leader_log t) c.place p c.within holds) (agree_back h.past.committed (h.past.leader_log t) p c.agrees))

pub times_never_fall : (n : ℕ) (s : systems.System) → HasPast n s → laws.TimesRise n s.cluster
times_never_fall n s h = (λ j m at. subst (λ g. laws.Rises g) (h.tied.members j m at).log (λ p q le end. times_rise (majorities.cluster_of n) h.past j p q h.sound le end), subst (λ g. laws.Rises g) h.tied.committed (all h.sound.last))
  where
    all : (length h.past.committed ≡ 0) ⊎ ((x : ℕ) × pasts.Reason (majorities.cluster_of n) h.past.leader_log h.past.acked h.past.committed (length h.past.committed) x) → laws.Rises h.past.committed
    all (inl z) p q le end = let e : p ≡ q = omega (arith, le, end, z) in let r : (a b : ℕ) → a ≡ b → a ≤ b = λ a b s. omega (arith, s) in r (matchings.time_at h.past.committed p) (matchings.time_at h.past.committed q) (ap (matchings.time_at h.past.committed) e)
    all (inr r) p q le end =
        let g = h.past.leader_log r.1.term in
        let a = agree_time h.past.committed g (length h.past.committed) p (omega (arith, le, end)) r.1.agrees in
        let b = agree_time h.past.committed g (length h.past.committed) q end r.1.agrees in
        let c = h.sound.ages r.1.term p q le (omega (arith, end, r.1.agrees.right)) in
        omega (arith, a, b, c)

most_is : (n : ℕ) (some : ℕ → Bool) → matchings.IsMost some (majorities.cluster_of n) → laws.IsMajority n some
most_is n some m = let a = length-cluster_of n in is_below n (majorities.count some (majorities.cluster_of n) + majorities.count some (majorities.cluster_of n)) (omega (arith, a, m))

most_from : (n : ℕ) (some : ℕ → Bool) → laws.IsMajority n some → matchings.IsMost some (majorities.cluster_of n)
most_from n some m = let a = length-cluster_of n in let b = below n (majorities.count some (majorities.cluster_of n) + majorities.count some (majorities.cluster_of n)) m in omega (arith, a, b)

all_pass : (xs : List ℕ) → majorities.count (λ k. true) xs ≡ length xs
all_pass [] = refl
all_pass (x ∷ xs) = let r = all_pass xs in omega (arith, r)

nothing_committed : (n : ℕ) (s : systems.System) (h : HasPast n s) (g : List Entry) → length h.past.committed ≡ 0 → laws.BeginsAs g s.cluster (length s.cluster.committed)
nothing_committed n s h g z =
    let e : 0 ≡ length s.cluster.committed = sym z ∙ ap (λ l. length l) h.tied.committed in
    subst (λ p. laws.BeginsAs g s.cluster p) e (omega arith, omega arith, refl)

all_committed : (n : ℕ) (s : systems.System) (h : HasPast n s) → length h.past.committed ≡ length s.cluster.committed
all_committed n s h = ap (λ l. length l) h.tied.committed

pub majority_keeps : (n : ℕ) (s : systems.System) → 1 ≤ n → HasPast n s → laws.MajorityKeeps n s.cluster
majority_keeps n s one h = go h.sound.last
  where
    go : (length h.past.committed ≡ 0) ⊎ ((x : ℕ) × pasts.Reason (majorities.cluster_of n) h.past.leader_log h.past.acked h.past.committed (length h.past.committed) x) → laws.MajorityKeeps n s.cluster
    go (inl z) =
        let a = all_pass (majorities.cluster_of n) in
        let b = length-cluster_of n in
        (λ k. true, is_below n (majorities.count (λ k. true) (majorities.cluster_of n) + majorities.count (λ k. true) (majorities.cluster_of n)) (omega (arith, a, b, one)), λ j m e at. nothing_committed n s h m.node.log z)
    go (inr r) = (
      λ j. nat_le r.1.place (h.past.acked r.1.term j),
      most_is n (λ j. nat_le r.1.place (h.past.acked r.1.term j)) r.1.quorum.most,
      λ j m e at.
          let le = at_most r.1.place (h.past.acked r.1.term j) e in
          subst (λ p. laws.BeginsAs m.node.log s.cluster p) (all_committed n s h)
          (shown n s h (h.past.log j) m.node.log (length h.past.committed) (h.tied.members j m at).log (kept_by (majorities.cluster_of n) h.past j r.0 r.1 h.sound le)),
    )

-- each log is as new as one with nothing in it
newer_than_none : (g k : List Entry) → k ≡ [] → matchings.IsUpToDate g k
newer_than_none g k e = subst (λ z. matchings.IsUpToDate g z) (sym e) (elim (le_or_lt 1 (logs.last_term g)) [ inl some ↦ inl (omega (arith, some)) | inr none ↦ inr (omega (arith, none), omega arith) ])

pub newest_begins : (n : ℕ) (s : systems.System) → HasPast n s → laws.NewestBegins n s.cluster
newest_begins n s h some j m most at newer = go h.sound.last
  where
    l : agreement_pasts.IsLike n j (h.past.poll.member j) (h.past.log j) (h.past.commit j) m
    l = h.tied.members j m at

    up_at : (k : ℕ) → some k ≡ true → (o : Option clusters.Member) → lists.at_place s.cluster.members k ≡ o → matchings.IsUpToDate (h.past.log j) (h.past.log k)
    up_at k e None is = newer_than_none (h.past.log j) (h.past.log k) (h.tied.bare k is)
    up_at k e (Some b) is =
        subst (λ g. matchings.IsUpToDate (h.past.log j) g) (sym (h.tied.members k b is).log) (subst (λ g. matchings.IsUpToDate g b.node.log) (sym l.log)
        (up_to_date b.node.log m.node.log (logs.last_term m.node.log) (length m.node.log) refl refl (newer k b e is)))

    go : (length h.past.committed ≡ 0) ⊎ ((x : ℕ) × pasts.Reason (majorities.cluster_of n) h.past.leader_log h.past.acked h.past.committed (length h.past.committed) x) → laws.BeginsAs m.node.log s.cluster (length s.cluster.committed)
    go (inl z) = nothing_committed n s h m.node.log z
    go (inr r) = subst (λ p. laws.BeginsAs m.node.log s.cluster p) (all_committed n s h)
        (shown n s h (h.past.log j) m.node.log (length h.past.committed) l.log
        (newest_done (majorities.cluster_of n) h.past some (h.past.log j) r.0 r.1 h.sound (most_from n some most) (h.sound.part j) (λ k e. up_at k e (lists.at_place s.cluster.members k) refl)))

-- what is committed before is the beginning of what is committed after
prefix : (g k : List Entry) → matchings.Agree g k (length g) → (rest : List Entry) × (k ≡ g ++ rest)
prefix g k a = (drop (length g) k, begun g k a)

grows_from : (n : ℕ) (s : systems.System) (ts : List transitions.Transition) → transitions.AllMay s ts → HasPast n s → matchings.Agree s.cluster.committed (transitions.after_transitions s ts).cluster.committed (length s.cluster.committed)
grows_from n s [] may h = record { left = omega arith; right = omega arith; same = refl }
grows_from n s (t ∷ ts) may h =
    let r = transition_stays n s h.past t may.0 h.tied h.sound in
    let d = transitions.after_transition s t in
    let next = transition_past n s t may.0 h in
    let a : matchings.Agree s.cluster.committed d.cluster.committed (length s.cluster.committed) =
    subst (λ g. matchings.Agree g d.cluster.committed (length g)) h.tied.committed (subst (λ g. matchings.Agree h.past.committed g (length h.past.committed)) r.past.committed (run_committed (majorities.cluster_of n) h.past (agreement_pasts.moves_of h.past t) r.fits h.sound)) in
    let b = grows_from n d ts may.1 next in
    agree_on s.cluster.committed d.cluster.committed (transitions.after_transitions d ts).cluster.committed (length s.cluster.committed) a (agree_less d.cluster.committed (transitions.after_transitions d ts).cluster.committed (length d.cluster.committed) (length s.cluster.committed) a.right b)

pub committed_grows : laws.CommittedGrows
committed_grows n steps later =
    let a = run_executes n steps in
    let s = transitions.after_transitions (systems.new_system n) a.list in
    let b = steps_execute s later a.orderly in
    let r = prefix s.cluster.committed (transitions.after_transitions s b.list).cluster.committed (grows_from n s b.list b.may (has_past n a.list a.may)) in
    let first : s.cluster.committed ≡ clusters.committed_after n steps = ap (λ c. c.committed) a.ends in
    let all : (transitions.after_transitions s b.list).cluster ≡ clusters.all_happened (clusters.new_cluster n) (steps ++ later) = b.ends ∙ ap (λ c. clusters.all_happened c later) a.ends ∙ sym (all_happened-append (clusters.new_cluster n) steps later) in
    (r.0, sym (ap (λ c. c.committed) all) ∙ r.1 ∙ ap (λ g. g ++ r.0) first)

-- a law of each system with a sound past holds after every list of steps
pub always : (P : ℕ → clusters.Cluster → Type 0) → ((n : ℕ) (s : systems.System) → 1 ≤ n → HasPast n s → P n s.cluster) → laws.Always P
always P f n steps one =
    let x = run_executes n steps in
    subst (P n) x.ends (f n (transitions.after_transitions (systems.new_system n) x.list) one (has_past n x.list x.may))
