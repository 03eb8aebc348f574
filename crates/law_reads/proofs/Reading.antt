-- A read that arrives, reads that are given, and a commit that rises leave the reads served as they should be.
use Rattle.std.proofs.Common.{◌≡◌, ℕ, suc, ◌+◌, ◌<◌, ◌≤◌, List, [], ◌∷◌, ◌++◌, length, map, take, refl, ap, sym, ◌∙◌, subst, arith, inl, inr, length-append}
use Rattle.std.specs.Prelude.{◌⊎◌, ◌≢◌, Bool, true, false, ◌||◌, not, nat_eq, nat_lt, nat_le, max, filter, Some, if◌then◌else◌}
use Rattle.std.proofs.lemmas.List.{length-take-le, length-map, append-nil}
use Rattle.ax_types.specs.Places as lists
use Rattle.spec_raft.specs.Majority as majorities
use Rattle.spec_raft.specs.Log as logs
use Rattle.spec_raft.specs.Progress as progress
use Rattle.spec_raft.proofs.Counting.{length-cluster_of, count-wider}
use Rattle.spec_node.specs.Node as nodes
use Rattle.spec_node.specs.NodeStep as steps
use Rattle.spec_cluster.specs.Cluster as clusters
use Rattle.spec_transitions.specs.Systems as systems
use Rattle.spec_transitions.specs.Transitions as transitions
use Rattle.spec_past.specs.Matching as matchings
use Rattle.spec_past.specs.Past as pasts
use Rattle.spec_past.specs.PastMoves as past_moves
use Rattle.spec_past.specs.Later as laters
use Rattle.law_past.proofs.Commits.{laws}
use Rattle.law_past.proofs.Safety.{arrives, fresh}
use Rattle.law_past.proofs.Polls.{same_or, one_leader}
use Rattle.law_past.proofs.Later.{quorum_later}
use Rattle.law_agreement.specs.Pasts as agreement_pasts
use Rattle.law_agreement.proofs.Tests.{equal, at_most, above, below, not_below, is_at_most, is_below, is_not_below, is_equal, both, either, on_or_off}
use Rattle.law_agreement.proofs.Members.{changing, place_within}
use Rattle.law_agreement.proofs.Others.{one_more, others_long}
use Rattle.law_agreement.proofs.Ballots.{up}
use Rattle.law_agreement.proofs.Leaders.{leads, last_place}
use Rattle.law_agreement.proofs.Commits.{more}
use Rattle.law_reads.specs.Reads as reads
use Rattle.law_reads.specs.Service as services
use Rattle.law_reads.proofs.Takens.{stays_at, last_at, was_or_new, each_more, each_append, each_filter, each_passing, read_at, of_more, of_own, of_other, map_more, numbers_more}
use Rattle.law_reads.proofs.Goods.{serve_past, serve_tally}
use Rattle.law_reads.proofs.Serving.{Served}

-- the nodes above a term, where a later term was led
above_term : (n : ℕ) (w : pasts.Past) (t by : ℕ) → pasts.Sound (majorities.cluster_of n) w → t < by → w.poll.led by ≡ true → matchings.IsMost (λ k. nat_lt t (pasts.term w k)) (majorities.cluster_of n)
above_term n w t by sound lt led =
    let wider = count-wider (w.poll.voters by) (λ k. nat_lt t (pasts.term w k)) (majorities.cluster_of n) (λ k g.
    let e = sound.fair.chose by k led g in
    let some : w.poll.cast by k ≢ 0 = λ z. sound.fair.named by led (sym e ∙ z) in
    is_below t (pasts.term w k) (elim (sound.fair.stays by k some) [ inl l ↦ omega (arith, lt, l) | inr l ↦ omega (arith, lt, l.0) ])) in
    let most = sound.fair.most by led in
    omega (arith, wider, most)

-- a read that arrives is as new as what is committed, or a majority is above its term
enough : (n : ℕ) (s : systems.System) (w : pasts.Past) (x : services.Service) (j : ℕ) (y : nodes.Node) → agreement_pasts.IsPastOf n s w → pasts.Sound (majorities.cluster_of n) w → systems.IsUp s j y → nodes.is_leader y ≡ true → services.IsServiceOf n s w x
    → (length s.cluster.committed ≤ max y.commit y.leading.first) ⊎ matchings.IsMost (λ k. nat_lt y.ballot.term (pasts.term w k)) (majorities.cluster_of n)
enough n s w x j y p sound at is i = go i.latest
  where
    l : agreement_pasts.IsLike n j (w.poll.member j) (w.log j) (w.commit j) (up y)
    l = p.members j (up y) at

    o : services.IsServer x s.cluster.takens j y
    o = (i.members j (up y) at).server (leads y is)

    all : length w.committed ≡ length s.cluster.committed
    all = ap (λ g. length g) p.committed

    rules : (w.poll.led (pasts.term w j) ≡ true) × (w.poll.leader (pasts.term w j) ≡ j)
    rules = sound.fair.rules j (l.role ∙ leads y is)

    own : w.leader_log y.ballot.term ≡ y.log
    own = ap w.leader_log (sym l.term) ∙ sound.holds j (l.role ∙ leads y is) ∙ l.log

    go : (length w.committed ≡ 0) ⊎ matchings.Quorum (majorities.cluster_of n) w.leader_log w.acked x.by (length w.committed) → (length s.cluster.committed ≤ max y.commit y.leading.first) ⊎ matchings.IsMost (λ k. nat_lt y.ballot.term (pasts.term w k)) (majorities.cluster_of n)
    go (inl z) = inl (omega (arith, all, z))
    go (inr q) =
        let t = y.ballot.term in
        let full : 1 ≤ length (w.leader_log y.ballot.term) = sound.filled y.ballot.term (ap w.poll.led (sym l.term) ∙ rules.0) in
        let at_first : logs.term_at (w.leader_log y.ballot.term) y.leading.first ≡ y.ballot.term = ap (λ g. logs.term_at g y.leading.first) own ∙ o.own in
        let within : y.leading.first ≤ length (w.leader_log y.ballot.term) = let a = ap (λ g. length g) own in let b = o.first in omega (arith, a, b) in
        let low : x.by ≡ y.ballot.term → length w.committed ≤ y.commit = λ e. let a = (i.members j (up y) at).mine (leads y is) e in omega (arith, a, all) in
        elim (arrives (majorities.cluster_of n) w.leader_log w.acked w.poll.voters (λ u. w.candidate_log u (w.poll.leader u)) w.voter_log y.ballot.term x.by (length w.committed) y.commit y.leading.first (laws (majorities.cluster_of n) w sound) q low full at_first within) [
          | inl c ↦ elim c [ inl a ↦ inl (omega (arith, a, all)) | inr a ↦ inl (omega (arith, a, all)) ]
          | inr lt ↦ inr (above_term n w y.ballot.term x.by sound lt (sound.only x.by (let a = q.place in let b = q.within in omega (arith, a, b))))
        ]

abbrev new_read : (y : nodes.Node) (j c : ℕ) → clusters.ReadTaken
new_read y j c = record { node = j; term = y.ballot.term; arrival = suc y.leading.arrivals; place = max y.commit y.leading.first; round = suc y.leading.round; committed = c }

waiting_more : (takens : List clusters.ReadTaken) (t : clusters.ReadTaken) (j u : ℕ) (r : progress.Waiting) → services.IsWaiting takens j u r → services.IsWaiting (takens ++ t ∷ []) j u r
waiting_more takens t j u r h = record { position = h.position; taken = h.taken; is_there = stays_at takens (t ∷ []) h.position h.taken h.is_there; node = h.node; term = h.term; arrival = h.arrival; place = h.place; round = h.round }

fresh_more : (takens : List clusters.ReadTaken) (t : clusters.ReadTaken) (g : clusters.ReadGiven) → reads.SeesCommitted takens g → reads.SeesCommitted (takens ++ t ∷ []) g
fresh_more takens t g h = record { position = h.position; taken = h.taken; is_there = stays_at takens (t ∷ []) h.position h.taken h.is_there; node = h.node; term = h.term; arrival = h.arrival; place = h.place; fresh = h.fresh }

pub serve_arrive : (n : ℕ) (s : systems.System) (w : pasts.Past) (x : services.Service) (j : ℕ) (y : nodes.Node) → agreement_pasts.IsPastOf n s w → pasts.Sound (majorities.cluster_of n) w → systems.IsUp s j y → nodes.is_leader y ≡ true → progress.has_read_room y.leading.reads ≡ true → services.IsServiceOf n s w x
    → Served n (transitions.after_transition s (transitions.Arrive j y)) w
serve_arrive n s w x j y p sound at is room i = record {
  service = record { by = x.by; rounds = x.rounds; answered = x.answered; reads = x.reads ++ record { taken = new_read y j (length s.cluster.committed); above = λ k. nat_lt y.ballot.term (pasts.term w k) } ∷ [] };
  holds = record {
    latest = i.latest;
    members = changing (services.IsServing z (s.cluster.takens ++ new_read y j (length s.cluster.committed) ∷ []) (length s.cluster.committed)) s.cluster.members j (up y) (up (nodes.read_taken y)) at
        (record {
          server = λ two. record {
            round = o.round;
            first = o.first;
            own = o.own;
            acked = o.acked;
            waiting = subst (agreement_pasts.Each (services.IsWaiting (s.cluster.takens ++ new_read y j (length s.cluster.committed) ∷ []) j y.ballot.term)) (sym taken_in)
                (each_append (services.IsWaiting (s.cluster.takens ++ new_read y j (length s.cluster.committed) ∷ []) j y.ballot.term) y.leading.reads (record { number = suc y.leading.arrivals; place = max y.commit y.leading.first; round = suc y.leading.round } ∷ [])
                (each_more (services.IsWaiting s.cluster.takens j y.ballot.term) (services.IsWaiting (s.cluster.takens ++ new_read y j (length s.cluster.committed) ∷ []) j y.ballot.term) y.leading.reads (λ r h. waiting_more s.cluster.takens (new_read y j (length s.cluster.committed)) j y.ballot.term r h) o.waiting)
                (record { position = suc (length s.cluster.takens); taken = new_read y j (length s.cluster.committed); is_there = last_at s.cluster.takens (new_read y j (length s.cluster.committed)); node = refl; term = refl; arrival = refl; place = refl; round = refl }, tt));
            arrived = let a = ap (λ l. length l) grown in let b = length-append (reads.of_term y.ballot.term s.cluster.takens) (new_read y j (length s.cluster.committed) ∷ []) in let c = o.arrived in omega (arith, a, b, c);
            below = λ k t h e. elim (last_place s.cluster.takens (new_read y j (length s.cluster.committed)) t k h) [
              | inl a ↦ let b = o.below k t a e in omega (arith, b)
              | inr a ↦ let b = ap (λ (r : clusters.ReadTaken). r.arrival) a.1 in omega (arith, b)
            ];
          };
          idle = λ ne. absurd (ne (leads y is));
          mine = (i.members j (up y) at).mine;
        })
        (λ k m ne h.
        let a = i.members k m h in
        record {
          server = λ two.
              let q = a.server two in
              let lk = p.members k m h in
              let away : y.ballot.term ≢ m.node.ballot.term = λ e. ne (one_leader (majorities.cluster_of n) w.poll k j sound.fair (lk.role ∙ two) (l.role ∙ leads y is) (lk.term ∙ sym e ∙ sym l.term)) in
              record {
                round = q.round;
                first = q.first;
                own = q.own;
                acked = q.acked;
                waiting = each_more (services.IsWaiting s.cluster.takens k m.node.ballot.term) (services.IsWaiting (s.cluster.takens ++ new_read y j (length s.cluster.committed) ∷ []) k m.node.ballot.term) m.node.leading.reads (λ r g. waiting_more s.cluster.takens (new_read y j (length s.cluster.committed)) k m.node.ballot.term r g) q.waiting;
                arrived = ap (λ g. length g) (of_more m.node.ballot.term s.cluster.takens (new_read y j (length s.cluster.committed)) ∙ ap (λ g. reads.of_term m.node.ballot.term s.cluster.takens ++ g) (of_other m.node.ballot.term (new_read y j (length s.cluster.committed)) away) ∙ append-nil (reads.of_term m.node.ballot.term s.cluster.takens)) ∙ q.arrived;
                below = λ i t g e. elim (last_place s.cluster.takens (new_read y j (length s.cluster.committed)) t i g) [
                  | inl b ↦ q.below i t b e
                  | inr b ↦ absurd (away (ap (λ (r : clusters.ReadTaken). r.term) b.1 ∙ e))
                ];
              };
          idle = a.idle;
          mine = a.mine;
        });
    within = i.within;
    begun = i.begun;
    good = each_append (services.IsGood n w z) x.reads (record { taken = new_read y j (length s.cluster.committed); above = λ k. nat_lt y.ballot.term (pasts.term w k) } ∷ [])
        (each_more (services.IsGood n w x) (services.IsGood n w z) x.reads (λ r g. record { higher = g.higher; apart = g.apart; enough = g.enough; led = g.led; leader = g.leader; self = g.self; later = g.later }) i.good) (
          record {
            higher = λ k a. below y.ballot.term (pasts.term w k) a;
            apart = λ k h a. let b = i.within y.ballot.term k in let c = o.round in absurd (omega (arith, h, b, c));
            enough = enough n s w x j y p sound at is i;
            led = ap w.poll.led (sym l.term) ∙ rules.0;
            leader = ap w.poll.leader (sym l.term) ∙ rules.1;
            self = λ a. let b = below y.ballot.term (pasts.term w j) a in let c = l.term in omega (arith, b, c);
            later = omega arith;
          },
          tt,
        );
    takens = map_more (λ r. r.taken) x.reads (record { taken = new_read y j (length s.cluster.committed); above = λ k. nat_lt y.ballot.term (pasts.term w k) } ∷ []) ∙ ap (λ g. g ++ new_read y j (length s.cluster.committed) ∷ []) i.takens;
    packets = i.packets;
    numbered = numbered;
    once = once;
    givens = λ k g h. fresh_more s.cluster.takens (new_read y j (length s.cluster.committed)) g (i.givens k g h);
  };
}
  where
    z : services.Service
    z = record { by = x.by; rounds = x.rounds; answered = x.answered; reads = x.reads ++ record { taken = new_read y j (length s.cluster.committed); above = λ k. nat_lt y.ballot.term (pasts.term w k) } ∷ [] }

    l : agreement_pasts.IsLike n j (w.poll.member j) (w.log j) (w.commit j) (up y)
    l = p.members j (up y) at

    o : services.IsServer x s.cluster.takens j y
    o = (i.members j (up y) at).server (leads y is)

    rules : (w.poll.led (pasts.term w j) ≡ true) × (w.poll.leader (pasts.term w j) ≡ j)
    rules = sound.fair.rules j (l.role ∙ leads y is)

    taken_in : progress.with_read y.leading.reads (suc y.leading.arrivals) (max y.commit y.leading.first) (suc y.leading.round) ≡ y.leading.reads ++ record { number = suc y.leading.arrivals; place = max y.commit y.leading.first; round = suc y.leading.round } ∷ []
    taken_in = ap (λ b. if b then y.leading.reads ++ record { number = suc y.leading.arrivals; place = max y.commit y.leading.first; round = suc y.leading.round } ∷ [] else y.leading.reads) room

    grown : reads.of_term y.ballot.term (s.cluster.takens ++ new_read y j (length s.cluster.committed) ∷ []) ≡ reads.of_term y.ballot.term s.cluster.takens ++ new_read y j (length s.cluster.committed) ∷ []
    grown = of_more y.ballot.term s.cluster.takens (new_read y j (length s.cluster.committed)) ∙ ap (λ g. reads.of_term y.ballot.term s.cluster.takens ++ g) (of_own y.ballot.term (new_read y j (length s.cluster.committed)) refl)

    numbered : (t : ℕ) → map (λ r. r.arrival) (reads.of_term t (s.cluster.takens ++ new_read y j (length s.cluster.committed) ∷ [])) ≡ lists.numbers_from 1 (length (reads.of_term t (s.cluster.takens ++ new_read y j (length s.cluster.committed) ∷ [])))
    numbered t = elim (same_or y.ballot.term t) [
      | inl e ↦ subst (λ u. map (λ r. r.arrival) (reads.of_term u (s.cluster.takens ++ new_read y j (length s.cluster.committed) ∷ [])) ≡ lists.numbers_from 1 (length (reads.of_term u (s.cluster.takens ++ new_read y j (length s.cluster.committed) ∷ [])))) e
          (let old = reads.of_term y.ballot.term s.cluster.takens in
          let k = length old in
          let a = o.arrived in
          let next : suc y.leading.arrivals ≡ 1 + k = omega (arith, a) in
          let long : 1 + length old ≡ length (old ++ new_read y j (length s.cluster.committed) ∷ []) = let b = length-append old (new_read y j (length s.cluster.committed) ∷ []) in omega (arith, b) in
          let sum : suc (length old) ≡ 1 + length old = omega arith in
          ap (map (λ r. r.arrival)) grown ∙ map_more (λ r. r.arrival) old (new_read y j (length s.cluster.committed) ∷ []) ∙ ap (λ g. g ++ suc y.leading.arrivals ∷ []) (i.numbered y.ballot.term)
          ∙ ap (λ m. lists.numbers_from 1 (length old) ++ m ∷ []) next ∙ numbers_more 1 (length old) ∙ ap (lists.numbers_from 1) (sum ∙ long) ∙ ap (λ g. lists.numbers_from 1 (length g)) (sym grown))
      | inr ne ↦
          let same : reads.of_term t (s.cluster.takens ++ new_read y j (length s.cluster.committed) ∷ []) ≡ reads.of_term t s.cluster.takens =
          of_more t s.cluster.takens (new_read y j (length s.cluster.committed)) ∙ ap (λ g. reads.of_term t s.cluster.takens ++ g) (of_other t (new_read y j (length s.cluster.committed)) ne) ∙ append-nil (reads.of_term t s.cluster.takens) in
          ap (map (λ r. r.arrival)) same ∙ i.numbered t ∙ ap (λ g. lists.numbers_from 1 (length g)) (sym same)
    ]

    once : (a b : ℕ) (t u : clusters.ReadTaken) → lists.at_place (s.cluster.takens ++ new_read y j (length s.cluster.committed) ∷ []) a ≡ Some t → lists.at_place (s.cluster.takens ++ new_read y j (length s.cluster.committed) ∷ []) b ≡ Some u → t.term ≡ u.term → t.arrival ≡ u.arrival → a ≡ b
    once a b t u h g e f = elim (last_place s.cluster.takens (new_read y j (length s.cluster.committed)) t a h) [
      | inl c ↦ elim (last_place s.cluster.takens (new_read y j (length s.cluster.committed)) u b g) [
        | inl d ↦ i.once a b t u c d e f
        | inr d ↦
            let le = o.below a t c (e ∙ sym (ap (λ (r : clusters.ReadTaken). r.term) d.1)) in
            let m = ap (λ (r : clusters.ReadTaken). r.arrival) d.1 in
            absurd (omega (arith, le, m, f))
      ]
      | inr c ↦ elim (last_place s.cluster.takens (new_read y j (length s.cluster.committed)) u b g) [
        | inl d ↦
            let le = o.below b u d (sym e ∙ sym (ap (λ (r : clusters.ReadTaken). r.term) c.1)) in
            let m = ap (λ (r : clusters.ReadTaken). r.arrival) c.1 in
            absurd (omega (arith, le, m, f))
        | inr d ↦ c.0 ∙ sym d.0
      ]
    ]

-- a round that is confirmed was answered by a majority, the leader counted
round_among : (r : ℕ) (peers ps : List progress.Peer) → 1 ≤ r → r ≤ progress.round_among peers ps → progress.is_held (λ q. nat_le r q.acked) peers ≡ true
round_among r peers [] one le = absurd (omega (arith, one, le))
round_among r peers (p ∷ ps) one le = go (progress.is_held (λ q. nat_le p.acked q.acked) peers) refl (round_among r peers ps one) le
  where
    held_more : progress.is_held (λ q. nat_le p.acked q.acked) peers ≡ true → r ≤ p.acked → progress.is_held (λ q. nat_le r q.acked) peers ≡ true
    held_more h less =
        let a = below (suc (length peers)) (suc (majorities.count (λ (q : progress.Peer). nat_le p.acked q.acked) peers) + suc (majorities.count (λ (q : progress.Peer). nat_le p.acked q.acked) peers)) h in
        let b = count-wider (λ (q : progress.Peer). nat_le p.acked q.acked) (λ (q : progress.Peer). nat_le r q.acked) peers (λ q e. is_at_most r q.acked (let c = at_most p.acked q.acked e in omega (arith, c, less))) in
        is_below (suc (length peers)) (suc (majorities.count (λ (q : progress.Peer). nat_le r q.acked) peers) + suc (majorities.count (λ (q : progress.Peer). nat_le r q.acked) peers)) (omega (arith, a, b))

    go : (b : Bool) → progress.is_held (λ q. nat_le p.acked q.acked) peers ≡ b → (r ≤ progress.round_among peers ps → progress.is_held (λ q. nat_le r q.acked) peers ≡ true) → r ≤ (if b then max p.acked (progress.round_among peers ps) else progress.round_among peers ps) → progress.is_held (λ q. nat_le r q.acked) peers ≡ true
    go false e next le = next le
    go true e next le = elim (on_or_off (nat_le r p.acked)) [
      | inl a ↦ held_more e (at_most r p.acked a)
      | inr a ↦ next (let b = above r p.acked a in omega (arith, b, le))
    ]

confirmed : (r : ℕ) (peers : List progress.Peer) → 1 ≤ r → r ≤ progress.confirmed_round peers → progress.is_held (λ q. nat_le r q.acked) peers ≡ true
confirmed r [] one le = refl
confirmed r (p ∷ ps) one le = round_among r (p ∷ ps) (p ∷ ps) one le

answered_by : (f : ℕ → ℕ) (r j : ℕ) (ps : List progress.Peer) → agreement_pasts.Each (λ q. q.acked ≤ f q.node) ps → majorities.count (λ (q : progress.Peer). nat_le r q.acked) ps ≤ majorities.count (λ k. nat_eq k j || nat_le r (f k)) (map (λ q. q.node) ps)
answered_by f r j [] h = omega arith
answered_by f r j (q ∷ ps) h =
    more (nat_le r q.acked) (nat_eq q.node j || nat_le r (f q.node)) (majorities.count (λ (q : progress.Peer). nat_le r q.acked) ps) (majorities.count (λ k. nat_eq k j || nat_le r (f k)) (map (λ q. q.node) ps))
    (λ e. or_right (nat_eq q.node j) (nat_le r (f q.node)) (is_at_most r (f q.node) (let a = at_most r q.acked e in let b = h.0 in omega (arith, a, b)))) (answered_by f r j ps h.1)
  where
    or_right : (a b : Bool) → b ≡ true → (a || b) ≡ true
    or_right true b e = refl
    or_right false b e = e

-- a read that is ready is not older than what was committed when it was taken
ready_fresh : (n : ℕ) (s : systems.System) (w : pasts.Past) (x : services.Service) (j : ℕ) (y : nodes.Node) (r : progress.Waiting) → agreement_pasts.IsPastOf n s w → pasts.Sound (majorities.cluster_of n) w → systems.IsUp s j y → agreement_pasts.role_number y.role ≡ 2 → services.IsServiceOf n s w x
    → services.IsWaiting s.cluster.takens j y.ballot.term r → r.round ≤ progress.confirmed_round y.leading.peers → reads.SeesCommitted s.cluster.takens (record { node = j; term = y.ballot.term; arrival = r.number; place = r.place })
ready_fresh n s w x j y r p sound at two i h le =
    let found = read_at (services.IsGood n w x) x.reads h.position h.taken i.good (ap (λ g. lists.at_place g h.position) i.takens ∙ h.is_there) in
    let q = found.0 in
    let is : q.taken ≡ h.taken = found.1 in
    let g : services.IsGood n w x found.0 = found.2 in
    let l = p.members j (up y) at in
    let o = (i.members j (up y) at).server two in
    let b = p.leaders j (up y) at two in
    let f : ℕ → ℕ = x.answered y.ballot.term in
    let round : q.taken.round ≡ r.round = ap (λ (t : clusters.ReadTaken). t.round) is ∙ h.round in
    let passes : ℕ → Bool = λ k. nat_eq k j || nat_le r.round (x.answered y.ballot.term k) in
    let held = below (suc (length y.leading.peers)) (suc (majorities.count (λ (q : progress.Peer). nat_le r.round q.acked) y.leading.peers) + suc (majorities.count (λ (q : progress.Peer). nat_le r.round q.acked) y.leading.peers))
    (confirmed r.round y.leading.peers (let c = g.later in omega (arith, c, round)) le) in
    let less : majorities.count (λ (q : progress.Peer). nat_le r.round q.acked) y.leading.peers ≤ majorities.count passes (map (λ q. q.node) y.leading.peers) = answered_by f r.round j y.leading.peers o.acked in
    let same : majorities.count passes (map (λ q. q.node) y.leading.peers) ≡ majorities.count passes (majorities.others n j) = ap (majorities.count passes) b.peers in
    let place = place_within s.cluster.members j (up y) at in
    let bound : j ≤ n = let c = p.long in let d = place.1 in omega (arith, c, d) in
    let mine : passes j ≡ true = ap (λ c. c || nat_le r.round (x.answered y.ballot.term j)) (is_equal j j refl) in
    let all : majorities.count passes (majorities.cluster_of n) ≡ suc (majorities.count passes (majorities.others n j)) = one_more passes n j place.0 bound mine in
    let long : n ≡ suc (length (majorities.others n j)) = others_long n j place.0 bound in
    let peers : length y.leading.peers ≡ length (majorities.others n j) = sym (length-map y.leading.peers (λ (q : progress.Peer). q.node)) ∙ ap (λ (l : List ℕ). length l) b.peers in
    let nodes_long : length (majorities.cluster_of n) ≡ n = length-cluster_of n in
    let most : matchings.IsMost passes (majorities.cluster_of n) = omega (arith, held, less, same, all, long, peers, nodes_long) in
    let term_is : q.taken.term ≡ y.ballot.term = ap (λ (t : clusters.ReadTaken). t.term) is ∙ h.term in
    let node_is : q.taken.node ≡ j = ap (λ (t : clusters.ReadTaken). t.node) is ∙ h.node in
    let place_is : q.taken.place ≡ r.place = ap (λ (t : clusters.ReadTaken). t.place) is ∙ h.place in
    let committed_is : q.taken.committed ≡ h.taken.committed = ap (λ (t : clusters.ReadTaken). t.committed) is in
    let result : q.taken.committed ≤ q.taken.place = fresh (majorities.cluster_of n) q.above passes q.taken.committed q.taken.place g.enough most (λ k m a. elim (either (nat_eq k j) (nat_le r.round (x.answered y.ballot.term k)) m) [
      | inl e ↦ g.self (ap q.above (node_is ∙ sym (equal k j e)) ∙ a)
      | inr e ↦ g.apart k (let c = at_most r.round (x.answered y.ballot.term k) e in let d = ap (λ u. x.answered u k) term_is in omega (arith, c, d, round)) a
    ]) in
    record {
      position = h.position;
      taken = h.taken;
      is_there = h.is_there;
      node = h.node;
      term = h.term;
      arrival = h.arrival;
      place = h.place;
      fresh = omega (arith, result, place_is, committed_is);
    }

given_fresh : (n : ℕ) (s : systems.System) (w : pasts.Past) (x : services.Service) (j : ℕ) (y : nodes.Node) (rs : List progress.Waiting) → agreement_pasts.IsPastOf n s w → pasts.Sound (majorities.cluster_of n) w → systems.IsUp s j y → agreement_pasts.role_number y.role ≡ 2 → services.IsServiceOf n s w x
    → agreement_pasts.Each (λ r. services.IsWaiting s.cluster.takens j y.ballot.term r × (progress.is_read_ready (progress.confirmed_round y.leading.peers) y.commit r ≡ true)) rs
    → agreement_pasts.Each (reads.SeesCommitted s.cluster.takens) (clusters.given_by j y (map (λ r. (r.number, r.place)) rs))
given_fresh n s w x j y [] p sound at two i e = tt
given_fresh n s w x j y (r ∷ rs) p sound at two i e = (
  ready_fresh n s w x j y r p sound at two i e.0.0 (at_most r.round (progress.confirmed_round y.leading.peers) (both (nat_le r.round (progress.confirmed_round y.leading.peers)) (nat_le r.place y.commit) e.0.1).0),
  given_fresh n s w x j y rs p sound at two i e.1,
)

pub serve_given : (n : ℕ) (s : systems.System) (w : pasts.Past) (x : services.Service) (j : ℕ) (y : nodes.Node) → agreement_pasts.IsPastOf n s w → pasts.Sound (majorities.cluster_of n) w → systems.IsUp s j y → services.IsServiceOf n s w x → services.IsServiceOf n (transitions.after_transition s (transitions.Answer j y)) w x
serve_given n s w x j y p sound at i = record {
  latest = i.latest;
  members = changing (services.IsServing x s.cluster.takens (length s.cluster.committed)) s.cluster.members j (up y) (up (steps.without_given y)) at
      (record {
        server = λ two. let o = a.server two in record { round = o.round; first = o.first; own = o.own; acked = o.acked; waiting = each_filter (services.IsWaiting s.cluster.takens j y.ballot.term) (λ r. not (progress.is_read_ready (progress.confirmed_round y.leading.peers) y.commit r)) y.leading.reads o.waiting; arrived = o.arrived; below = o.below };
        idle = λ ne. ap (filter (λ r. not (progress.is_read_ready (progress.confirmed_round y.leading.peers) y.commit r))) (a.idle ne);
        mine = a.mine;
      })
      (λ k m ne h. i.members k m h);
  within = i.within;
  begun = i.begun;
  good = i.good;
  takens = i.takens;
  packets = i.packets;
  numbered = i.numbered;
  once = i.once;
  givens = λ k g h. was_or_new (reads.SeesCommitted s.cluster.takens) s.cluster.givens (clusters.given_by j y (steps.given y)) k g h (λ q e. i.givens q g e) (elim (same_or (agreement_pasts.role_number y.role) 2) [
    | inl two ↦ given_fresh n s w x j y (filter ready y.leading.reads) p sound at two i (each_passing (services.IsWaiting s.cluster.takens j y.ballot.term) ready y.leading.reads (a.server two).waiting)
    | inr ne ↦ subst (λ rs. agreement_pasts.Each (reads.SeesCommitted s.cluster.takens) (clusters.given_by j y (map (λ r. (r.number, r.place)) (filter ready rs)))) (sym (a.idle ne)) tt
  ]);
}
  where
    a : services.IsServing x s.cluster.takens (length s.cluster.committed) j (up y)
    a = i.members j (up y) at

    ready : progress.Waiting → Bool
    ready = progress.is_read_ready (progress.confirmed_round y.leading.peers) y.commit

-- a commit that rises
advanced_members : (n : ℕ) (s : systems.System) (w : pasts.Past) (x : services.Service) (j : ℕ) (y : nodes.Node) (c by k : ℕ) (m : clusters.Member) → services.IsServing x s.cluster.takens (length s.cluster.committed) k m → (total : ℕ) → (agreement_pasts.role_number m.node.role ≡ 2 → by ≡ m.node.ballot.term → total ≤ m.node.commit)
    → services.IsServing (record x { by = by }) s.cluster.takens total k m
advanced_members n s w x j y c by k m a total mine = record {
  server = λ two. let o = a.server two in record { round = o.round; first = o.first; own = o.own; acked = o.acked; waiting = o.waiting; arrived = o.arrived; below = o.below };
  idle = a.idle;
  mine = mine;
}

commit_member : (x : services.Service) (takens : List clusters.ReadTaken) (c k : ℕ) (y : nodes.Node) (new : ℕ) → y.commit ≤ new → services.IsServing x takens c k (up y) → services.IsServing x takens c k (up (record y { commit = new }))
commit_member x takens c k y new le a = record {
  server = λ two. let o = a.server two in record { round = o.round; first = o.first; own = o.own; acked = o.acked; waiting = o.waiting; arrived = o.arrived; below = o.below };
  idle = a.idle;
  mine = λ two e. let b = a.mine two e in omega (arith, b, le);
}

good_by : (n : ℕ) (w : pasts.Past) (x : services.Service) (by : ℕ) (r : services.Read) → services.IsGood n w x r → services.IsGood n w (record x { by = by }) r
good_by n w x by r g = record { higher = g.higher; apart = g.apart; enough = g.enough; led = g.led; leader = g.leader; self = g.self; later = g.later }

holds_by : (x : services.Service) (by : ℕ) (p : Rattle.ax_types.specs.declared.packets.Packet.Packet) → services.HoldsRound x p.«from» p.payload → services.HoldsRound (record x { by = by }) p.«from» p.payload
holds_by x by p h = Rattle.law_reads.proofs.Goods.holds_more x (record x { by = by }) (λ t. omega arith) (λ t k. omega arith) p.«from» p.payload h

pub serve_advance : (n : ℕ) (s : systems.System) (w v : pasts.Past) (x : services.Service) (j : ℕ) (y : nodes.Node) (c : ℕ) → agreement_pasts.IsPastOf n s w → pasts.Sound (majorities.cluster_of n) w → systems.IsUp s j y → nodes.is_leader y ≡ true → y.commit ≤ c
    → past_moves.AllFit (majorities.cluster_of n) w (agreement_pasts.commit_moves w j y.commit c) → laters.Later w v → v.committed ≡ clusters.entries_so_far s.cluster.committed (record y { commit = c }) → services.IsServiceOf n s w x
    → Served n (systems.tallied (systems.with_node s j (record y { commit = c })) (record y { commit = c })) v
serve_advance n s w v x j y c p sound at is up_to fits later after i = pick (nat_lt y.commit c) refl (nat_lt (length w.committed) c) refl fits
  where
    l : agreement_pasts.IsLike n j (w.poll.member j) (w.log j) (w.commit j) (up y)
    l = p.members j (up y) at

    all : length w.committed ≡ length s.cluster.committed
    all = ap (λ g. length g) p.committed

    stands : c ≤ length s.cluster.committed → Served n (systems.tallied (systems.with_node s j (record y { commit = c })) (record y { commit = c })) v
    stands le =
        let same : clusters.entries_so_far s.cluster.committed (record y { commit = c }) ≡ s.cluster.committed = ap (λ b. if b then take c y.log else s.cluster.committed) (is_not_below (length s.cluster.committed) c le) in
        record {
          service = x;
          holds = serve_tally n (systems.with_node s j (record y { commit = c })) v x (record y { commit = c }) same
              (Rattle.law_reads.proofs.Goods.serve_change n s w v x j (up y) (up (record y { commit = c })) at i later (after ∙ same ∙ sym p.committed) (commit_member x s.cluster.takens (length s.cluster.committed) j y c up_to (i.members j (up y) at)));
        }

    grows : length w.committed < c → matchings.Quorum (majorities.cluster_of n) w.leader_log w.acked (pasts.term w j) c → Served n (systems.tallied (systems.with_node s j (record y { commit = c })) (record y { commit = c })) v
    grows gt q =
        let by = y.ballot.term in
        let own : w.leader_log (pasts.term w j) ≡ y.log = sound.holds j (l.role ∙ leads y is) ∙ l.log in
        let es : clusters.entries_so_far s.cluster.committed (record y { commit = c }) ≡ take c y.log = ap (λ b. if b then take c y.log else s.cluster.committed) (is_below (length s.cluster.committed) c (omega (arith, all, gt))) in
        let len : length (take c y.log) ≡ c = length-take-le c y.log (let a = q.within in let b = ap (λ g. length g) own in omega (arith, a, b)) in
        let total : length (clusters.entries_so_far s.cluster.committed (record y { commit = c })) ≡ c = ap (λ g. length g) es ∙ len in
        let z : services.Service = record x { by = y.ballot.term } in
        record {
          service = record x { by = y.ballot.term };
          holds = record {
            latest = inr (subst (λ t. matchings.Quorum (majorities.cluster_of n) v.leader_log v.acked t (length v.committed)) l.term (subst (λ m. matchings.Quorum (majorities.cluster_of n) v.leader_log v.acked (pasts.term w j) m) (sym (ap (λ g. length g) after ∙ total)) (quorum_later (majorities.cluster_of n) w v (pasts.term w j) c later q)));
            members = changing (services.IsServing (record x { by = y.ballot.term }) s.cluster.takens (length (clusters.entries_so_far s.cluster.committed (record y { commit = c })))) s.cluster.members j (up y) (up (record y { commit = c })) at
                (let a = commit_member x s.cluster.takens (length s.cluster.committed) j y c up_to (i.members j (up y) at) in
                advanced_members n s w x j y c y.ballot.term j (up (record y { commit = c })) a (length (clusters.entries_so_far s.cluster.committed (record y { commit = c }))) (λ two e. omega (arith, total)))
                (λ k m ne h. advanced_members n s w x j y c y.ballot.term k m (i.members k m h) (length (clusters.entries_so_far s.cluster.committed (record y { commit = c }))) (λ two e.
                let lk = p.members k m h in
                absurd (ne (one_leader (majorities.cluster_of n) w.poll k j sound.fair (lk.role ∙ two) (l.role ∙ leads y is) (lk.term ∙ sym e ∙ sym l.term)))));
            within = i.within;
            begun = λ t ne. (later.led t (i.begun t ne)).0;
            good = each_more (services.IsGood n w x) (services.IsGood n v (record x { by = y.ballot.term })) x.reads (λ r g. good_by n v x y.ballot.term r (Rattle.law_reads.proofs.Goods.good_later n w v x r later g)) i.good;
            takens = i.takens;
            packets = λ r a. holds_by x y.ballot.term r (i.packets r a);
            numbered = i.numbered;
            once = i.once;
            givens = i.givens;
          };
        }

    pick : (a : Bool) → nat_lt y.commit c ≡ a → (b : Bool) → nat_lt (length w.committed) c ≡ b → past_moves.AllFit (majorities.cluster_of n) w (if a then (if b then past_moves.Commit j c ∷ [] else past_moves.Advance j c ∷ []) else []) → Served n (systems.tallied (systems.with_node s j (record y { commit = c })) (record y { commit = c })) v
    pick false e b g f = stands (let k = not_below y.commit c e in let m = sound.ahead j in let q = l.commit in omega (arith, k, m, q, all))
    pick true e true g f = grows (below (length w.committed) c g) f.0.2
    pick true e false g f = stands (let k = not_below (length w.committed) c g in omega (arith, k, all))
