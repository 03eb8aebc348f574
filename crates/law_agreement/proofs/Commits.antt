-- A leader's commit that rises leaves the past of the system its past.
use Rattle.std.proofs.Common.{◌≡◌, ℕ, zero, suc, ◌+◌, ◌-◌, ◌<◌, ◌≤◌, List, [], ◌∷◌, ◌++◌, length, map, take, refl, ap, sym, ◌∙◌, subst, arith, inl, inr, length-append}
use Rattle.std.specs.Prelude.{◌⊎◌, Bool, true, false, cond, nat_eq, nat_lt, nat_le, replicate, Some, if◌then◌else◌}
use Rattle.std.proofs.lemmas.List.{length-take-le, length-map, length-replicate}
use Rattle.ax_types.specs.Places as lists
use Rattle.spec_raft.specs.Majority as majorities
use Rattle.spec_raft.specs.Log as logs
use Rattle.spec_raft.specs.Progress as acks
use Rattle.spec_raft.proofs.Counting.{length-cluster_of}
use Rattle.spec_node.specs.Node as nodes
use Rattle.spec_cluster.specs.Cluster as clusters
use Rattle.spec_transitions.specs.Systems as systems
use Rattle.spec_past.specs.Matching as matchings
use Rattle.spec_past.specs.Past as pasts
use Rattle.spec_past.specs.PastMoves as past_moves
use Rattle.spec_past.specs.Later as laters
use Rattle.law_past.proofs.Logs.{agree_back, agree_on, agree_less, take_less}
use Rattle.law_past.proofs.Later.{move_later, later_self, same_later, quorum_later}
use Rattle.law_past.proofs.Commits.{grown, own_log}
use Rattle.law_agreement.specs.Pasts as agreement_pasts
use Rattle.law_agreement.proofs.Tests.{equal, below, not_below, at_most, both, is_at_most, is_below}
use Rattle.law_agreement.proofs.Members.{some_same, none_some, place_within}
use Rattle.law_agreement.proofs.Others.{one_more, others_long}
use Rattle.law_agreement.proofs.Changes.{nothing_changes, commit_put, leading_later, holds_later, member_changes}
use Rattle.law_agreement.proofs.Ballots.{Stays, up}
use Rattle.law_agreement.proofs.Leaders.{leads}
use Rattle.law_agreement.proofs.Followers.{tally_stays}

-- the greatest that passes is the low one, or above it and passes
pub record Greatest (f : ℕ → Bool) (low n g : ℕ) : Type 0 where
  pub over : low < g
  pub within : g ≤ low + n
  pub passes : f g ≡ true

pub greatest_is : (f : ℕ → Bool) (low n : ℕ) → (acks.greatest f low n ≡ low) ⊎ Greatest f low n (acks.greatest f low n)
greatest_is f low zero = inl refl
greatest_is f low (suc n) = go (f (low + suc n)) refl (greatest_is f low n)
  where
    go : (b : Bool) → f (low + suc n) ≡ b → (acks.greatest f low n ≡ low) ⊎ Greatest f low n (acks.greatest f low n) → ((if b then low + suc n else acks.greatest f low n) ≡ low) ⊎ Greatest f low (suc n) (if b then low + suc n else acks.greatest f low n)
    go true e r = inr (record { over = omega arith; within = omega arith; passes = e })
    go false e (inl z) = inl z
    go false e (inr g) = inr (record { over = g.over; within = let a = g.within in omega (arith, a); passes = g.passes })

pub more : (a b : Bool) (n m : ℕ) → (a ≡ true → b ≡ true) → n ≤ m → cond a 1 0 + n ≤ cond b 1 0 + m
more true true n m h le = omega (arith, le)
more true false n m h le = absurd (grind (arith, h refl))
more false true n m h le = omega (arith, le)
more false false n m h le = omega (arith, le)

-- as many as match a place have acknowledged it
matched_acked : (f : ℕ → ℕ) (p : ℕ) (ps : List acks.Peer) → agreement_pasts.Each (λ q. q.matched ≤ f q.node) ps → majorities.count (λ (q : acks.Peer). nat_le p q.matched) ps ≤ majorities.count (λ k. nat_le p (f k)) (map (λ q. q.node) ps)
matched_acked f p [] h = omega arith
matched_acked f p (q ∷ ps) h =
    more (nat_le p q.matched) (nat_le p (f q.node)) (majorities.count (λ (q : acks.Peer). nat_le p q.matched) ps) (majorities.count (λ k. nat_le p (f k)) (map (λ q. q.node) ps))
    (λ e. is_at_most p (f q.node) (let a = at_most p q.matched e in let b = h.0 in omega (arith, a, b))) (matched_acked f p ps h.1)

-- a place that a leader may commit has a quorum
quorum_of : (n j : ℕ) (w : pasts.Past) (x : nodes.Node) (p : ℕ) → 1 ≤ j → j ≤ n → agreement_pasts.IsLeading n j w x → w.leader_log x.ballot.term ≡ x.log → 1 ≤ p → p ≤ length x.log → acks.may_commit x.leading.peers x.log x.ballot.term p ≡ true → matchings.Quorum (majorities.cluster_of n) w.leader_log w.acked x.ballot.term p
quorum_of n j w x p one le o own some within h =
    let f = w.acked x.ballot.term in
    let passes : ℕ → Bool = λ k. nat_le p (f k) in
    let held = λ (q : acks.Peer). nat_le p q.matched in
    let b = both (nat_eq (logs.term_at x.log p) x.ballot.term) (acks.is_held (λ q. nat_le p q.matched) x.leading.peers) h in
    let most = below (suc (length x.leading.peers)) (suc (majorities.count held x.leading.peers) + suc (majorities.count held x.leading.peers)) b.1 in
    let less : majorities.count held x.leading.peers ≤ majorities.count passes (map (λ q. q.node) x.leading.peers) = matched_acked f p x.leading.peers o.matched in
    let same : majorities.count passes (map (λ q. q.node) x.leading.peers) ≡ majorities.count passes (majorities.others n j) = ap (majorities.count passes) o.peers in
    let mine : passes j ≡ true = is_at_most p (f j) (let a = o.self in omega (arith, a, within)) in
    let all : majorities.count passes (majorities.cluster_of n) ≡ suc (majorities.count passes (majorities.others n j)) = one_more passes n j one le mine in
    let long : n ≡ suc (length (majorities.others n j)) = others_long n j one le in
    let peers : length x.leading.peers ≡ length (majorities.others n j) = sym (length-map x.leading.peers (λ (q : acks.Peer). q.node)) ∙ ap (λ (l : List ℕ). length l) o.peers in
    let nodes_long : length (majorities.cluster_of n) ≡ n = length-cluster_of n in
    record {
      place = some;
      within = let a = ap (λ g. length g) own in omega (arith, a, within);
      own = ap (λ g. logs.term_at g p) own ∙ equal (logs.term_at x.log p) x.ballot.term b.0;
      most = omega (arith, most, less, same, all, long, peers, nodes_long);
    }

-- a list with the same thing added some times
repeated : {X : Type 0} (xs : List X) (x y : X) (k p : ℕ) → lists.at_place (xs ++ replicate k x) p ≡ Some y → (lists.at_place xs p ≡ Some y) ⊎ ((p ≤ length xs + k) × (x ≡ y))
repeated xs x y k zero h = absurd (none_some y h)
repeated [] x y zero (suc p) h = absurd (none_some y h)
repeated [] x y (suc k) (suc zero) h = inr (omega arith, some_same x y h)
repeated [] x y (suc k) (suc (suc p)) h = elim (repeated [] x y k (suc p) h) [ inl a ↦ absurd (none_some y a) | inr a ↦ inr (let b = a.0 in omega (arith, b), a.1) ]
repeated (z ∷ xs) x y k (suc zero) h = inl h
repeated (z ∷ xs) x y k (suc (suc p)) h = elim (repeated xs x y k (suc p) h) [ inl a ↦ inl a | inr a ↦ inr (let b = a.0 in omega (arith, b), a.1) ]

-- the committed entries grow to a leader's log up to its commit
commit_grows : (n : ℕ) (s : systems.System) (w : pasts.Past) (j : ℕ) (x : nodes.Node) (c : ℕ) → agreement_pasts.IsPastOf n s w → pasts.Sound (majorities.cluster_of n) w → systems.IsUp s j x → pasts.role w j ≡ 2 → length w.committed < c → matchings.Quorum (majorities.cluster_of n) w.leader_log w.acked (pasts.term w j) c
    → agreement_pasts.IsLeading n j w (record x { commit = c }) → agreement_pasts.IsPastOf n (systems.tallied (systems.with_node s j (record x { commit = c })) (record x { commit = c })) (past_moves.moves w (past_moves.Commit j c))
commit_grows n s w j x c i sound at two gt q o =
    let l = i.members j (up x) at in
    let y : nodes.Node = record x { commit = c } in
    let v = past_moves.moves w (past_moves.Commit j c) in
    let u = past_moves.moves w (past_moves.Advance j c) in
    let to_u : laters.Later w u = same_later w u refl refl refl refl refl in
    let to_v : laters.Later u v = same_later u v refl refl refl refl refl in
    let later : laters.Later w v = same_later w v refl refl refl refl refl in
    let i_u : agreement_pasts.IsPastOf n (systems.with_node s j (record x { commit = c })) u = member_changes n s w u j (w.poll.member j) (w.log j) c (up x) (up (record x { commit = c })) at i to_u refl
    (commit_put w u j c refl refl refl)
    (record { me = l.me; size = l.size; term = l.term; vote = l.vote; role = l.role; votes = l.votes; log = l.log; commit = refl })
    (λ z. leading_later n j w u (record x { commit = c }) to_u o) in
    let own : matchings.Agree (w.log j) (w.leader_log (pasts.term w j)) c = own_log (majorities.cluster_of n) w j c two q.within sound in
    let len : length (take c (w.log j)) ≡ c = length-take-le c (w.log j) own.left in
    let front : matchings.Agree (take c (w.log j)) (w.log j) c = record { left = omega (arith, len); right = own.left; same = take_less c c (w.log j) (omega arith) } in
    let old : matchings.Agree w.committed (take c (w.log j)) (length w.committed) = grown (majorities.cluster_of n) w j c two gt q sound in
    let all : length w.committed ≡ length s.cluster.committed = ap (λ g. length g) i.committed in
    let above : nat_lt (length s.cluster.committed) c ≡ true = is_below (length s.cluster.committed) c (omega (arith, all, gt)) in
    let es : take c (w.log j) ≡ clusters.entries_so_far s.cluster.committed (record x { commit = c }) =
    ap (take c) l.log ∙ sym (ap (λ b. if b then take c x.log else s.cluster.committed) above) in
    let ts : length (clusters.terms_so_far s.cluster.terms (record x { commit = c })) ≡ length s.cluster.terms + (c - length s.cluster.terms) =
    length-append s.cluster.terms (replicate (c - length s.cluster.terms) x.ballot.term) ∙ ap (λ k. length s.cluster.terms + k) (length-replicate (c - length s.cluster.terms) x.ballot.term) in
    record {
      long = i_u.long;
      members = i_u.members;
      bare = i_u.bare;
      leaders = λ k m h z. leading_later n k u v m.node to_v (i_u.leaders k m h z);
      packets = λ p a. holds_later u v p.«from» p.to p.payload to_v (i_u.packets p a);
      committed = es;
      counted = let a = ap (λ g. length g) es in let b = i.counted in omega (arith, a, b, ts, len, all, gt);
      terms = λ p t h. elim (repeated s.cluster.terms x.ballot.term t (c - length s.cluster.terms) p h) [
        | inl z ↦
            let a = i.terms p t z in
            record {
              place = a.place;
              within = a.within;
              quorum = quorum_later (majorities.cluster_of n) w v t a.place later a.quorum;
              agrees = agree_on (take c (w.log j)) w.committed (w.leader_log t) p (agree_back w.committed (take c (w.log j)) p (agree_less w.committed (take c (w.log j)) (length w.committed) p a.agrees.left old)) a.agrees;
            }
        | inr z ↦
            let same : pasts.term w j ≡ t = l.term ∙ z.1 in
            let le : p ≤ c = let b = i.counted in let d = z.0 in omega (arith, b, d, all, gt) in
            subst (λ t. agreement_pasts.IsCommittedBy n v t p) same (record {
              place = c;
              within = le;
              quorum = quorum_later (majorities.cluster_of n) w v (pasts.term w j) c later q;
              agrees = agree_less (take c (w.log j)) (w.leader_log (pasts.term w j)) c p le (agree_on (take c (w.log j)) (w.log j) (w.leader_log (pasts.term w j)) c front own);
            })
      ];
      leds = i_u.leds;
      once = i_u.once;
    }

pub advance_stays : (n : ℕ) (s : systems.System) (w : pasts.Past) (j : ℕ) (x : nodes.Node) → agreement_pasts.IsPastOf n s w → pasts.Sound (majorities.cluster_of n) w → systems.IsUp s j x → nodes.is_leader x ≡ true
    → Stays n (systems.tallied (systems.with_node s j (nodes.advanced x)) (nodes.advanced x)) w (agreement_pasts.commit_moves w j x.commit (nodes.advanced x).commit)
advance_stays n s w j x i sound at is = go (acks.commit_place x.leading.peers x.log x.ballot.term x.commit) (greatest_is (acks.may_commit x.leading.peers x.log x.ballot.term) x.commit (length x.log - x.commit))
  where
    l : agreement_pasts.IsLike n j (w.poll.member j) (w.log j) (w.commit j) (up x)
    l = i.members j (up x) at

    two : pasts.role w j ≡ 2
    two = l.role ∙ leads x is

    o : (c : ℕ) → agreement_pasts.IsLeading n j w (record x { commit = c })
    o c = let a = i.leaders j (up x) at (leads x is) in record { peers = a.peers; matched = a.matched; next = a.next; self = a.self }

    all : length w.committed ≡ length s.cluster.committed
    all = ap (λ g. length g) i.committed

    quorum : (c : ℕ) → Greatest (acks.may_commit x.leading.peers x.log x.ballot.term) x.commit (length x.log - x.commit) c → matchings.Quorum (majorities.cluster_of n) w.leader_log w.acked (pasts.term w j) c
    quorum c g =
        let p = place_within s.cluster.members j (up x) at in
        let le = let a = p.1 in let b = i.long in let z : j ≤ n = omega (arith, a, b) in z in
        let own : w.leader_log x.ballot.term ≡ x.log = ap w.leader_log (sym l.term) ∙ sound.holds j two ∙ l.log in
        subst (λ t. matchings.Quorum (majorities.cluster_of n) w.leader_log w.acked t c) (sym l.term)
        (quorum_of n j w x c p.0 le (i.leaders j (up x) at (leads x is)) own (let a = g.over in omega (arith, a)) (let a = g.within in let b = g.over in omega (arith, a, b)) g.passes)

    rises : (c : ℕ) → Greatest (acks.may_commit x.leading.peers x.log x.ballot.term) x.commit (length x.log - x.commit) c → (b : Bool) → nat_lt (length w.committed) c ≡ b
        → Stays n (systems.tallied (systems.with_node s j (record x { commit = c })) (record x { commit = c })) w (if b then past_moves.Commit j c ∷ [] else past_moves.Advance j c ∷ [])
    rises c g true e =
        let gt = below (length w.committed) c e in
        record { fits = ((two, gt, quorum c g), tt); past = commit_grows n s w j x c i sound at two gt (quorum c g) (o c) }
    rises c g false e =
        let le = not_below (length w.committed) c e in
        let v = past_moves.moves w (past_moves.Advance j c) in
        let later = move_later (majorities.cluster_of n) w (past_moves.Advance j c) (two, le, quorum c g) sound in
        let after = member_changes n s w v j (w.poll.member j) (w.log j) c (up x) (up (record x { commit = c })) at i later refl
        (commit_put w v j c refl refl refl)
        (record { me = l.me; size = l.size; term = l.term; vote = l.vote; role = l.role; votes = l.votes; log = l.log; commit = refl })
        (λ z. leading_later n j w v (record x { commit = c }) later (o c)) in
        record { fits = ((two, le, quorum c g), tt); past = tally_stays n (systems.with_node s j (record x { commit = c })) v (record x { commit = c }) after (omega (arith, all, le)) }

    stands : (c : ℕ) → c ≡ x.commit → Stays n (systems.tallied (systems.with_node s j (record x { commit = c })) (record x { commit = c })) w []
    stands c same =
        let after = member_changes n s w w j (w.poll.member j) (w.log j) (w.commit j) (up x) (up (record x { commit = c })) at i (later_self w) refl
        (nothing_changes w j)
        (record { me = l.me; size = l.size; term = l.term; vote = l.vote; role = l.role; votes = l.votes; log = l.log; commit = l.commit ∙ sym same })
        (λ z. o c) in
        record { fits = tt; past = tally_stays n (systems.with_node s j (record x { commit = c })) w (record x { commit = c }) after (let a = sound.ahead j in let b = l.commit in omega (arith, a, b, all, same)) }

    pick : (c : ℕ) (b : Bool) → nat_lt x.commit c ≡ b → (c ≡ x.commit) ⊎ Greatest (acks.may_commit x.leading.peers x.log x.ballot.term) x.commit (length x.log - x.commit) c
        → Stays n (systems.tallied (systems.with_node s j (record x { commit = c })) (record x { commit = c })) w (if b then (if nat_lt (length w.committed) c then past_moves.Commit j c ∷ [] else past_moves.Advance j c ∷ []) else [])
    pick c true e (inr g) = rises c g (nat_lt (length w.committed) c) refl
    pick c false e (inl z) = stands c z
    pick c true e (inl z) = let a = below x.commit c e in absurd (omega (arith, a, z))
    pick c false e (inr g) = let a = not_below x.commit c e in let b = g.over in absurd (omega (arith, a, b))

    go : (c : ℕ) → (c ≡ x.commit) ⊎ Greatest (acks.may_commit x.leading.peers x.log x.ballot.term) x.commit (length x.log - x.commit) c
        → Stays n (systems.tallied (systems.with_node s j (record x { commit = c })) (record x { commit = c })) w (agreement_pasts.commit_moves w j x.commit c)
    go c h = pick c (nat_lt x.commit c) refl h
