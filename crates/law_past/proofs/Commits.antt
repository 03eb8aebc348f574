-- The micro-steps on commits and acknowledgements.
use Rattle.std.proofs.Common.{◌≡◌, ℕ, ◌<◌, ◌≤◌, List, length, take, refl, sym, ◌∙◌, subst, arith, inl, inr}
use Rattle.std.specs.Prelude.{◌⊎◌, ◌≢◌, true}
use Rattle.std.proofs.lemmas.List.{length-take-le}
use Rattle.spec_raft.specs.Log as logs
use Rattle.spec_past.specs.Matching as matchings
use Rattle.spec_past.specs.Polls as polls
use Rattle.spec_past.specs.Past as pasts
use Rattle.law_past.proofs.Logs.{agree_back, agree_on, agree_less, le_or_lt, take_less}
use Rattle.law_past.proofs.Growth.{done_grows, same_log}
use Rattle.law_past.proofs.Polls.{putting, put2_same, put2_other, same_or}
use Rattle.spec_raft.proofs.Counting.{passing}
use Rattle.law_past.proofs.Safety.{safety}
use Rattle.law_past.proofs.Nodes.{still}

pub putting2 : {X : Type 0} (P : ℕ → ℕ → X → Type 0) (f : ℕ → ℕ → X) (t i : ℕ) (x : X) → P t i x → ((s v : ℕ) → (s ≢ t) ⊎ (v ≢ i) → P s v (f s v)) → (s v : ℕ) → P s v (polls.put2 f t i x s v)
putting2 P f t i x here there s v = go (same_or s t) (same_or v i)
  where
    off : (s ≢ t) ⊎ (v ≢ i) → P s v (polls.put2 f t i x s v)
    off o = subst (λ y. P s v y) (sym (put2_other f t i x s v o)) (there s v o)

    go : (s ≡ t) ⊎ (s ≢ t) → (v ≡ i) ⊎ (v ≢ i) → P s v (polls.put2 f t i x s v)
    go (inr n) _ = off (inl n)
    go _ (inr n) = off (inr n)
    go (inl a) (inl b) = subst (λ r. P r v (polls.put2 f t i x r v)) (sym a) (subst (λ r. P t r (polls.put2 f t i x t r)) (sym b) (subst (λ y. P t i y) (sym (put2_same f t i x)) here))

commit_keeps : (nodes : List ℕ) (w : pasts.Past) (j c : ℕ) → c ≤ length w.committed → pasts.IsCommittedIn nodes w.leader_log w.acked (w.log j) c (pasts.term w j) → pasts.Sound nodes w → pasts.Sound nodes (record w { commit = polls.put w.commit j c })
commit_keeps nodes w j c le known s = record {
  fair = s.fair;
  filled = s.filled;
  only = s.only;
  joins = s.joins;
  rises = s.rises;
  low = s.low;
  ages = s.ages;
  part = s.part;
  past = s.past;
  holds = s.holds;
  waits = s.waits;
  runs = s.runs;
  early = s.early;
  cand_part = s.cand_part;
  seen_part = s.seen_part;
  newer = s.newer;
  after = s.after;
  before = s.before;
  begins = s.begins;
  bound = s.bound;
  reached = s.reached;
  now = s.now;
  known = putting (λ k n. pasts.IsCommittedIn nodes w.leader_log w.acked (w.log k) n (pasts.term w k)) w.commit j c known (λ k ne. s.known k);
  spread = s.spread;
  ahead = putting (λ k n. n ≤ length w.committed) w.commit j c le (λ k ne. s.ahead k);
  behind = s.behind;
  last = s.last;
}

-- a restart forgets the commit
pub forget_sound : (nodes : List ℕ) (w : pasts.Past) (j : ℕ) → pasts.Sound nodes w → pasts.Sound nodes (record w { commit = polls.put w.commit j 0 })
forget_sound nodes w j s = commit_keeps nodes w j 0 (omega arith) (inl refl) s

-- a follower learns a commit that the leader of its term has told
pub learn_sound : (nodes : List ℕ) (w : pasts.Past) (j m c : ℕ) → matchings.Agree (w.log j) (w.leader_log (pasts.term w j)) m → c ≤ m → c ≤ w.told (pasts.term w j) → pasts.Sound nodes w → pasts.Sound nodes (record w { commit = polls.put w.commit j c })
learn_sound nodes w j m c a cm ct s = commit_keeps nodes w j c (let b = s.behind (pasts.term w j) in omega (arith, ct, b)) (by (s.spread (pasts.term w j))) s
  where
    by : pasts.IsCommittedIn nodes w.leader_log w.acked (w.leader_log (pasts.term w j)) (w.told (pasts.term w j)) (pasts.term w j) → pasts.IsCommittedIn nodes w.leader_log w.acked (w.log j) c (pasts.term w j)
    by (inl z) = inl (omega (arith, ct, z))
    by (inr r) = inr (record { term = r.term; place = r.place; upto = r.upto; within = omega (arith, ct, r.within); quorum = r.quorum; agrees = agree_on (w.log j) (w.leader_log (pasts.term w j)) (w.leader_log r.term) c (agree_less (w.log j) (w.leader_log (pasts.term w j)) m c cm a) (agree_less (w.leader_log (pasts.term w j)) (w.leader_log r.term) (w.told (pasts.term w j)) c ct r.agrees) })

pub own_log : (nodes : List ℕ) (w : pasts.Past) (j p : ℕ) → pasts.role w j ≡ 2 → p ≤ length (w.leader_log (pasts.term w j)) → pasts.Sound nodes w → matchings.Agree (w.log j) (w.leader_log (pasts.term w j)) p
own_log nodes w j p leads le s = subst (λ g. matchings.Agree g (w.leader_log (pasts.term w j)) p) (s.holds j leads) (same_log (w.leader_log (pasts.term w j)) p le)

-- a leader tells its commit
pub tell_sound : (nodes : List ℕ) (w : pasts.Past) (j : ℕ) → pasts.role w j ≡ 2 → pasts.Sound nodes w → pasts.Sound nodes (record w { told = polls.put w.told (pasts.term w j) (w.commit j) })
tell_sound nodes w j leads s = record {
  fair = s.fair;
  filled = s.filled;
  only = s.only;
  joins = s.joins;
  rises = s.rises;
  low = s.low;
  ages = s.ages;
  part = s.part;
  past = s.past;
  holds = s.holds;
  waits = s.waits;
  runs = s.runs;
  early = s.early;
  cand_part = s.cand_part;
  seen_part = s.seen_part;
  newer = s.newer;
  after = s.after;
  before = s.before;
  begins = s.begins;
  bound = s.bound;
  reached = s.reached;
  now = s.now;
  known = s.known;
  spread = putting (λ t n. pasts.IsCommittedIn nodes w.leader_log w.acked (w.leader_log t) n t) w.told (pasts.term w j) (w.commit j) (subst (λ g. pasts.IsCommittedIn nodes w.leader_log w.acked g (w.commit j) (pasts.term w j)) (sym (s.holds j leads)) (s.known j)) (λ t ne. s.spread t);
  ahead = s.ahead;
  behind = putting (λ t n. n ≤ length w.committed) w.told (pasts.term w j) (w.commit j) (s.ahead j) (λ t ne. s.behind t);
  last = s.last;
}

reason : (nodes : List ℕ) (w : pasts.Past) (j n : ℕ) → pasts.role w j ≡ 2 → matchings.Quorum nodes w.leader_log w.acked (pasts.term w j) n → pasts.Sound nodes w → pasts.Reason nodes w.leader_log w.acked (w.log j) n (pasts.term w j)
reason nodes w j n leads q s = record { term = pasts.term w j; place = n; upto = omega arith; within = omega arith; quorum = q; agrees = own_log nodes w j n leads q.within s }

-- a leader advances its commit, within what is committed
pub advance_sound : (nodes : List ℕ) (w : pasts.Past) (j n : ℕ) → pasts.role w j ≡ 2 → n ≤ length w.committed → matchings.Quorum nodes w.leader_log w.acked (pasts.term w j) n → pasts.Sound nodes w → pasts.Sound nodes (record w { commit = polls.put w.commit j n })
advance_sound nodes w j n leads le q s = commit_keeps nodes w j n le (inr (reason nodes w j n leads q s)) s

pub laws : (nodes : List ℕ) (w : pasts.Past) → pasts.Sound nodes w → matchings.Laws nodes w.leader_log w.acked w.poll.voters (λ t. w.candidate_log t (w.poll.leader t)) w.voter_log
laws nodes w s = record {
  rises = s.rises;
  most = λ t full. s.fair.most t (s.only t full);
  cand_part = λ t full. let v = voter t full in subst (λ c. matchings.IsPart w.leader_log (w.candidate_log t c)) v.2 (s.cand_part t v.0 v.1);
  ballot_part = λ t v full g. s.seen_part t v (some t v full g);
  newer = λ t v full g. subst (λ c. matchings.IsUpToDate (w.candidate_log t c) (w.voter_log t v)) (s.fair.chose t v (s.only t full) g) (s.newer t v (some t v full g));
  below = λ t full. let v = voter t full in subst (λ c. logs.last_term (w.candidate_log t c) < t) v.2 (s.early t v.0 v.1);
  begins = λ t full. s.begins t (s.only t full);
  held = λ t v r m full g lt a b. s.before t v r m (s.only t full) g lt a b;
}
  where
    some : (t v : ℕ) → 1 ≤ length (w.leader_log t) → w.poll.voters t v ≡ true → w.poll.cast t v ≢ 0
    some t v full g z = s.fair.named t (s.only t full) (sym (s.fair.chose t v (s.only t full) g) ∙ z)

    voter : (t : ℕ) → 1 ≤ length (w.leader_log t) → (v : ℕ) × (w.poll.cast t v ≢ 0) × (w.poll.cast t v ≡ w.poll.leader t)
    voter t full =
        let most = s.fair.most t (s.only t full) in
        let x = passing (w.poll.voters t) nodes (omega (arith, most)) in
        (x.0, some t x.0 full x.1, s.fair.chose t x.0 (s.only t full) x.1)

-- a leader advances beyond what is committed: the committed entries grow at their end
pub grown : (nodes : List ℕ) (w : pasts.Past) (j n : ℕ) → pasts.role w j ≡ 2 → length w.committed < n → matchings.Quorum nodes w.leader_log w.acked (pasts.term w j) n → pasts.Sound nodes w → matchings.Agree w.committed (take n (w.log j)) (length w.committed)
grown nodes w j n leads gt q s = by s.last
  where
    own : matchings.Agree (w.log j) (w.leader_log (pasts.term w j)) n
    own = own_log nodes w j n leads q.within s

    front : matchings.Agree (take n (w.log j)) (w.log j) n
    front = record { left = omega (arith, length-take-le n (w.log j) own.left); right = own.left; same = take_less n n (w.log j) (omega arith) }

    by : (length w.committed ≡ 0) ⊎ ((x : ℕ) × pasts.Reason nodes w.leader_log w.acked w.committed (length w.committed) x) → matchings.Agree w.committed (take n (w.log j)) (length w.committed)
    by (inl z) = subst (λ p. matchings.Agree w.committed (take n (w.log j)) p) (sym z) (record { left = omega arith; right = omega arith; same = refl })
    by (inr r) =
        let both : matchings.Agree (w.leader_log r.1.term) (w.leader_log (pasts.term w j)) (length w.committed) = elim (le_or_lt r.1.place n) [
          | inl le ↦ agree_less (w.leader_log r.1.term) (w.leader_log (pasts.term w j)) r.1.place (length w.committed) r.1.within (safety nodes w.leader_log w.acked w.poll.voters (λ t. w.candidate_log t (w.poll.leader t)) w.voter_log r.1.term r.1.place (pasts.term w j) n (laws nodes w s) r.1.quorum q le)
          | inr lt ↦ agree_back (w.leader_log (pasts.term w j)) (w.leader_log r.1.term) (length w.committed) (agree_less (w.leader_log (pasts.term w j)) (w.leader_log r.1.term) n (length w.committed) (omega (arith, gt)) (safety nodes w.leader_log w.acked w.poll.voters (λ t. w.candidate_log t (w.poll.leader t)) w.voter_log (pasts.term w j) n r.1.term r.1.place (laws nodes w s) q r.1.quorum (omega (arith, lt))))
        ] in
        agree_on w.committed (w.leader_log r.1.term) (take n (w.log j)) (length w.committed) r.1.agrees (agree_on (w.leader_log r.1.term) (w.leader_log (pasts.term w j)) (take n (w.log j)) (length w.committed) both (agree_back (take n (w.log j)) (w.leader_log (pasts.term w j)) (length w.committed) (agree_less (take n (w.log j)) (w.leader_log (pasts.term w j)) n (length w.committed) (omega (arith, gt)) (agree_on (take n (w.log j)) (w.log j) (w.leader_log (pasts.term w j)) n front own))))

pub commit_sound : (nodes : List ℕ) (w : pasts.Past) (j n : ℕ) → pasts.role w j ≡ 2 → length w.committed < n → matchings.Quorum nodes w.leader_log w.acked (pasts.term w j) n → pasts.Sound nodes w → pasts.Sound nodes (record w { commit = polls.put w.commit j n; committed = take n (w.log j) })
commit_sound nodes w j n leads gt q s =
    let r = reason nodes w j n leads q s in
    let own : matchings.Agree (w.log j) (w.leader_log (pasts.term w j)) n = own_log nodes w j n leads q.within s in
    let len : length (take n (w.log j)) ≡ n = length-take-le n (w.log j) own.left in
    let front : matchings.Agree (take n (w.log j)) (w.log j) n = record { left = omega (arith, len); right = own.left; same = take_less n n (w.log j) (omega arith) } in
    record {
      fair = s.fair;
      filled = s.filled;
      only = s.only;
      joins = s.joins;
      rises = s.rises;
      low = s.low;
      ages = s.ages;
      part = s.part;
      past = s.past;
      holds = s.holds;
      waits = s.waits;
      runs = s.runs;
      early = s.early;
      cand_part = s.cand_part;
      seen_part = s.seen_part;
      newer = s.newer;
      after = s.after;
      before = s.before;
      begins = s.begins;
      bound = s.bound;
      reached = s.reached;
      now = s.now;
      known = putting (λ k m. pasts.IsCommittedIn nodes w.leader_log w.acked (w.log k) m (pasts.term w k)) w.commit j n (inr r) (λ k ne. s.known k);
      spread = s.spread;
      ahead = putting (λ k m. m ≤ length (take n (w.log j))) w.commit j n (omega (arith, len)) (λ k ne. let a = s.ahead k in omega (arith, len, a, gt));
      behind = λ t. let b = s.behind t in omega (arith, len, b, gt);
      last = inr (pasts.term w j, record { term = pasts.term w j; place = n; upto = omega arith; within = omega (arith, len); quorum = q; agrees = subst (λ p. matchings.Agree (take n (w.log j)) (w.leader_log (pasts.term w j)) p) (sym len) (agree_on (take n (w.log j)) (w.log j) (w.leader_log (pasts.term w j)) n front own) });
    }

-- a follower acknowledges what its log holds of its leader's
pub ack_sound : (nodes : List ℕ) (w : pasts.Past) (j m : ℕ) → w.acked (pasts.term w j) j ≤ m → matchings.Agree (w.log j) (w.leader_log (pasts.term w j)) m → pasts.Sound nodes w → pasts.Sound nodes (record w { acked = polls.put2 w.acked (pasts.term w j) j m })
ack_sound nodes w j m le a s = record {
  fair = s.fair;
  filled = s.filled;
  only = s.only;
  joins = s.joins;
  rises = s.rises;
  low = s.low;
  ages = s.ages;
  part = s.part;
  past = s.past;
  holds = s.holds;
  waits = s.waits;
  runs = s.runs;
  early = s.early;
  cand_part = s.cand_part;
  seen_part = s.seen_part;
  newer = s.newer;
  after = λ t v r n some lt a1 b1. s.after t v r n some lt a1 (old t v r n some lt b1);
  before = λ t v r n led g lt a1 b1. s.before t v r n led g lt a1 (old t v r n (λ z. s.fair.named t led (sym (s.fair.chose t v led g) ∙ z)) lt b1);
  begins = s.begins;
  bound = putting2 (λ t k n. n ≤ length (w.leader_log t)) w.acked (pasts.term w j) j m a.right (λ t k o. s.bound t k);
  reached = putting2 (λ t k n. 1 ≤ n → t ≤ pasts.term w k) w.acked (pasts.term w j) j m (λ h. omega arith) (λ t k o. s.reached t k);
  now = λ k t n a1. putting2 (λ u i y. n ≤ y → matchings.IsHeld w.leader_log (w.log i) u n (pasts.term w i)) w.acked (pasts.term w j) j m (λ b1. inl (agree_less (w.log j) (w.leader_log (pasts.term w j)) m n b1 a)) (λ u i o. s.now i u n a1) t k;
  known = λ k. done_grows nodes w.leader_log w.leader_log w.acked (polls.put2 w.acked (pasts.term w j) j m) (w.log k) (w.commit k) (pasts.term w k) (pasts.term w k) (still w.leader_log) up (omega arith) (s.known k);
  spread = λ t. done_grows nodes w.leader_log w.leader_log w.acked (polls.put2 w.acked (pasts.term w j) j m) (w.leader_log t) (w.told t) t t (still w.leader_log) up (omega arith) (s.spread t);
  ahead = s.ahead;
  behind = s.behind;
  last = elim s.last [ inl z ↦ inl z | inr r ↦ again r.0 (done_grows nodes w.leader_log w.leader_log w.acked (polls.put2 w.acked (pasts.term w j) j m) w.committed (length w.committed) r.0 r.0 (still w.leader_log) up (omega arith) (inr r.1)) ];
}
  where
    up : (t k : ℕ) → w.acked t k ≤ polls.put2 w.acked (pasts.term w j) j m t k
    up = putting2 (λ t k n. w.acked t k ≤ n) w.acked (pasts.term w j) j m le (λ t k o. omega arith)

    again : (x : ℕ) → pasts.IsCommittedIn nodes w.leader_log (polls.put2 w.acked (pasts.term w j) j m) w.committed (length w.committed) x → (length w.committed ≡ 0) ⊎ ((y : ℕ) × pasts.Reason nodes w.leader_log (polls.put2 w.acked (pasts.term w j) j m) w.committed (length w.committed) y)
    again x (inl z) = inl z
    again x (inr r) = inr (x, r)

    old : (t v r n : ℕ) → w.poll.cast t v ≢ 0 → r < t → n ≤ polls.put2 w.acked (pasts.term w j) j m r v → n ≤ w.acked r v
    old t v r n some lt = putting2 (λ u i y. u < t → w.poll.cast t i ≢ 0 → n ≤ y → n ≤ w.acked u i) w.acked (pasts.term w j) j m (λ l c h. elim (s.fair.stays t j c) [ inl x ↦ absurd (omega (arith, l, x)) | inr x ↦ absurd (omega (arith, l, x.0)) ]) (λ u i o l c h. h) r v lt some
