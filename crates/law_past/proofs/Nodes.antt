-- Each micro-step keeps what is sound.
use Rattle.std.proofs.Common.{◌≡◌, ℕ, suc, ◌≤◌, List, ◌++◌, length, take, ap, sym, ◌∙◌, subst, arith, inl, inr}
use Rattle.std.specs.Prelude.{◌≢◌}
use Rattle.std.proofs.lemmas.List.{length-take-le}
use Rattle.ax_types.specs.declared.entries.Entry.{Entry}
use Rattle.spec_raft.specs.Log as logs
use Rattle.spec_past.specs.Matching as matchings
use Rattle.spec_past.specs.Polls as polls
use Rattle.spec_past.specs.Later as laters
use Rattle.spec_past.specs.Past as pasts
use Rattle.law_past.proofs.Logs.{agree_back, agree_on, agree_less, agree_term, take_less}
use Rattle.law_past.proofs.Held.{cut_keeps, add_keeps}
use Rattle.law_past.proofs.Growth.{held_grows, done_grows, same_log, longer_by}
use Rattle.law_past.proofs.Polls.{putting}

pub still : (L : ℕ → List Entry) → laters.Grows L L
still L s = same_log (L s) (length (L s)) (omega arith)

pub no_less : (acked : ℕ → ℕ → ℕ) (s j : ℕ) → acked s j ≤ acked s j
no_less acked s j = omega arith

-- a change of one node's votes alone, where its term does not fall
pub votes_keep : (nodes : List ℕ) (w : pasts.Past) (j : ℕ) (m : polls.Voter) → pasts.term w j ≤ m.term → (m.role ≡ 2 → w.leader_log m.term ≡ w.log j) → (m.role ≡ 1 → w.candidate_log m.term j ≡ w.log j) → polls.Fair nodes (record w.poll { member = polls.put w.poll.member j m }) → pasts.Sound nodes w → pasts.Sound nodes (record w { poll = record w.poll { member = polls.put w.poll.member j m } })
votes_keep nodes w j m le leads runs fair s =
    let up : (k : ℕ) → pasts.term w k ≤ (polls.put w.poll.member j m k).term = putting (λ k n. pasts.term w k ≤ n.term) w.poll.member j m le (λ k ne. omega arith) in
    record {
      fair = fair;
      filled = s.filled;
      only = s.only;
      joins = s.joins;
      rises = s.rises;
      low = s.low;
      ages = s.ages;
      part = s.part;
      past = λ k. omega (arith, s.past k, up k);
      holds = putting (λ k n. n.role ≡ 2 → w.leader_log n.term ≡ w.log k) w.poll.member j m leads (λ k ne. s.holds k);
      waits = putting (λ k n. n.role ≡ 1 → w.candidate_log n.term k ≡ w.log k) w.poll.member j m runs (λ k ne. s.waits k);
      runs = s.runs;
      early = s.early;
      cand_part = s.cand_part;
      seen_part = s.seen_part;
      newer = s.newer;
      after = s.after;
      before = s.before;
      begins = s.begins;
      bound = s.bound;
      reached = λ t k h. let r = s.reached t k h in omega (arith, r, up k);
      now = λ k t n a b. held_grows w.leader_log w.leader_log (w.log k) t n (pasts.term w k) (polls.put w.poll.member j m k).term (still w.leader_log) (up k) (s.now k t n a b);
      known = λ k. done_grows nodes w.leader_log w.leader_log w.acked w.acked (w.log k) (w.commit k) (pasts.term w k) (polls.put w.poll.member j m k).term (still w.leader_log) (no_less w.acked) (up k) (s.known k);
      spread = s.spread;
      ahead = s.ahead;
      behind = s.behind;
      last = s.last;
    }

-- the log of a follower changes, within the history log of its term
pub log_keeps : (nodes : List ℕ) (w : pasts.Past) (j : ℕ) (g : List Entry) → pasts.role w j ≡ 0 → matchings.IsPart w.leader_log g → logs.last_term g ≤ pasts.term w j → ((t m : ℕ) → 1 ≤ m → m ≤ w.acked t j → matchings.IsHeld w.leader_log g t m (pasts.term w j)) → pasts.IsCommittedIn nodes w.leader_log w.acked g (w.commit j) (pasts.term w j) → pasts.Sound nodes w → pasts.Sound nodes (record w { log = polls.put w.log j g })
log_keeps nodes w j g idle part past now known s = record {
  fair = s.fair;
  filled = s.filled;
  only = s.only;
  joins = s.joins;
  rises = s.rises;
  low = s.low;
  ages = s.ages;
  part = putting (λ k l. matchings.IsPart w.leader_log l) w.log j g part (λ k ne. s.part k);
  past = putting (λ k l. logs.last_term l ≤ pasts.term w k) w.log j g past (λ k ne. s.past k);
  holds = putting (λ k l. pasts.role w k ≡ 2 → w.leader_log (pasts.term w k) ≡ l) w.log j g (λ h. absurd (omega (arith, h, idle))) (λ k ne. s.holds k);
  waits = putting (λ k l. pasts.role w k ≡ 1 → w.candidate_log (pasts.term w k) k ≡ l) w.log j g (λ h. absurd (omega (arith, h, idle))) (λ k ne. s.waits k);
  runs = s.runs;
  early = s.early;
  cand_part = s.cand_part;
  seen_part = s.seen_part;
  newer = s.newer;
  after = s.after;
  before = s.before;
  begins = s.begins;
  bound = s.bound;
  reached = s.reached;
  now = putting (λ k l. (t m : ℕ) → 1 ≤ m → m ≤ w.acked t k → matchings.IsHeld w.leader_log l t m (pasts.term w k)) w.log j g now (λ k ne. s.now k);
  known = putting (λ k l. pasts.IsCommittedIn nodes w.leader_log w.acked l (w.commit k) (pasts.term w k)) w.log j g known (λ k ne. s.known k);
  spread = s.spread;
  ahead = s.ahead;
  behind = s.behind;
  last = s.last;
}

part_of_part : (nodes : List ℕ) (w : pasts.Past) (g : List Entry) (k : ℕ) → pasts.Sound nodes w → matchings.IsPart w.leader_log g → k ≤ length g → matchings.IsPart w.leader_log (take k g)
part_of_part nodes w g k s part le =
    let a : matchings.Agree (take k g) g k = record { left = omega (arith, length-take-le k g le); right = le; same = take_less k k g (omega arith) } in
    let b = agree_less g (w.leader_log (logs.last_term g)) (length g) k le part in
    let c = s.joins (logs.last_term g) k b.right in
    let d = agree_on (take k g) (w.leader_log (logs.last_term g)) (w.leader_log (logs.term_at (w.leader_log (logs.last_term g)) k)) k (agree_on (take k g) g (w.leader_log (logs.last_term g)) k a b) c in
    let e : length (take k g) ≡ k = length-take-le k g le in
    let f : logs.term_at (w.leader_log (logs.last_term g)) k ≡ logs.last_term (take k g) = sym (agree_term (take k g) (w.leader_log (logs.last_term g)) k k (omega arith) (agree_on (take k g) g (w.leader_log (logs.last_term g)) k a b)) ∙ sym (ap (λ n. logs.term_at (take k g) n) e) in
    subst (λ n. matchings.Agree (take k g) (w.leader_log (logs.last_term (take k g))) n) (sym e) (subst (λ u. matchings.Agree (take k g) (w.leader_log u) k) f d)

-- a cut above the commit, where the terms differ from those of the history log of the node's term
pub cut_sound : (nodes : List ℕ) (w : pasts.Past) (j k : ℕ) → pasts.role w j ≡ 0 → w.commit j ≤ k → suc k ≤ length (w.log j) → suc k ≤ length (w.leader_log (pasts.term w j)) → logs.term_at (w.log j) (suc k) ≢ logs.term_at (w.leader_log (pasts.term w j)) (suc k) → pasts.Sound nodes w → pasts.Sound nodes (record w { log = polls.put w.log j (take k (w.log j)) })
cut_sound nodes w j k idle safe kg kt differ s = log_keeps nodes w j (take k (w.log j)) idle (part_of_part nodes w (w.log j) k s (s.part j) (omega (arith, kg))) old (λ t m a b. cut_keeps w.leader_log (w.log j) t m (pasts.term w j) (pasts.term w j) k (s.reached t j (omega (arith, a, b))) (omega arith) kg kt differ (s.now j t m a b)) (keep (s.known j)) s
  where
    len : length (take k (w.log j)) ≡ k
    len = length-take-le k (w.log j) (omega (arith, kg))

    short : matchings.Agree (take k (w.log j)) (w.log j) k
    short = record { left = omega (arith, len); right = omega (arith, kg); same = take_less k k (w.log j) (omega arith) }

    old : logs.last_term (take k (w.log j)) ≤ pasts.term w j
    old =
        let a = ap (λ n. logs.term_at (take k (w.log j)) n) len in
        let b = agree_term (take k (w.log j)) (w.log j) k k (omega arith) short in
        let c = agree_term (w.log j) (w.leader_log (logs.last_term (w.log j))) (length (w.log j)) k (omega (arith, kg)) (s.part j) in
        let d = s.low (logs.last_term (w.log j)) k (omega (arith, kg, (s.part j).right)) in
        let e = s.past j in
        omega (arith, a, b, c, d, e)

    keep : pasts.IsCommittedIn nodes w.leader_log w.acked (w.log j) (w.commit j) (pasts.term w j) → pasts.IsCommittedIn nodes w.leader_log w.acked (take k (w.log j)) (w.commit j) (pasts.term w j)
    keep (inl z) = inl z
    keep (inr r) = inr (record { term = r.term; place = r.place; upto = r.upto; within = r.within; quorum = r.quorum; agrees = agree_on (take k (w.log j)) (w.log j) (w.leader_log r.term) (w.commit j) (agree_less (take k (w.log j)) (w.log j) k (w.commit j) safe short) r.agrees })

-- more entries of the log of the leader of the node's term
pub extend_sound : (nodes : List ℕ) (w : pasts.Past) (j : ℕ) (es : List Entry) → pasts.role w j ≡ 0 → matchings.Agree (w.log j ++ es) (w.leader_log (pasts.term w j)) (length (w.log j ++ es)) → pasts.Sound nodes w → pasts.Sound nodes (record w { log = polls.put w.log j (w.log j ++ es) })
extend_sound nodes w j es idle next s = log_keeps nodes w j (w.log j ++ es) idle part old (λ t m a b. add_keeps w.leader_log (w.log j) es t m (pasts.term w j) (s.now j t m a b)) (keep (s.known j)) s
  where
    same : logs.last_term (w.log j ++ es) ≡ logs.term_at (w.leader_log (pasts.term w j)) (length (w.log j ++ es))
    same = agree_term (w.log j ++ es) (w.leader_log (pasts.term w j)) (length (w.log j ++ es)) (length (w.log j ++ es)) (omega arith) next

    part : matchings.IsPart w.leader_log (w.log j ++ es)
    part = subst (λ u. matchings.Agree (w.log j ++ es) (w.leader_log u) (length (w.log j ++ es))) (sym same) (agree_on (w.log j ++ es) (w.leader_log (pasts.term w j)) (w.leader_log (logs.term_at (w.leader_log (pasts.term w j)) (length (w.log j ++ es)))) (length (w.log j ++ es)) next (s.joins (pasts.term w j) (length (w.log j ++ es)) next.right))

    old : logs.last_term (w.log j ++ es) ≤ pasts.term w j
    old = let l = s.low (pasts.term w j) (length (w.log j ++ es)) next.right in omega (arith, same, l)

    keep : pasts.IsCommittedIn nodes w.leader_log w.acked (w.log j) (w.commit j) (pasts.term w j) → pasts.IsCommittedIn nodes w.leader_log w.acked (w.log j ++ es) (w.commit j) (pasts.term w j)
    keep (inl z) = inl z
    keep (inr r) = inr (record { term = r.term; place = r.place; upto = r.upto; within = r.within; quorum = r.quorum; agrees = agree_on (w.log j ++ es) (w.log j) (w.leader_log r.term) (w.commit j) (agree_back (w.log j) (w.log j ++ es) (w.commit j) (agree_less (w.log j) (w.log j ++ es) (length (w.log j)) (w.commit j) r.agrees.left (longer_by (w.log j) es))) r.agrees })
