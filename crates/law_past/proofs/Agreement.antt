-- Over every list of moves: what is sound at the beginning stays sound, and what follows from it.
use Rattle.std.proofs.Common.{◌≡◌, ℕ, zero, suc, ◌<◌, ◌≤◌, List, [], ◌∷◌, length, refl, sym, ◌∙◌, subst, arith, inl, inr}
use Rattle.std.specs.Prelude.{◌⊎◌, Bool, true, false}
use Rattle.ax_types.specs.declared.entries.Entry.{Entry}
use Rattle.spec_raft.specs.Log as raft_logs
use Rattle.spec_past.specs.Matching as matchings
use Rattle.spec_past.specs.Polls as polls
use Rattle.spec_past.specs.Past as pasts
use Rattle.spec_past.specs.PastMoves as past_moves
use Rattle.law_past.proofs.Logs.{agree_back, agree_on, agree_less, agree_term, agree_time, le_or_lt}
use Rattle.law_past.proofs.Safety.{complete, safety, keeps, newest}
use Rattle.law_past.proofs.Polls.{raises_keeps, falls_keeps, counts_keeps}
use Rattle.law_past.proofs.Nodes.{votes_keep, cut_sound, extend_sound}
use Rattle.law_past.proofs.Commits.{forget_sound, learn_sound, tell_sound, advance_sound, commit_sound, ack_sound, laws}
use Rattle.law_past.proofs.Ballots.{campaign_sound, grant_sound}
use Rattle.law_past.proofs.Leaders.{take_sound, lead_sound}

pub move_sound : (nodes : List ℕ) (w : pasts.Past) (m : past_moves.PastMove) → past_moves.Fits nodes w m → pasts.Sound nodes w → pasts.Sound nodes (past_moves.moves w m)
move_sound nodes w (past_moves.Raise j t) f s = votes_keep nodes w j (record { term = t; vote = 0; role = 0; votes = polls.nobody }) (omega (arith, f)) (λ h. absurd (omega (arith, h))) (λ h. absurd (omega (arith, h))) (raises_keeps nodes w.poll j t f s.fair) s
move_sound nodes w (past_moves.Fall j) f s = votes_keep nodes w j (record { term = pasts.term w j; vote = (w.poll.member j).vote; role = 0; votes = polls.nobody }) (omega arith) (λ h. absurd (omega (arith, h))) (λ h. absurd (omega (arith, h))) (falls_keeps nodes w.poll j s.fair) s
move_sound nodes w (past_moves.Forget j) f s = forget_sound nodes w j s
move_sound nodes w (past_moves.Campaign j) f s = campaign_sound nodes w j f s
move_sound nodes w (past_moves.Grant j c) f s = grant_sound nodes w j c f.0 f.1 f.2 f.3 f.4 s
move_sound nodes w (past_moves.Count j v) f s = votes_keep nodes w j (record { term = pasts.term w j; vote = (w.poll.member j).vote; role = pasts.role w j; votes = polls.put (w.poll.member j).votes v true }) (omega arith) (s.holds j) (s.waits j) (counts_keeps nodes w.poll j v f s.fair) s
move_sound nodes w (past_moves.Lead j e) f s = lead_sound nodes w j e f.0 f.1 f.2 f.3 s
move_sound nodes w (past_moves.Take j e) f s = take_sound nodes w j e f.0 f.1 f.2 s
move_sound nodes w (past_moves.Cut j k) f s = cut_sound nodes w j k f.0 f.1 f.2 f.3 f.4 s
move_sound nodes w (past_moves.Extend j es) f s = extend_sound nodes w j es f.0 f.1 s
move_sound nodes w (past_moves.Learn j m c) f s = learn_sound nodes w j m c f.0 f.1 f.2 s
move_sound nodes w (past_moves.Ack j m) f s = ack_sound nodes w j m f.0 f.1 s
move_sound nodes w (past_moves.Tell j) f s = tell_sound nodes w j f.0 s
move_sound nodes w (past_moves.Advance j n) f s = advance_sound nodes w j n f.0 f.1 f.2 s
move_sound nodes w (past_moves.Commit j n) f s = commit_sound nodes w j n f.0 f.1 f.2 s

no : false ≡ true → ⊥
no e = grind (arith, e)

nothing : (p : ℕ) → p ≤ 0 → matchings.Agree [] [] p
nothing p le = record { left = le; right = le; same = refl }

empty_at : (p : ℕ) → raft_logs.term_at [] p ≡ 0
empty_at zero = refl
empty_at (suc p) = refl

timeless : (p : ℕ) → matchings.time_at [] p ≡ 0
timeless zero = refl
timeless (suc p) = refl

pub beginning_sound : (nodes : List ℕ) → pasts.Sound nodes past_moves.beginning
beginning_sound nodes = record {
  fair = record {
    named = λ t h. absurd (no h);
    own = λ j h. absurd (h refl);
    leads = λ t h. absurd (no h);
    stays = λ t v h. absurd (h refl);
    kept = λ v h. absurd (h refl);
    other = λ j h. absurd (omega (arith, h));
    counted = λ j v h. absurd (omega (arith, h));
    most = λ t h. absurd (no h);
    chose = λ t v h. absurd (no h);
    rules = λ j h. absurd (omega (arith, h));
  };
  filled = λ t h. absurd (no h);
  only = λ t h. absurd (omega (arith, h));
  joins = λ t p le. nothing p le;
  rises = λ t p q le h. let a = empty_at p in omega (arith, a);
  low = λ t p le. let a = empty_at p in omega (arith, a);
  ages = λ t p q le h. let a = timeless p in omega (arith, a);
  part = λ j. nothing 0 (omega arith);
  past = λ j. omega arith;
  holds = λ j h. refl;
  waits = λ j h. refl;
  runs = λ t v h. absurd (h refl);
  early = λ t v h. absurd (h refl);
  cand_part = λ t v h. absurd (h refl);
  seen_part = λ t v h. absurd (h refl);
  newer = λ t v h. absurd (h refl);
  after = λ t v s m h. absurd (h refl);
  before = λ t v s m h. absurd (no h);
  begins = λ t h. absurd (no h);
  bound = λ t j. omega arith;
  reached = λ t j h. absurd (omega (arith, h));
  now = λ j t m a b. absurd (omega (arith, a, b));
  known = λ j. inl refl;
  spread = λ t. inl refl;
  ahead = λ j. omega arith;
  behind = λ t. omega arith;
  last = inl refl;
}

pub run_sound : (nodes : List ℕ) (w : pasts.Past) (ms : List past_moves.PastMove) → past_moves.AllFit nodes w ms → pasts.Sound nodes w → pasts.Sound nodes (past_moves.after_moves w ms)
run_sound nodes w [] f s = s
run_sound nodes w (m ∷ ms) f s = run_sound nodes (past_moves.moves w m) ms f.1 (move_sound nodes w m f.0 s)

-- each node's log up to its commit is the beginning of what is committed
pub node_agrees : (nodes : List ℕ) (w : pasts.Past) (j : ℕ) → pasts.Sound nodes w → matchings.Agree (w.log j) w.committed (w.commit j)
node_agrees nodes w j s = by (s.known j) s.last
  where
    by : pasts.IsCommittedIn nodes w.leader_log w.acked (w.log j) (w.commit j) (pasts.term w j) → (length w.committed ≡ 0) ⊎ ((x : ℕ) × pasts.Reason nodes w.leader_log w.acked w.committed (length w.committed) x) → matchings.Agree (w.log j) w.committed (w.commit j)
    by (inl z) _ = subst (λ p. matchings.Agree (w.log j) w.committed p) (sym z) (record { left = omega arith; right = omega arith; same = refl })
    by _ (inl z) = let a = s.ahead j in subst (λ p. matchings.Agree (w.log j) w.committed p) (let e : 0 ≡ w.commit j = omega (arith, a, z) in e) (record { left = omega arith; right = omega arith; same = refl })
    by (inr r) (inr q) =
        let both : matchings.Agree (w.leader_log r.term) (w.leader_log q.1.term) (w.commit j) = elim (le_or_lt r.place q.1.place) [
          | inl le ↦ agree_less (w.leader_log r.term) (w.leader_log q.1.term) r.place (w.commit j) r.within (safety nodes w.leader_log w.acked w.poll.voters (λ t. w.candidate_log t (w.poll.leader t)) w.voter_log r.term r.place q.1.term q.1.place (laws nodes w s) r.quorum q.1.quorum le)
          | inr lt ↦ let a = s.ahead j in let b = q.1.within in agree_back (w.leader_log q.1.term) (w.leader_log r.term) (w.commit j) (agree_less (w.leader_log q.1.term) (w.leader_log r.term) q.1.place (w.commit j) (omega (arith, a, b)) (safety nodes w.leader_log w.acked w.poll.voters (λ t. w.candidate_log t (w.poll.leader t)) w.voter_log q.1.term q.1.place r.term r.place (laws nodes w s) q.1.quorum r.quorum (omega (arith, lt))))
        ] in
        agree_on (w.log j) (w.leader_log r.term) w.committed (w.commit j) r.agrees (agree_on (w.leader_log r.term) (w.leader_log q.1.term) w.committed (w.commit j) both (agree_back w.committed (w.leader_log q.1.term) (w.commit j) (agree_less w.committed (w.leader_log q.1.term) (length w.committed) (w.commit j) (s.ahead j) q.1.agrees)))

-- logs with one term at a place are equal up to it
pub logs_agree : (nodes : List ℕ) (w : pasts.Past) (i j p : ℕ) → pasts.Sound nodes w → p ≤ length (w.log i) → p ≤ length (w.log j) → raft_logs.term_at (w.log i) p ≡ raft_logs.term_at (w.log j) p → matchings.Agree (w.log i) (w.log j) p
logs_agree nodes w i j p s a b e = agree_on (w.log i) (w.leader_log (raft_logs.term_at (w.log i) p)) (w.log j) p (own i a) (subst (λ u. matchings.Agree (w.leader_log u) (w.log j) p) (sym e) (agree_back (w.log j) (w.leader_log (raft_logs.term_at (w.log j) p)) p (own j b)))
  where
    own : (k : ℕ) → p ≤ length (w.log k) → matchings.Agree (w.log k) (w.leader_log (raft_logs.term_at (w.log k) p)) p
    own k le =
        let x = agree_less (w.log k) (w.leader_log (raft_logs.last_term (w.log k))) (length (w.log k)) p le (s.part k) in
        let y = s.joins (raft_logs.last_term (w.log k)) p x.right in
        subst (λ u. matchings.Agree (w.log k) (w.leader_log u) p) (sym (agree_term (w.log k) (w.leader_log (raft_logs.last_term (w.log k))) p p (omega arith) x)) (agree_on (w.log k) (w.leader_log (raft_logs.last_term (w.log k))) (w.leader_log (raft_logs.term_at (w.leader_log (raft_logs.last_term (w.log k))) p)) p x y)

-- a log and a history log with one term at a place agree up to it: from this come the guards of Cut, Extend, Learn and Ack
pub meets : (nodes : List ℕ) (w : pasts.Past) (j t p : ℕ) → pasts.Sound nodes w → p ≤ length (w.log j) → p ≤ length (w.leader_log t) → raft_logs.term_at (w.log j) p ≡ raft_logs.term_at (w.leader_log t) p → matchings.Agree (w.log j) (w.leader_log t) p
meets nodes w j t p s a b e =
    let x = agree_less (w.log j) (w.leader_log (raft_logs.last_term (w.log j))) (length (w.log j)) p a (s.part j) in
    let y = agree_on (w.log j) (w.leader_log (raft_logs.last_term (w.log j))) (w.leader_log (raft_logs.term_at (w.leader_log (raft_logs.last_term (w.log j))) p)) p x (s.joins (raft_logs.last_term (w.log j)) p x.right) in
    let f = sym (agree_term (w.log j) (w.leader_log (raft_logs.last_term (w.log j))) p p (omega arith) x) ∙ e in
    let z = s.joins t p b in
    agree_on (w.log j) (w.leader_log (raft_logs.term_at (w.leader_log t) p)) (w.leader_log t) p (subst (λ u. matchings.Agree (w.log j) (w.leader_log u) p) f y) (agree_back (w.leader_log t) (w.leader_log (raft_logs.term_at (w.leader_log t) p)) p z)

-- a leader never finds a conflict at or below a commit of its follower
pub no_conflict : (nodes : List ℕ) (w : pasts.Past) (j p : ℕ) → pasts.Sound nodes w → w.poll.led (pasts.term w j) ≡ true → p ≤ w.commit j → matchings.Agree (w.log j) (w.leader_log (pasts.term w j)) p
no_conflict nodes w j p s led le = by (s.known j)
  where
    by : pasts.IsCommittedIn nodes w.leader_log w.acked (w.log j) (w.commit j) (pasts.term w j) → matchings.Agree (w.log j) (w.leader_log (pasts.term w j)) p
    by (inl z) = subst (λ q. matchings.Agree (w.log j) (w.leader_log (pasts.term w j)) q) (let x : 0 ≡ p = omega (arith, z, le) in x) (record { left = omega arith; right = omega arith; same = refl })
    by (inr r) = elim (le_or_lt (pasts.term w j) r.term) [
      | inl ge ↦ let e : r.term ≡ pasts.term w j = omega (arith, ge, r.upto) in subst (λ u. matchings.Agree (w.log j) (w.leader_log u) p) e (agree_less (w.log j) (w.leader_log r.term) (w.commit j) p le r.agrees)
      | inr lt ↦
          let c = complete nodes w.leader_log w.acked w.poll.voters (λ u. w.candidate_log u (w.poll.leader u)) w.voter_log r.term r.place (laws nodes w s) r.quorum (pasts.term w j) lt (s.filled (pasts.term w j) led) in
          agree_on (w.log j) (w.leader_log r.term) (w.leader_log (pasts.term w j)) p (agree_less (w.log j) (w.leader_log r.term) (w.commit j) p le r.agrees) (agree_back (w.leader_log (pasts.term w j)) (w.leader_log r.term) p (agree_less (w.leader_log (pasts.term w j)) (w.leader_log r.term) r.place p (omega (arith, le, r.within)) c))
    ]

-- the times in each log never fall
pub times_rise : (nodes : List ℕ) (w : pasts.Past) (j p q : ℕ) → pasts.Sound nodes w → p ≤ q → q ≤ length (w.log j) → matchings.time_at (w.log j) p ≤ matchings.time_at (w.log j) q
times_rise nodes w j p q s le x =
    let a = agree_time (w.log j) (w.leader_log (raft_logs.last_term (w.log j))) (length (w.log j)) p (omega (arith, le, x)) (s.part j) in
    let b = agree_time (w.log j) (w.leader_log (raft_logs.last_term (w.log j))) (length (w.log j)) q x (s.part j) in
    let r = s.ages (raft_logs.last_term (w.log j)) p q le (omega (arith, x, (s.part j).right)) in
    omega (arith, a, b, r)

-- a leader holds what was committed in its term or an earlier one
pub leader_holds : (nodes : List ℕ) (w : pasts.Past) (j t p : ℕ) → pasts.role w j ≡ 2 → t ≤ pasts.term w j → matchings.Quorum nodes w.leader_log w.acked t p → pasts.Sound nodes w → matchings.Agree (w.log j) (w.leader_log t) p
leader_holds nodes w j t p leads le q s = subst (λ g. matchings.Agree g (w.leader_log t) p) (s.holds j leads) (by (le_or_lt (pasts.term w j) t))
  where
    by : (pasts.term w j ≤ t) ⊎ (t < pasts.term w j) → matchings.Agree (w.leader_log (pasts.term w j)) (w.leader_log t) p
    by (inl ge) = let e : t ≡ pasts.term w j = omega (arith, le, ge) in subst (λ u. matchings.Agree (w.leader_log u) (w.leader_log t) p) e (record { left = q.within; right = q.within; same = refl })
    by (inr lt) = complete nodes w.leader_log w.acked w.poll.voters (λ u. w.candidate_log u (w.poll.leader u)) w.voter_log t p (laws nodes w s) q (pasts.term w j) lt (s.filled (pasts.term w j) (s.fair.rules j leads).0)

-- a log that holds the reason holds what is committed
holds_done : (nodes : List ℕ) (w : pasts.Past) (g : List Entry) (x : ℕ) → (r : pasts.Reason nodes w.leader_log w.acked w.committed (length w.committed) x) → matchings.Agree g (w.leader_log r.term) r.place → matchings.Agree g w.committed (length w.committed)
holds_done nodes w g x r a = agree_on g (w.leader_log r.term) w.committed (length w.committed) (agree_less g (w.leader_log r.term) r.place (length w.committed) r.within a) (agree_back w.committed (w.leader_log r.term) (length w.committed) r.agrees)

-- each of the majority that acknowledged it keeps what is committed
pub kept_by : (nodes : List ℕ) (w : pasts.Past) (j x : ℕ) (r : pasts.Reason nodes w.leader_log w.acked w.committed (length w.committed) x) → pasts.Sound nodes w → r.place ≤ w.acked r.term j → matchings.Agree (w.log j) w.committed (length w.committed)
kept_by nodes w j x r s le = holds_done nodes w (w.log j) x r (keeps nodes w.leader_log w.acked w.poll.voters (λ t. w.candidate_log t (w.poll.leader t)) w.voter_log r.term r.place (pasts.term w j) (w.log j) (laws nodes w s) r.quorum (s.now j r.term r.place r.quorum.place le))

-- the newest log of each majority begins with what is committed
pub newest_done : (nodes : List ℕ) (w : pasts.Past) (some : ℕ → Bool) (best : List Entry) (x : ℕ) (r : pasts.Reason nodes w.leader_log w.acked w.committed (length w.committed) x) → pasts.Sound nodes w → matchings.IsMost some nodes → matchings.IsPart w.leader_log best → ((j : ℕ) → some j ≡ true → matchings.IsUpToDate best (w.log j)) → matchings.Agree best w.committed (length w.committed)
newest_done nodes w some best x r s most part up = holds_done nodes w best x r (newest nodes w.leader_log w.acked w.poll.voters (λ t. w.candidate_log t (w.poll.leader t)) w.voter_log r.term r.place w.log (pasts.term w) some best (laws nodes w s) r.quorum s.part (λ j le. s.now j r.term r.place r.quorum.place le) most part up)
