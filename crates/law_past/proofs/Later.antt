-- Each move leaves what was once so.
use Rattle.std.proofs.Common.{◌≡◌, ℕ, suc, ◌≤◌, List, [], ◌∷◌, ◌++◌, length, refl, ap, sym, ◌∙◌, subst, arith}
use Rattle.std.specs.Prelude.{◌≢◌, true}
use Rattle.ax_types.specs.declared.entries.Entry.{Entry}
use Rattle.spec_past.specs.Matching as matchings
use Rattle.spec_past.specs.Polls as polls
use Rattle.spec_past.specs.Past as pasts
use Rattle.spec_past.specs.PastMoves as past_moves
use Rattle.spec_past.specs.Later as laters
use Rattle.law_past.proofs.Growth.{quorum_grows, longer, same_log}
use Rattle.law_past.proofs.Polls.{putting, put_other, unreached, unvoted, first_to_lead}
use Rattle.law_past.proofs.Commits.{putting2, grown}
use Rattle.law_past.proofs.Logs.{agree_on, agree_less}
use Rattle.law_past.proofs.Agreement.{move_sound}
use Rattle.law_past.proofs.Nodes.{still}

-- a change of one member, and of nothing that is remembered
member_later : (w v : pasts.Past) (j : ℕ) (m : polls.Voter) → pasts.term w j ≤ m.term → v.poll.member ≡ polls.put w.poll.member j m → v.poll.cast ≡ w.poll.cast → v.candidate_log ≡ w.candidate_log → v.poll.led ≡ w.poll.led → v.poll.leader ≡ w.poll.leader → v.leader_log ≡ w.leader_log → v.told ≡ w.told → v.acked ≡ w.acked → laters.Later w v
member_later w v j m le em ec ek el er eh et ea = record {
  terms = λ k. subst (λ f. pasts.term w k ≤ (f k).term) (sym em) (putting (λ i n. pasts.term w i ≤ n.term) w.poll.member j m le (λ i ne. omega arith) k);
  cast = λ t k some. ap (λ f. f t k) ec;
  candidate = λ t c some e. ap (λ f. f t c) ek;
  led = λ t h. (ap (λ f. f t) el ∙ h, ap (λ f. f t) er);
  grows = λ t. subst (λ L. matchings.Agree (w.leader_log t) (L t) (length (w.leader_log t))) (sym eh) (still w.leader_log t);
  told = λ t. let e = ap (λ f. f t) et in omega (arith, e);
  acked = λ t k. let e = ap (λ f. f t k) ea in omega (arith, e);
}

-- nothing that is remembered changes
pub same_later : (w v : pasts.Past) → v.poll ≡ w.poll → v.candidate_log ≡ w.candidate_log → v.leader_log ≡ w.leader_log → v.told ≡ w.told → v.acked ≡ w.acked → laters.Later w v
same_later w v ep ek eh et ea = record {
  terms = λ k. let e = ap (λ p. (p.member k).term) ep in omega (arith, e);
  cast = λ t k some. ap (λ p. p.cast t k) ep;
  candidate = λ t c some e. ap (λ f. f t c) ek;
  led = λ t h. (ap (λ p. p.led t) ep ∙ h, ap (λ p. p.leader t) ep);
  grows = λ t. subst (λ L. matchings.Agree (w.leader_log t) (L t) (length (w.leader_log t))) (sym eh) (still w.leader_log t);
  told = λ t. let e = ap (λ f. f t) et in omega (arith, e);
  acked = λ t k. let e = ap (λ f. f t k) ea in omega (arith, e);
}

pub later_self : (w : pasts.Past) → laters.Later w w
later_self w = same_later w w refl refl refl refl refl

campaign_later : (nodes : List ℕ) (w : pasts.Past) (j : ℕ) → pasts.Sound nodes w → laters.Later w (past_moves.moves w (past_moves.Campaign j))
campaign_later nodes w j s = record {
  terms = putting (λ k n. pasts.term w k ≤ n.term) w.poll.member j (record { term = t; vote = j; role = 1; votes = polls.put polls.nobody j true }) (omega arith) (λ k ne. omega arith);
  cast = putting2 (λ u k c. w.poll.cast u k ≢ 0 → c ≡ w.poll.cast u k) w.poll.cast t j j (λ some. absurd (some new)) (λ u k o some. refl);
  candidate = λ u c some. putting2 (λ u k g. k ≢ 0 → w.poll.cast u k ≡ k → g ≡ w.candidate_log u k) w.candidate_log t j (w.log j) (λ ne e. absurd (ne (sym e ∙ new))) (λ u k o ne e. refl) u c some;
  led = λ u h. (h, refl);
  grows = still w.leader_log;
  told = λ u. omega arith;
  acked = λ u k. omega arith;
}
  where
    t : ℕ
    t = suc (pasts.term w j)

    new : w.poll.cast (suc (pasts.term w j)) j ≡ 0
    new = unreached nodes w.poll (suc (pasts.term w j)) j s.fair (omega arith)

grant_later : (nodes : List ℕ) (w : pasts.Past) (j c : ℕ) → (w.poll.member j).vote ≡ 0 → pasts.Sound nodes w → laters.Later w (past_moves.moves w (past_moves.Grant j c))
grant_later nodes w j c free s = record {
  terms = putting (λ k n. pasts.term w k ≤ n.term) w.poll.member j (record { term = pasts.term w j; vote = c; role = pasts.role w j; votes = (w.poll.member j).votes }) (omega arith) (λ k ne. omega arith);
  cast = putting2 (λ u k d. w.poll.cast u k ≢ 0 → d ≡ w.poll.cast u k) w.poll.cast (pasts.term w j) j c (λ some. absurd (some (unvoted nodes w.poll j s.fair free))) (λ u k o some. refl);
  candidate = λ u k some e. refl;
  led = λ u h. (h, refl);
  grows = still w.leader_log;
  told = λ u. omega arith;
  acked = λ u k. omega arith;
}

adds_grows : (w : pasts.Past) (j : ℕ) (e : Entry) → matchings.Agree (w.leader_log (pasts.term w j)) (w.log j ++ e ∷ []) (length (w.leader_log (pasts.term w j))) → laters.Grows w.leader_log (polls.put w.leader_log (pasts.term w j) (w.log j ++ e ∷ []))
adds_grows w j e grows = putting (λ u l. matchings.Agree (w.leader_log u) l (length (w.leader_log u))) w.leader_log (pasts.term w j) (w.log j ++ e ∷ []) grows (λ u ne. still w.leader_log u)

adds_acked : (nodes : List ℕ) (w : pasts.Past) (j : ℕ) (e : Entry) → matchings.Agree (w.leader_log (pasts.term w j)) (w.log j ++ e ∷ []) (length (w.leader_log (pasts.term w j))) → pasts.Sound nodes w → (u k : ℕ) → w.acked u k ≤ polls.put2 w.acked (pasts.term w j) j (length (w.log j ++ e ∷ [])) u k
adds_acked nodes w j e grows s = putting2 (λ u k n. w.acked u k ≤ n) w.acked (pasts.term w j) j (length (w.log j ++ e ∷ [])) (let a = s.bound (pasts.term w j) j in omega (arith, a, grows.right)) (λ u k o. omega arith)

lead_later : (nodes : List ℕ) (w : pasts.Past) (j : ℕ) (e : Entry) → pasts.role w j ≡ 1 → matchings.IsMost (w.poll.member j).votes nodes → pasts.Sound nodes w → laters.Later w (past_moves.moves w (past_moves.Lead j e))
lead_later nodes w j e running most s = record {
  terms = putting (λ k n. pasts.term w k ≤ n.term) w.poll.member j (record { term = pasts.term w j; vote = (w.poll.member j).vote; role = 2; votes = polls.nobody }) (omega arith) (λ k ne. omega arith);
  cast = λ u k some. refl;
  candidate = λ u k some e. refl;
  led = λ u h. let ne : u ≢ pasts.term w j = λ x. first (ap w.poll.led (sym x) ∙ h) in (put_other w.poll.led (pasts.term w j) true u ne ∙ h, put_other w.poll.leader (pasts.term w j) j u ne);
  grows = adds_grows w j e begins;
  told = λ u. omega arith;
  acked = adds_acked nodes w j e begins s;
}
  where
    first : w.poll.led (pasts.term w j) ≡ true → ⊥
    first = first_to_lead nodes w.poll j running most s.fair

    empty : (l : List Entry) → (1 ≤ length l → ⊥) → l ≡ []
    empty [] h = refl
    empty (x ∷ l) h = absurd (h (omega arith))

    none : w.leader_log (pasts.term w j) ≡ []
    none = empty (w.leader_log (pasts.term w j)) (λ full. first (s.only (pasts.term w j) full))

    begins : matchings.Agree (w.leader_log (pasts.term w j)) (w.log j ++ e ∷ []) (length (w.leader_log (pasts.term w j)))
    begins = subst (λ l. matchings.Agree l (w.log j ++ e ∷ []) (length l)) (sym none) (record { left = omega arith; right = omega arith; same = refl })

take_later : (nodes : List ℕ) (w : pasts.Past) (j : ℕ) (e : Entry) → pasts.role w j ≡ 2 → pasts.Sound nodes w → laters.Later w (past_moves.moves w (past_moves.Take j e))
take_later nodes w j e two s =
    let begins = subst (λ l. matchings.Agree l (w.log j ++ e ∷ []) (length l)) (sym (s.holds j two)) (longer (w.log j) e) in
    record {
      terms = λ k. omega arith;
      cast = λ u k some. refl;
      candidate = λ u k some e. refl;
      led = λ u h. (h, refl);
      grows = adds_grows w j e begins;
      told = λ u. omega arith;
      acked = adds_acked nodes w j e begins s;
    }

ack_later : (w : pasts.Past) (j m : ℕ) → w.acked (pasts.term w j) j ≤ m → laters.Later w (past_moves.moves w (past_moves.Ack j m))
ack_later w j m le = record {
  terms = λ k. omega arith;
  cast = λ u k some. refl;
  candidate = λ u k some e. refl;
  led = λ u h. (h, refl);
  grows = still w.leader_log;
  told = λ u. omega arith;
  acked = putting2 (λ u k n. w.acked u k ≤ n) w.acked (pasts.term w j) j m le (λ u k o. omega arith);
}

tell_later : (w : pasts.Past) (j : ℕ) → w.told (pasts.term w j) ≤ w.commit j → laters.Later w (past_moves.moves w (past_moves.Tell j))
tell_later w j le = record {
  terms = λ k. omega arith;
  cast = λ u k some. refl;
  candidate = λ u k some e. refl;
  led = λ u h. (h, refl);
  grows = still w.leader_log;
  told = putting (λ u n. w.told u ≤ n) w.told (pasts.term w j) (w.commit j) le (λ u ne. omega arith);
  acked = λ u k. omega arith;
}

pub move_later : (nodes : List ℕ) (w : pasts.Past) (m : past_moves.PastMove) → past_moves.Fits nodes w m → pasts.Sound nodes w → laters.Later w (past_moves.moves w m)
move_later nodes w (past_moves.Raise j t) f s = member_later w (past_moves.moves w (past_moves.Raise j t)) j (record { term = t; vote = 0; role = 0; votes = polls.nobody }) (omega (arith, f)) refl refl refl refl refl refl refl refl
move_later nodes w (past_moves.Fall j) f s = member_later w (past_moves.moves w (past_moves.Fall j)) j (record { term = pasts.term w j; vote = (w.poll.member j).vote; role = 0; votes = polls.nobody }) (omega arith) refl refl refl refl refl refl refl refl
move_later nodes w (past_moves.Count j v) f s = member_later w (past_moves.moves w (past_moves.Count j v)) j (record { term = pasts.term w j; vote = (w.poll.member j).vote; role = pasts.role w j; votes = polls.put (w.poll.member j).votes v true }) (omega arith) refl refl refl refl refl refl refl refl
move_later nodes w (past_moves.Forget j) f s = same_later w (past_moves.moves w (past_moves.Forget j)) refl refl refl refl refl
move_later nodes w (past_moves.Cut j k) f s = same_later w (past_moves.moves w (past_moves.Cut j k)) refl refl refl refl refl
move_later nodes w (past_moves.Extend j es) f s = same_later w (past_moves.moves w (past_moves.Extend j es)) refl refl refl refl refl
move_later nodes w (past_moves.Learn j m c) f s = same_later w (past_moves.moves w (past_moves.Learn j m c)) refl refl refl refl refl
move_later nodes w (past_moves.Advance j n) f s = same_later w (past_moves.moves w (past_moves.Advance j n)) refl refl refl refl refl
move_later nodes w (past_moves.Commit j n) f s = same_later w (past_moves.moves w (past_moves.Commit j n)) refl refl refl refl refl
move_later nodes w (past_moves.Campaign j) f s = campaign_later nodes w j s
move_later nodes w (past_moves.Grant j c) f s = grant_later nodes w j c f.2 s
move_later nodes w (past_moves.Lead j e) f s = lead_later nodes w j e f.0 f.2 s
move_later nodes w (past_moves.Take j e) f s = take_later nodes w j e f.0 s
move_later nodes w (past_moves.Ack j m) f s = ack_later w j m f.0
move_later nodes w (past_moves.Tell j) f s = tell_later w j f.1

agree_later : (L M N : ℕ → List Entry) → laters.Grows L M → laters.Grows M N → laters.Grows L N
agree_later L M N a b t = agree_on (L t) (M t) (N t) (length (L t)) (a t) (agree_less (M t) (N t) (length (M t)) (length (L t)) (a t).right (b t))

pub later_on : (u v w : pasts.Past) → laters.Later u v → laters.Later v w → laters.Later u w
later_on u v w a b = record {
  terms = λ k. let x = a.terms k in let y = b.terms k in omega (arith, x, y);
  cast = λ t k some. b.cast t k (λ z. some (sym (a.cast t k some) ∙ z)) ∙ a.cast t k some;
  candidate = λ t c some e. b.candidate t c some (a.cast t c (λ z. some (sym e ∙ z)) ∙ e) ∙ a.candidate t c some e;
  led = λ t h. let x = a.led t h in let y = b.led t x.0 in (y.0, y.1 ∙ x.1);
  grows = agree_later u.leader_log v.leader_log w.leader_log a.grows b.grows;
  told = λ t. let x = a.told t in let y = b.told t in omega (arith, x, y);
  acked = λ t k. let x = a.acked t k in let y = b.acked t k in omega (arith, x, y);
}

pub run_later : (nodes : List ℕ) (w : pasts.Past) (ms : List past_moves.PastMove) → past_moves.AllFit nodes w ms → pasts.Sound nodes w → laters.Later w (past_moves.after_moves w ms)
run_later nodes w [] f s = later_self w
run_later nodes w (m ∷ ms) f s = later_on w (past_moves.moves w m) (past_moves.after_moves (past_moves.moves w m) ms) (move_later nodes w m f.0 s) (run_later nodes (past_moves.moves w m) ms f.1 (move_sound nodes w m f.0 s))

pub quorum_later : (nodes : List ℕ) (w v : pasts.Past) (t p : ℕ) → laters.Later w v → matchings.Quorum nodes w.leader_log w.acked t p → matchings.Quorum nodes v.leader_log v.acked t p
quorum_later nodes w v t p l q = quorum_grows nodes w.leader_log v.leader_log w.acked v.acked t p l.grows l.acked q

same_committed : (w : pasts.Past) → matchings.Agree w.committed w.committed (length w.committed)
same_committed w = same_log w.committed (length w.committed) (omega arith)

-- the committed entries grow at their end alone
pub move_committed : (nodes : List ℕ) (w : pasts.Past) (m : past_moves.PastMove) → past_moves.Fits nodes w m → pasts.Sound nodes w → matchings.Agree w.committed (past_moves.moves w m).committed (length w.committed)
move_committed nodes w (past_moves.Commit j n) f s = grown nodes w j n f.0 f.1 f.2 s
move_committed nodes w m f s = same_committed w

pub run_committed : (nodes : List ℕ) (w : pasts.Past) (ms : List past_moves.PastMove) → past_moves.AllFit nodes w ms → pasts.Sound nodes w → matchings.Agree w.committed (past_moves.after_moves w ms).committed (length w.committed)
run_committed nodes w [] f s = same_committed w
run_committed nodes w (m ∷ ms) f s =
    let a = move_committed nodes w m f.0 s in
    let b = run_committed nodes (past_moves.moves w m) ms f.1 (move_sound nodes w m f.0 s) in
    agree_on w.committed (past_moves.moves w m).committed (past_moves.after_moves (past_moves.moves w m) ms).committed (length w.committed) a (agree_less (past_moves.moves w m).committed (past_moves.after_moves (past_moves.moves w m) ms).committed (length (past_moves.moves w m).committed) (length w.committed) a.right b)
