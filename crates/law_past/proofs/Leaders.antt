-- A new leader's first entry, and each later entry of a leader, keep what is sound.
use Rattle.std.proofs.Common.{◌≡◌, ℕ, suc, ◌<◌, ◌≤◌, List, [], ◌∷◌, ◌++◌, length, refl, ap, sym, ◌∙◌, subst, arith, inl, inr}
use Rattle.std.specs.Prelude.{◌⊎◌, ◌≢◌, true}
use Rattle.ax_types.specs.declared.entries.Entry.{Entry}
use Rattle.spec_raft.specs.Log as logs
use Rattle.spec_past.specs.Matching as matchings
use Rattle.spec_past.specs.Polls as polls
use Rattle.spec_past.specs.Later as laters
use Rattle.spec_past.specs.Past as pasts
use Rattle.law_past.proofs.Logs.{agree_back, agree_on, agree_less, agree_term, agree_time, le_or_lt}
use Rattle.law_past.proofs.Held.{add_keeps, elect_held}
use Rattle.law_past.proofs.Growth.{agree_grows, part_grows, clash_grows, held_grows, done_grows, same_log, longer, last_of_longer, time_of_longer, length_longer}
use Rattle.law_past.proofs.Polls.{putting, put_same, put_other, put2_same, put2_other, same_or, wins_keeps, first_to_lead}
use Rattle.law_past.proofs.Commits.{putting2}
use Rattle.law_past.proofs.Nodes.{still}

-- what is known of the change of the elections: only those of the term t of node j
pub record Led (nodes : List ℕ) (w : pasts.Past) (j : ℕ) (e : Entry) (p : polls.Poll) : Type 0 where
  pub fair : polls.Fair nodes p
  pub own : e.term ≡ pasts.term w j
  pub late : logs.last_time (w.log j) ≤ e.time
  pub cast : (u v : ℕ) → p.cast u v ≡ w.poll.cast u v
  pub terms : (k : ℕ) → (p.member k).term ≡ pasts.term w k
  pub here : (p.led (pasts.term w j) ≡ true) × (p.leader (pasts.term w j) ≡ j) × ((p.member j).role ≡ 2)
  pub led : (u : ℕ) → u ≢ pasts.term w j → p.led u ≡ w.poll.led u
  pub leader : (u : ℕ) → u ≢ pasts.term w j → p.leader u ≡ w.poll.leader u
  pub voters : (u v : ℕ) → u ≢ pasts.term w j → p.voters u v ≡ w.poll.voters u v
  pub roles : (k : ℕ) → k ≢ j → (p.member k).role ≡ pasts.role w k
  pub apart : (k : ℕ) → k ≢ j → pasts.role w k ≡ 2 → pasts.term w k ≢ pasts.term w j
  pub grows : matchings.Agree (w.leader_log (pasts.term w j)) (w.log j ++ e ∷ []) (length (w.leader_log (pasts.term w j)))
  pub before : (v r m : ℕ) → p.voters (pasts.term w j) v ≡ true → r < pasts.term w j → 1 ≤ m → m ≤ w.acked r v → matchings.Agree (w.voter_log (pasts.term w j) v) (w.leader_log r) m ⊎ ((x : ℕ) × (r < x) × (x < pasts.term w j) × matchings.Clash w.leader_log r x m)
  pub begins : matchings.Agree (w.candidate_log (pasts.term w j) j) (w.log j ++ e ∷ []) (length (w.candidate_log (pasts.term w j) j))

pub add_sound : (nodes : List ℕ) (w : pasts.Past) (j : ℕ) (e : Entry) (p : polls.Poll) → Led nodes w j e p → pasts.Sound nodes w → pasts.Sound nodes (record w { poll = p; log = polls.put w.log j (w.log j ++ e ∷ []); leader_log = polls.put w.leader_log (pasts.term w j) (w.log j ++ e ∷ []); acked = polls.put2 w.acked (pasts.term w j) j (length (w.log j ++ e ∷ [])) })
add_sound nodes w j e p d s =
    let t = pasts.term w j in
    let g = w.log j ++ e ∷ [] in
    let new = polls.put w.leader_log t g in
    record {
      fair = d.fair;
      filled = putting (λ u l. p.led u ≡ true → 1 ≤ length l) w.leader_log t g (λ h. omega (arith, len)) (λ u ne h. s.filled u (sym (d.led u ne) ∙ h));
      only = putting (λ u l. 1 ≤ length l → p.led u ≡ true) w.leader_log t g (λ h. d.here.0) (λ u ne h. d.led u ne ∙ s.only u h);
      joins = putting (λ u l. (n : ℕ) → n ≤ length l → matchings.Agree l (new (logs.term_at l n)) n) w.leader_log t g mine (λ u ne n le. agree_grows w.leader_log new (w.leader_log u) (logs.term_at (w.leader_log u) n) n up (s.joins u n le));
      rises = λ u n m. putting (λ u l. n ≤ m → m ≤ length l → logs.term_at l n ≤ logs.term_at l m) w.leader_log t g (climbs n m) (λ u ne. s.rises u n m) u;
      low = λ u n. putting (λ u l. n ≤ length l → logs.term_at l n ≤ u) w.leader_log t g (below n) (λ u ne. s.low u n) u;
      ages = λ u n m. putting (λ u l. n ≤ m → m ≤ length l → matchings.time_at l n ≤ matchings.time_at l m) w.leader_log t g (older n m) (λ u ne. s.ages u n m) u;
      part = putting (λ k l. matchings.IsPart new l) w.log j g whole (λ k ne. part_grows w.leader_log new (w.log k) up (s.part k));
      past = putting (λ k l. logs.last_term l ≤ (p.member k).term) w.log j g (let a = d.terms j in omega (arith, a, top)) (λ k ne. let a = d.terms k in let b = s.past k in omega (arith, a, b));
      holds = putting (λ k l. (p.member k).role ≡ 2 → new (p.member k).term ≡ l) w.log j g (λ h. ap new (d.terms j) ∙ put_same w.leader_log t g) (λ k ne h. let r = sym (d.roles k ne) ∙ h in ap new (d.terms k) ∙ put_other w.leader_log t g (pasts.term w k) (d.apart k ne r) ∙ s.holds k r);
      waits = putting (λ k l. (p.member k).role ≡ 1 → w.candidate_log (p.member k).term k ≡ l) w.log j g (λ h. absurd (omega (arith, h, d.here.2))) (λ k ne h. ap (λ u. w.candidate_log u k) (d.terms k) ∙ s.waits k (sym (d.roles k ne) ∙ h));
      runs = λ u v c. d.cast u (p.cast u v) ∙ ap (w.poll.cast u) (d.cast u v) ∙ s.runs u v (λ z. c (d.cast u v ∙ z)) ∙ sym (d.cast u v);
      early = λ u v c. subst (λ x. logs.last_term (w.candidate_log u x) < u) (sym (d.cast u v)) (s.early u v (λ z. c (d.cast u v ∙ z)));
      cand_part = λ u v c. subst (λ x. matchings.IsPart new (w.candidate_log u x)) (sym (d.cast u v)) (part_grows w.leader_log new (w.candidate_log u (w.poll.cast u v)) up (s.cand_part u v (λ z. c (d.cast u v ∙ z))));
      seen_part = λ u v c. part_grows w.leader_log new (w.voter_log u v) up (s.seen_part u v (λ z. c (d.cast u v ∙ z)));
      newer = λ u v c. subst (λ x. matchings.IsUpToDate (w.candidate_log u x) (w.voter_log u v)) (sym (d.cast u v)) (s.newer u v (λ z. c (d.cast u v ∙ z)));
      after = λ u v r m c lt a b. let c0 : w.poll.cast u v ≢ 0 = λ z. c (d.cast u v ∙ z) in held_grows w.leader_log new (w.voter_log u v) r m u u up (omega arith) (s.after u v r m c0 lt a (old u v r m c0 lt b));
      before = λ u v r m led h lt a b. let c0 : w.poll.cast u v ≢ 0 = λ z. d.fair.named u led (sym (d.fair.chose u v led h) ∙ d.cast u v ∙ z) in grown r m u v (elim (same_or u t) [
        | inl x ↦ subst (λ y. matchings.Agree (w.voter_log y v) (w.leader_log r) m ⊎ ((z : ℕ) × (r < z) × (z < y) × matchings.Clash w.leader_log r z m)) (sym x) (d.before v r m (ap (λ y. p.voters y v) (sym x) ∙ h) (omega (arith, lt, x)) a (old u v r m c0 lt b))
        | inr n ↦ s.before u v r m (sym (d.led u n) ∙ led) (sym (d.voters u v n) ∙ h) lt a (old u v r m c0 lt b)
      ]);
      begins = putting (λ u l. p.led u ≡ true → matchings.Agree (w.candidate_log u (p.leader u)) l (length (w.candidate_log u (p.leader u)))) w.leader_log t g (λ h. subst (λ x. matchings.Agree (w.candidate_log t x) g (length (w.candidate_log t x))) (sym d.here.1) d.begins) (λ u ne h. subst (λ x. matchings.Agree (w.candidate_log u x) (w.leader_log u) (length (w.candidate_log u x))) (sym (d.leader u ne)) (s.begins u (sym (d.led u ne) ∙ h)));
      bound = putting2 (λ u k n. n ≤ length (new u)) w.acked t j (length g) (subst (λ l. length g ≤ length l) (sym (put_same w.leader_log t g)) (omega arith)) (λ u k o. let a = s.bound u k in let b = (up u).right in omega (arith, a, b));
      reached = putting2 (λ u k n. 1 ≤ n → u ≤ (p.member k).term) w.acked t j (length g) (λ h. let a = d.terms j in omega (arith, a)) (λ u k o h. let a = d.terms k in let b = s.reached u k h in omega (arith, a, b));
      now = putting (λ k l. (u m : ℕ) → 1 ≤ m → m ≤ polls.put2 w.acked t j (length g) u k → matchings.IsHeld new l u m (p.member k).term) w.log j g kept (λ k ne u m a b. held_grows w.leader_log new (w.log k) u m (pasts.term w k) (p.member k).term up (let x = d.terms k in omega (arith, x)) (s.now k u m a (subst (λ n. m ≤ n) (put2_other w.acked t j (length g) u k (inr ne)) b)));
      known = putting (λ k l. pasts.IsCommittedIn nodes new (polls.put2 w.acked t j (length g)) l (w.commit k) (p.member k).term) w.log j g (done_grows nodes w.leader_log new w.acked (polls.put2 w.acked t j (length g)) g (w.commit j) t (p.member j).term up more (let x = d.terms j in omega (arith, x)) (onto (w.log j) (w.commit j) t (longer (w.log j) e) (s.known j))) (λ k ne. done_grows nodes w.leader_log new w.acked (polls.put2 w.acked t j (length g)) (w.log k) (w.commit k) (pasts.term w k) (p.member k).term up more (let x = d.terms k in omega (arith, x)) (s.known k));
      spread = putting (λ u l. pasts.IsCommittedIn nodes new (polls.put2 w.acked t j (length g)) l (w.told u) u) w.leader_log t g (done_grows nodes w.leader_log new w.acked (polls.put2 w.acked t j (length g)) g (w.told t) t t up more (omega arith) (onto (w.leader_log t) (w.told t) t d.grows (s.spread t))) (λ u ne. done_grows nodes w.leader_log new w.acked (polls.put2 w.acked t j (length g)) (w.leader_log u) (w.told u) u u up more (omega arith) (s.spread u));
      ahead = s.ahead;
      behind = s.behind;
      last = elim s.last [ inl z ↦ inl z | inr r ↦ again r.0 (done_grows nodes w.leader_log new w.acked (polls.put2 w.acked t j (length g)) w.committed (length w.committed) r.0 r.0 up more (omega arith) (inr r.1)) ];
    }
  where
    len : length (w.log j ++ e ∷ []) ≡ suc (length (w.log j))
    len = length_longer (w.log j) e

    top : logs.last_term (w.log j ++ e ∷ []) ≡ pasts.term w j
    top = ap (λ n. logs.term_at (w.log j ++ e ∷ []) n) len ∙ last_of_longer (w.log j) e ∙ d.own

    up : laters.Grows w.leader_log (polls.put w.leader_log (pasts.term w j) (w.log j ++ e ∷ []))
    up = putting (λ u l. matchings.Agree (w.leader_log u) l (length (w.leader_log u))) w.leader_log (pasts.term w j) (w.log j ++ e ∷ []) d.grows (λ u ne. still w.leader_log u)

    more : (u k : ℕ) → w.acked u k ≤ polls.put2 w.acked (pasts.term w j) j (length (w.log j ++ e ∷ [])) u k
    more = putting2 (λ u k n. w.acked u k ≤ n) w.acked (pasts.term w j) j (length (w.log j ++ e ∷ [])) (let a = s.bound (pasts.term w j) j in omega (arith, a, d.grows.right)) (λ u k o. omega arith)

    -- the new log stands in its own history log
    itself : (n : ℕ) → n ≤ length (w.log j ++ e ∷ []) → matchings.Agree (w.log j ++ e ∷ []) (polls.put w.leader_log (pasts.term w j) (w.log j ++ e ∷ []) (pasts.term w j)) n
    itself n le = subst (λ l. matchings.Agree (w.log j ++ e ∷ []) l n) (sym (put_same w.leader_log (pasts.term w j) (w.log j ++ e ∷ []))) (same_log (w.log j ++ e ∷ []) n le)

    whole : matchings.IsPart (polls.put w.leader_log (pasts.term w j) (w.log j ++ e ∷ [])) (w.log j ++ e ∷ [])
    whole = subst (λ u. matchings.Agree (w.log j ++ e ∷ []) (polls.put w.leader_log (pasts.term w j) (w.log j ++ e ∷ []) u) (length (w.log j ++ e ∷ []))) (sym top) (itself (length (w.log j ++ e ∷ [])) (omega arith))

    -- the terms of the new log at an old place, and at its last
    front : (n : ℕ) → n ≤ length (w.log j) → logs.term_at (w.log j ++ e ∷ []) n ≡ logs.term_at (w.log j) n
    front n le = sym (agree_term (w.log j) (w.log j ++ e ∷ []) (length (w.log j)) n le (longer (w.log j) e))

    end : (n : ℕ) → length (w.log j) < n → n ≤ length (w.log j ++ e ∷ []) → logs.term_at (w.log j ++ e ∷ []) n ≡ pasts.term w j
    end n lt le = ap (λ k. logs.term_at (w.log j ++ e ∷ []) k) (let x : n ≡ length (w.log j ++ e ∷ []) = omega (arith, lt, le, len) in x) ∙ top

    inside : (n : ℕ) → n ≤ length (w.log j) → logs.term_at (w.log j) n ≡ logs.term_at (w.leader_log (logs.last_term (w.log j))) n
    inside n le = agree_term (w.log j) (w.leader_log (logs.last_term (w.log j))) (length (w.log j)) n le (s.part j)

    below : (n : ℕ) → n ≤ length (w.log j ++ e ∷ []) → logs.term_at (w.log j ++ e ∷ []) n ≤ pasts.term w j
    below n le = elim (le_or_lt n (length (w.log j))) [
      | inl x ↦ let a = front n x in let b = inside n x in let c = s.low (logs.last_term (w.log j)) n (omega (arith, x, (s.part j).right)) in let f = s.past j in omega (arith, a, b, c, f)
      | inr x ↦ let a = end n x le in omega (arith, a)
    ]

    climbs : (n m : ℕ) → n ≤ m → m ≤ length (w.log j ++ e ∷ []) → logs.term_at (w.log j ++ e ∷ []) n ≤ logs.term_at (w.log j ++ e ∷ []) m
    climbs n m le bound = elim (le_or_lt m (length (w.log j))) [
      | inl x ↦ let a = front n (omega (arith, le, x)) in let b = front m x in let c = inside n (omega (arith, le, x)) in let f = inside m x in let r = s.rises (logs.last_term (w.log j)) n m le (omega (arith, x, (s.part j).right)) in omega (arith, a, b, c, f, r)
      | inr x ↦ let a = end m x bound in let b = below n (omega (arith, le, bound)) in omega (arith, a, b)
    ]

    dated : (n : ℕ) → n ≤ length (w.log j) → matchings.time_at (w.log j ++ e ∷ []) n ≡ matchings.time_at (w.log j) n
    dated n le = sym (agree_time (w.log j) (w.log j ++ e ∷ []) (length (w.log j)) n le (longer (w.log j) e))

    aged : (n m : ℕ) → n ≤ m → m ≤ length (w.log j) → matchings.time_at (w.log j) n ≤ matchings.time_at (w.log j) m
    aged n m le x =
        let a = agree_time (w.log j) (w.leader_log (logs.last_term (w.log j))) (length (w.log j)) n (omega (arith, le, x)) (s.part j) in
        let b = agree_time (w.log j) (w.leader_log (logs.last_term (w.log j))) (length (w.log j)) m x (s.part j) in
        let r = s.ages (logs.last_term (w.log j)) n m le (omega (arith, x, (s.part j).right)) in
        omega (arith, a, b, r)

    final : (n : ℕ) → length (w.log j) < n → n ≤ length (w.log j ++ e ∷ []) → matchings.time_at (w.log j ++ e ∷ []) n ≡ e.time
    final n lt le = ap (λ k. matchings.time_at (w.log j ++ e ∷ []) k) (let x : n ≡ suc (length (w.log j)) = omega (arith, lt, le, len) in x) ∙ time_of_longer (w.log j) e

    older : (n m : ℕ) → n ≤ m → m ≤ length (w.log j ++ e ∷ []) → matchings.time_at (w.log j ++ e ∷ []) n ≤ matchings.time_at (w.log j ++ e ∷ []) m
    older n m le bound = elim (le_or_lt m (length (w.log j))) [
      | inl x ↦ let a = dated n (omega (arith, le, x)) in let b = dated m x in let r = aged n m le x in omega (arith, a, b, r)
      | inr x ↦ let b = final m x bound in elim (le_or_lt n (length (w.log j))) [
        | inl y ↦ let a = dated n y in let r = aged n (length (w.log j)) y (omega arith) in let l = d.late in omega (arith, a, b, r, l)
        | inr y ↦ let a = final n y (omega (arith, le, bound)) in omega (arith, a, b)
      ]
    ]

    mine : (n : ℕ) → n ≤ length (w.log j ++ e ∷ []) → matchings.Agree (w.log j ++ e ∷ []) (polls.put w.leader_log (pasts.term w j) (w.log j ++ e ∷ []) (logs.term_at (w.log j ++ e ∷ []) n)) n
    mine n le = elim (le_or_lt n (length (w.log j))) [
      | inl x ↦
          let a = agree_back (w.log j) (w.log j ++ e ∷ []) n (agree_less (w.log j) (w.log j ++ e ∷ []) (length (w.log j)) n x (longer (w.log j) e)) in
          let b = agree_less (w.log j) (w.leader_log (logs.last_term (w.log j))) (length (w.log j)) n x (s.part j) in
          let c = s.joins (logs.last_term (w.log j)) n b.right in
          let f = agree_on (w.log j ++ e ∷ []) (w.leader_log (logs.last_term (w.log j))) (w.leader_log (logs.term_at (w.leader_log (logs.last_term (w.log j))) n)) n (agree_on (w.log j ++ e ∷ []) (w.log j) (w.leader_log (logs.last_term (w.log j))) n a b) c in
          agree_grows w.leader_log (polls.put w.leader_log (pasts.term w j) (w.log j ++ e ∷ [])) (w.log j ++ e ∷ []) (logs.term_at (w.log j ++ e ∷ []) n) n up (subst (λ u. matchings.Agree (w.log j ++ e ∷ []) (w.leader_log u) n) (sym (front n x ∙ inside n x)) f)
      | inr x ↦ subst (λ u. matchings.Agree (w.log j ++ e ∷ []) (polls.put w.leader_log (pasts.term w j) (w.log j ++ e ∷ []) u) n) (sym (end n x le)) (itself n le)
    ]

    -- acknowledgements that matter to a later term are old
    old : (u v r m : ℕ) → w.poll.cast u v ≢ 0 → r < u → m ≤ polls.put2 w.acked (pasts.term w j) j (length (w.log j ++ e ∷ [])) r v → m ≤ w.acked r v
    old u v r m some lt = putting2 (λ r i y. r < u → w.poll.cast u i ≢ 0 → m ≤ y → m ≤ w.acked r i) w.acked (pasts.term w j) j (length (w.log j ++ e ∷ [])) (λ l c h. elim (s.fair.stays u j c) [ inl x ↦ absurd (omega (arith, l, x)) | inr x ↦ absurd (omega (arith, l, x.0)) ]) (λ r i o l c h. h) r v lt some

    grown : (r m u v : ℕ) → matchings.Agree (w.voter_log u v) (w.leader_log r) m ⊎ ((z : ℕ) × (r < z) × (z < u) × matchings.Clash w.leader_log r z m) → matchings.Agree (w.voter_log u v) (polls.put w.leader_log (pasts.term w j) (w.log j ++ e ∷ []) r) m ⊎ ((z : ℕ) × (r < z) × (z < u) × matchings.Clash (polls.put w.leader_log (pasts.term w j) (w.log j ++ e ∷ [])) r z m)
    grown r m u v (inl a) = inl (agree_grows w.leader_log (polls.put w.leader_log (pasts.term w j) (w.log j ++ e ∷ [])) (w.voter_log u v) r m up a)
    grown r m u v (inr c) = inr (c.0, c.1, c.2, clash_grows w.leader_log (polls.put w.leader_log (pasts.term w j) (w.log j ++ e ∷ [])) r c.0 m up c.3)

    kept : (u m : ℕ) → 1 ≤ m → m ≤ polls.put2 w.acked (pasts.term w j) j (length (w.log j ++ e ∷ [])) u j → matchings.IsHeld (polls.put w.leader_log (pasts.term w j) (w.log j ++ e ∷ [])) (w.log j ++ e ∷ []) u m (p.member j).term
    kept u m a b = elim (same_or u (pasts.term w j)) [
      | inl x ↦ inl (subst (λ y. matchings.Agree (w.log j ++ e ∷ []) (polls.put w.leader_log (pasts.term w j) (w.log j ++ e ∷ []) y) m) (sym x) (itself m (subst (λ n. m ≤ n) (put2_same w.acked (pasts.term w j) j (length (w.log j ++ e ∷ []))) (subst (λ y. m ≤ polls.put2 w.acked (pasts.term w j) j (length (w.log j ++ e ∷ [])) y j) x b))))
      | inr n ↦ held_grows w.leader_log (polls.put w.leader_log (pasts.term w j) (w.log j ++ e ∷ [])) (w.log j ++ e ∷ []) u m (pasts.term w j) (p.member j).term up (let y = d.terms j in omega (arith, y)) (add_keeps w.leader_log (w.log j) (e ∷ []) u m (pasts.term w j) (s.now j u m a (subst (λ k. m ≤ k) (put2_other w.acked (pasts.term w j) j (length (w.log j ++ e ∷ [])) u j (inl n)) b)))
    ]

    onto : (h : List Entry) (c x : ℕ) → matchings.Agree h (w.log j ++ e ∷ []) (length h) → pasts.IsCommittedIn nodes w.leader_log w.acked h c x → pasts.IsCommittedIn nodes w.leader_log w.acked (w.log j ++ e ∷ []) c x
    onto h c x a (inl z) = inl z
    onto h c x a (inr r) = inr (record { term = r.term; place = r.place; upto = r.upto; within = r.within; quorum = r.quorum; agrees = agree_on (w.log j ++ e ∷ []) h (w.leader_log r.term) c (agree_back h (w.log j ++ e ∷ []) c (agree_less h (w.log j ++ e ∷ []) (length h) c r.agrees.left a)) r.agrees })

    again : (x : ℕ) → pasts.IsCommittedIn nodes (polls.put w.leader_log (pasts.term w j) (w.log j ++ e ∷ [])) (polls.put2 w.acked (pasts.term w j) j (length (w.log j ++ e ∷ []))) w.committed (length w.committed) x → (length w.committed ≡ 0) ⊎ ((y : ℕ) × pasts.Reason nodes (polls.put w.leader_log (pasts.term w j) (w.log j ++ e ∷ [])) (polls.put2 w.acked (pasts.term w j) j (length (w.log j ++ e ∷ []))) w.committed (length w.committed) y)
    again x (inl z) = inl z
    again x (inr r) = inr (x, r)

-- a leader takes an entry of its term
pub take_sound : (nodes : List ℕ) (w : pasts.Past) (j : ℕ) (e : Entry) → pasts.role w j ≡ 2 → e.term ≡ pasts.term w j → logs.last_time (w.log j) ≤ e.time → pasts.Sound nodes w → pasts.Sound nodes (record w { log = polls.put w.log j (w.log j ++ e ∷ []); leader_log = polls.put w.leader_log (pasts.term w j) (w.log j ++ e ∷ []); acked = polls.put2 w.acked (pasts.term w j) j (length (w.log j ++ e ∷ [])) })
take_sound nodes w j e leads own late s =
    let r = s.fair.rules j leads in
    let h = s.holds j leads in
    add_sound nodes w j e w.poll (record {
      fair = s.fair;
      own = own;
      late = late;
      cast = λ u v. refl;
      terms = λ k. refl;
      here = (r.0, r.1, leads);
      led = λ u n. refl;
      leader = λ u n. refl;
      voters = λ u v n. refl;
      roles = λ k n. refl;
      apart = λ k n two same. n (sym (s.fair.rules k two).1 ∙ ap w.poll.leader same ∙ r.1);
      grows = subst (λ l. matchings.Agree l (w.log j ++ e ∷ []) (length l)) (sym h) (longer (w.log j) e);
      before = λ v q m g lt a b. s.before (pasts.term w j) v q m r.0 g lt a b;
      begins =
          let x = s.begins (pasts.term w j) r.0 in
          let y = subst (λ k. matchings.Agree (w.candidate_log (pasts.term w j) k) (w.leader_log (pasts.term w j)) (length (w.candidate_log (pasts.term w j) k))) r.1 x in
          let z = subst (λ l. matchings.Agree (w.candidate_log (pasts.term w j) j) l (length (w.candidate_log (pasts.term w j) j))) h y in
          agree_on (w.candidate_log (pasts.term w j) j) (w.log j) (w.log j ++ e ∷ []) (length (w.candidate_log (pasts.term w j) j)) z (agree_less (w.log j) (w.log j ++ e ∷ []) (length (w.log j)) (length (w.candidate_log (pasts.term w j) j)) z.right (longer (w.log j) e));
    }) s

-- a candidate with a majority leads, with its first entry
pub lead_sound : (nodes : List ℕ) (w : pasts.Past) (j : ℕ) (e : Entry) → pasts.role w j ≡ 1 → e.term ≡ pasts.term w j → matchings.IsMost (w.poll.member j).votes nodes → logs.last_time (w.log j) ≤ e.time → pasts.Sound nodes w → pasts.Sound nodes (record w { poll = polls.wins w.poll j; log = polls.put w.log j (w.log j ++ e ∷ []); leader_log = polls.put w.leader_log (pasts.term w j) (w.log j ++ e ∷ []); acked = polls.put2 w.acked (pasts.term w j) j (length (w.log j ++ e ∷ [])) })
lead_sound nodes w j e running own most late s =
    let t = pasts.term w j in
    let m : polls.Voter = record { term = t; vote = (w.poll.member j).vote; role = 2; votes = polls.nobody } in
    let first : w.poll.led t ≡ true → ⊥ = first_to_lead nodes w.poll j running most s.fair in
    let none : w.leader_log t ≡ [] = empty (w.leader_log t) (λ full. first (s.only t full)) in
    add_sound nodes w j e (polls.wins w.poll j) (record {
      fair = wins_keeps nodes w.poll j running most s.fair;
      own = own;
      late = late;
      cast = λ u v. refl;
      terms = putting (λ k n. n.term ≡ pasts.term w k) w.poll.member j m refl (λ k n. refl);
      here = (put_same w.poll.led t true, put_same w.poll.leader t j, ap (λ n. n.role) (put_same w.poll.member j m));
      led = λ u n. put_other w.poll.led t true u n;
      leader = λ u n. put_other w.poll.leader t j u n;
      voters = λ u v n. ap (λ f. f v) (put_other w.poll.voters t (w.poll.member j).votes u n);
      roles = λ k n. ap (λ x. x.role) (put_other w.poll.member j m k n);
      apart = λ k n two same. first (ap w.poll.led (sym same) ∙ (s.fair.rules k two).0);
      grows = subst (λ l. matchings.Agree l (w.log j ++ e ∷ []) (length l)) (sym none) (record { left = omega arith; right = omega arith; same = refl });
      before = λ v r n g lt a b.
          let ballot : w.poll.cast t v ≡ j = s.fair.counted j v running (ap (λ f. f v) (sym (put_same w.poll.voters t (w.poll.member j).votes)) ∙ g) in
          let some : w.poll.cast t v ≢ 0 = λ z. (s.fair.own j (λ y. absurd (omega (arith, running, y)))).1 (sym ballot ∙ z) in
          elect_held w.leader_log (w.voter_log t v) r n t none (s.after t v r n some lt a b);
      begins = subst (λ l. matchings.Agree l (w.log j ++ e ∷ []) (length l)) (sym (s.waits j running)) (longer (w.log j) e);
    }) s
  where
    empty : (l : List Entry) → (1 ≤ length l → ⊥) → l ≡ []
    empty [] h = refl
    empty (x ∷ l) h = absurd (h (omega arith))
