use Rattle.std.proofs.Common.{◌≡◌, ℕ, suc, ◌<◌, ◌≤◌, List, refl, ap, sym, ◌∙◌, subst, arith, inl, inr}
use Rattle.std.specs.Prelude.{◌⊎◌, ◌≢◌, Bool, true, false, nat_eq, if◌then◌else◌}
use Rattle.std.proofs.lemmas.Bool.Decides.{nat_tests}
use Rattle.spec_past.specs.Matching as matchings
use Rattle.spec_past.specs.Polls as polls
use Rattle.law_past.proofs.Majorities.{common}

eq_of : (a b : ℕ) → nat_eq a b ≡ true → a ≡ b
eq_of a b e = grind (arith, nat_tests)

ne_of : (a b : ℕ) → nat_eq a b ≡ false → a ≢ b
ne_of a b e = grind (arith, nat_tests)

-- a property of the new function: at the changed place and at the others
pub putting : {X : Type 0} (P : ℕ → X → Type 0) (f : ℕ → X) (i : ℕ) (x : X) → P i x → ((j : ℕ) → j ≢ i → P j (f j)) → (j : ℕ) → P j (polls.put f i x j)
putting P f i x here there j = go (nat_eq j i) refl
  where
    go : (b : Bool) → nat_eq j i ≡ b → P j (if b then x else f j)
    go true e = subst (λ k. P k x) (sym (eq_of j i e)) here
    go false e = there j (ne_of j i e)

pub put_same : {X : Type 0} (f : ℕ → X) (i : ℕ) (x : X) → polls.put f i x i ≡ x
put_same f i x = putting (λ j y. j ≡ i → y ≡ x) f i x (λ _. refl) (λ j ne e. absurd (ne e)) i refl

pub put_other : {X : Type 0} (f : ℕ → X) (i : ℕ) (x : X) (j : ℕ) → j ≢ i → polls.put f i x j ≡ f j
put_other f i x j ne = putting (λ k y. k ≢ i → y ≡ f k) f i x (λ n. absurd (n refl)) (λ k n m. refl) j ne

pub same_or : (a b : ℕ) → (a ≡ b) ⊎ (a ≢ b)
same_or a b = go (nat_eq a b) refl
  where
    go : (c : Bool) → nat_eq a b ≡ c → (a ≡ b) ⊎ (a ≢ b)
    go true e = inl (eq_of a b e)
    go false e = inr (ne_of a b e)

pub put2_same : {X : Type 0} (f : ℕ → ℕ → X) (t i : ℕ) (x : X) → polls.put2 f t i x t i ≡ x
put2_same f t i x = ap (λ g. g i) (put_same f t (polls.put (f t) i x)) ∙ put_same (f t) i x

-- everywhere else the old value stands
pub put2_other : {X : Type 0} (f : ℕ → ℕ → X) (t i : ℕ) (x : X) (s v : ℕ) → (s ≢ t) ⊎ (v ≢ i) → polls.put2 f t i x s v ≡ f s v
put2_other f t i x s v (inl ne) = ap (λ g. g v) (put_other f t (polls.put (f t) i x) s ne)
put2_other f t i x s v (inr ne) = go (same_or s t)
  where
    go : (s ≡ t) ⊎ (s ≢ t) → polls.put2 f t i x s v ≡ f s v
    go (inr n) = ap (λ g. g v) (put_other f t (polls.put (f t) i x) s n)
    go (inl e) = subst (λ r. polls.put2 f t i x r v ≡ f r v) (sym e) (ap (λ g. g v) (put_same f t (polls.put (f t) i x)) ∙ put_other (f t) i x v ne)

-- where the old value was 0 or x: an equation with a number above 0 stays
pub put2_keeps : (f : ℕ → ℕ → ℕ) (t i x s v y : ℕ) → (f t i ≡ 0) ⊎ (f t i ≡ x) → y ≢ 0 → f s v ≡ y → polls.put2 f t i x s v ≡ y
put2_keeps f t i x s v y old ne e = go (same_or s t) (same_or v i)
  where
    hit : (f t i ≡ 0) ⊎ (f t i ≡ x) → f t i ≡ y → polls.put2 f t i x t i ≡ y
    hit (inl z) h = absurd (ne (sym h ∙ z))
    hit (inr z) h = put2_same f t i x ∙ sym z ∙ h

    go : (s ≡ t) ⊎ (s ≢ t) → (v ≡ i) ⊎ (v ≢ i) → polls.put2 f t i x s v ≡ y
    go (inr n) _ = put2_other f t i x s v (inl n) ∙ e
    go _ (inr n) = put2_other f t i x s v (inr n) ∙ e
    go (inl a) (inl b) =
        let h : f t i ≡ y = ap (λ r. f r i) (sym a) ∙ ap (λ r. f s r) (sym b) ∙ e in
        ap (λ r. polls.put2 f t i x r v) a ∙ ap (λ r. polls.put2 f t i x t r) b ∙ hit old h

-- a node that keeps its term, its vote, and becomes or stays a follower; and one that sees a higher term
pub falls_keeps : (nodes : List ℕ) (w : polls.Poll) (j : ℕ) → polls.Fair nodes w → polls.Fair nodes (polls.falls w j)
falls_keeps nodes w j f =
    let m : polls.Voter = record { term = (w.member j).term; vote = (w.member j).vote; role = 0; votes = polls.nobody } in
    record {
      named = f.named;
      own = putting (λ k n. n.role ≢ 0 → (n.vote ≡ k) × (k ≢ 0)) w.member j m (λ h. absurd (h refl)) (λ k ne. f.own k);
      leads = λ t led. putting (λ k n. k ≡ w.leader t → t ≤ n.term) w.member j m (λ e. subst (λ k. t ≤ (w.member k).term) (sym e) (f.leads t led)) (λ k ne e. subst (λ k. t ≤ (w.member k).term) (sym e) (f.leads t led)) (w.leader t) refl;
      stays = λ t v. putting (λ k n. w.cast t k ≢ 0 → (t < n.term) ⊎ ((t ≡ n.term) × (n.vote ≡ w.cast t k))) w.member j m (f.stays t j) (λ k ne. f.stays t k) v;
      kept = putting (λ k n. n.vote ≢ 0 → w.cast n.term k ≡ n.vote) w.member j m (f.kept j) (λ k ne. f.kept k);
      other = putting (λ k n. n.role ≡ 1 → w.led n.term ≡ true → w.leader n.term ≢ k) w.member j m (λ h. absurd (omega (arith, h))) (λ k ne. f.other k);
      counted = λ k v. putting (λ k n. n.role ≡ 1 → n.votes v ≡ true → w.cast n.term v ≡ k) w.member j m (λ h. absurd (omega (arith, h))) (λ k ne. f.counted k v) k;
      most = f.most;
      chose = f.chose;
      rules = putting (λ k n. n.role ≡ 2 → (w.led n.term ≡ true) × (w.leader n.term ≡ k)) w.member j m (λ h. absurd (omega (arith, h))) (λ k ne. f.rules k);
    }

pub raises_keeps : (nodes : List ℕ) (w : polls.Poll) (j t1 : ℕ) → (w.member j).term < t1 → polls.Fair nodes w → polls.Fair nodes (polls.raises w j t1)
raises_keeps nodes w j t1 up f =
    let m : polls.Voter = record { term = t1; vote = 0; role = 0; votes = polls.nobody } in
    record {
      named = f.named;
      own = putting (λ k n. n.role ≢ 0 → (n.vote ≡ k) × (k ≢ 0)) w.member j m (λ h. absurd (h refl)) (λ k ne. f.own k);
      leads = λ t led. putting (λ k n. k ≡ w.leader t → t ≤ n.term) w.member j m (λ e. let l : t ≤ (w.member j).term = subst (λ k. t ≤ (w.member k).term) (sym e) (f.leads t led) in omega (arith, l, up)) (λ k ne e. subst (λ k. t ≤ (w.member k).term) (sym e) (f.leads t led)) (w.leader t) refl;
      stays = λ t v. putting (λ k n. w.cast t k ≢ 0 → (t < n.term) ⊎ ((t ≡ n.term) × (n.vote ≡ w.cast t k))) w.member j m (λ ne. elim (f.stays t j ne) [ inl l ↦ inl (omega (arith, l, up)) | inr e ↦ inl (omega (arith, e.0, up)) ]) (λ k ne. f.stays t k) v;
      kept = putting (λ k n. n.vote ≢ 0 → w.cast n.term k ≡ n.vote) w.member j m (λ h. absurd (h refl)) (λ k ne. f.kept k);
      other = putting (λ k n. n.role ≡ 1 → w.led n.term ≡ true → w.leader n.term ≢ k) w.member j m (λ h. absurd (omega (arith, h))) (λ k ne. f.other k);
      counted = λ k v. putting (λ k n. n.role ≡ 1 → n.votes v ≡ true → w.cast n.term v ≡ k) w.member j m (λ h. absurd (omega (arith, h))) (λ k ne. f.counted k v) k;
      most = f.most;
      chose = f.chose;
      rules = putting (λ k n. n.role ≡ 2 → (w.led n.term ≡ true) × (w.leader n.term ≡ k)) w.member j m (λ h. absurd (omega (arith, h))) (λ k ne. f.rules k);
    }

off : false ≡ true → ⊥
off e = grind (arith, e)

-- no ballot of a term that the voter has not reached
pub unreached : (nodes : List ℕ) (w : polls.Poll) (t v : ℕ) → polls.Fair nodes w → (w.member v).term < t → w.cast t v ≡ 0
unreached nodes w t v f up = go (same_or (w.cast t v) 0)
  where
    go : (w.cast t v ≡ 0) ⊎ (w.cast t v ≢ 0) → w.cast t v ≡ 0
    go (inl e) = e
    go (inr ne) = elim (f.stays t v ne) [ inl l ↦ absurd (omega (arith, l, up)) | inr e ↦ absurd (omega (arith, e.0, up)) ]

-- no ballot of the present term without a vote
pub unvoted : (nodes : List ℕ) (w : polls.Poll) (v : ℕ) → polls.Fair nodes w → (w.member v).vote ≡ 0 → w.cast (w.member v).term v ≡ 0
unvoted nodes w v f none = go (same_or (w.cast (w.member v).term v) 0)
  where
    go : (w.cast (w.member v).term v ≡ 0) ⊎ (w.cast (w.member v).term v ≢ 0) → w.cast (w.member v).term v ≡ 0
    go (inl e) = e
    go (inr ne) = elim (f.stays (w.member v).term v ne) [ inl l ↦ absurd (omega (arith, l)) | inr e ↦ sym e.1 ∙ none ]

pub campaigns_keeps : (nodes : List ℕ) (w : polls.Poll) (j : ℕ) → j ≢ 0 → polls.Fair nodes w → polls.Fair nodes (polls.campaigns w j)
campaigns_keeps nodes w j some f =
    let t1 = suc (w.member j).term in
    let m : polls.Voter = record { term = t1; vote = j; role = 1; votes = polls.put polls.nobody j true } in
    let new : w.cast t1 j ≡ 0 = unreached nodes w t1 j f (omega arith) in
    let old : (w.cast t1 j ≡ 0) ⊎ (w.cast t1 j ≡ j) = inl new in
    record {
      named = f.named;
      own = putting (λ k n. n.role ≢ 0 → (n.vote ≡ k) × (k ≢ 0)) w.member j m (λ h. (refl, some)) (λ k ne. f.own k);
      leads = λ t led. putting (λ k n. k ≡ w.leader t → t ≤ n.term) w.member j m (λ e. let l : t ≤ (w.member j).term = subst (λ k. t ≤ (w.member k).term) (sym e) (f.leads t led) in omega (arith, l)) (λ k ne e. subst (λ k. t ≤ (w.member k).term) (sym e) (f.leads t led)) (w.leader t) refl;
      stays = λ t v. putting (λ k n. polls.put2 w.cast t1 j j t k ≢ 0 → (t < n.term) ⊎ ((t ≡ n.term) × (n.vote ≡ polls.put2 w.cast t1 j j t k))) w.member j m (mine t) (λ k ne. subst (λ c. c ≢ 0 → (t < (w.member k).term) ⊎ ((t ≡ (w.member k).term) × ((w.member k).vote ≡ c))) (sym (put2_other w.cast t1 j j t k (inr ne))) (f.stays t k)) v;
      kept = putting (λ k n. n.vote ≢ 0 → polls.put2 w.cast t1 j j n.term k ≡ n.vote) w.member j m (λ h. put2_same w.cast t1 j j) (λ k ne h. put2_other w.cast t1 j j (w.member k).term k (inr ne) ∙ f.kept k h);
      other = putting (λ k n. n.role ≡ 1 → w.led n.term ≡ true → w.leader n.term ≢ k) w.member j m (λ h led e. let l : t1 ≤ (w.member j).term = subst (λ k. t1 ≤ (w.member k).term) e (f.leads t1 led) in omega (arith, l)) (λ k ne. f.other k);
      counted = λ k v. putting (λ k n. n.role ≡ 1 → n.votes v ≡ true → polls.put2 w.cast t1 j j n.term v ≡ k) w.member j m (λ h. self v) (λ k ne h g. put2_keeps w.cast t1 j j (w.member k).term v k old (f.own k (λ z. absurd (omega (arith, h, z)))).1 (f.counted k v h g)) k;
      most = f.most;
      chose = λ t v led g. put2_keeps w.cast t1 j j t v (w.leader t) old (f.named t led) (f.chose t v led g);
      rules = putting (λ k n. n.role ≡ 2 → (w.led n.term ≡ true) × (w.leader n.term ≡ k)) w.member j m (λ h. absurd (omega (arith, h))) (λ k ne. f.rules k);
    }
  where
    mine : (t : ℕ) → polls.put2 w.cast (suc (w.member j).term) j j t j ≢ 0 → (t < suc (w.member j).term) ⊎ ((t ≡ suc (w.member j).term) × (j ≡ polls.put2 w.cast (suc (w.member j).term) j j t j))
    mine t h = elim (same_or t (suc (w.member j).term)) [
      | inl e ↦ inr (e, sym (ap (λ r. polls.put2 w.cast (suc (w.member j).term) j j r j) e ∙ put2_same w.cast (suc (w.member j).term) j j))
      | inr ne ↦
          let same = put2_other w.cast (suc (w.member j).term) j j t j (inl ne) in
          elim (f.stays t j (λ z. h (same ∙ z))) [ inl l ↦ inl (omega (arith, l)) | inr e ↦ inl (omega (arith, e.0)) ]
    ]

    self : (v : ℕ) → polls.put polls.nobody j true v ≡ true → polls.put2 w.cast (suc (w.member j).term) j j (suc (w.member j).term) v ≡ j
    self v g = elim (same_or v j) [
      | inl e ↦ ap (λ r. polls.put2 w.cast (suc (w.member j).term) j j (suc (w.member j).term) r) e ∙ put2_same w.cast (suc (w.member j).term) j j
      | inr ne ↦ absurd (off (sym (put_other polls.nobody j true v ne) ∙ g))
    ]

-- a vote for another node, where the vote is none or was this one
pub grants_keeps : (nodes : List ℕ) (w : polls.Poll) (j c : ℕ) → c ≢ 0 → c ≢ j → ((w.member j).vote ≡ 0) ⊎ ((w.member j).vote ≡ c) → polls.Fair nodes w → polls.Fair nodes (polls.grants w j c)
grants_keeps nodes w j c some away free f =
    let t1 = (w.member j).term in
    let m : polls.Voter = record { term = t1; vote = c; role = (w.member j).role; votes = (w.member j).votes } in
    record {
      named = f.named;
      own = putting (λ k n. n.role ≢ 0 → (n.vote ≡ k) × (k ≢ 0)) w.member j m (λ h. absurd (idle h)) (λ k ne. f.own k);
      leads = λ t led. putting (λ k n. k ≡ w.leader t → t ≤ n.term) w.member j m (λ e. subst (λ k. t ≤ (w.member k).term) (sym e) (f.leads t led)) (λ k ne e. subst (λ k. t ≤ (w.member k).term) (sym e) (f.leads t led)) (w.leader t) refl;
      stays = λ t v. putting (λ k n. polls.put2 w.cast t1 j c t k ≢ 0 → (t < n.term) ⊎ ((t ≡ n.term) × (n.vote ≡ polls.put2 w.cast t1 j c t k))) w.member j m (mine t) (λ k ne. subst (λ z. z ≢ 0 → (t < (w.member k).term) ⊎ ((t ≡ (w.member k).term) × ((w.member k).vote ≡ z))) (sym (put2_other w.cast t1 j c t k (inr ne))) (f.stays t k)) v;
      kept = putting (λ k n. n.vote ≢ 0 → polls.put2 w.cast t1 j c n.term k ≡ n.vote) w.member j m (λ h. put2_same w.cast t1 j c) (λ k ne h. put2_other w.cast t1 j c (w.member k).term k (inr ne) ∙ f.kept k h);
      other = putting (λ k n. n.role ≡ 1 → w.led n.term ≡ true → w.leader n.term ≢ k) w.member j m (f.other j) (λ k ne. f.other k);
      counted = λ k v. putting (λ k n. n.role ≡ 1 → n.votes v ≡ true → polls.put2 w.cast t1 j c n.term v ≡ k) w.member j m (λ h. absurd (idle (λ z. absurd (omega (arith, h, z))))) (λ k ne h g. put2_keeps w.cast t1 j c (w.member k).term v k old (f.own k (λ z. absurd (omega (arith, h, z)))).1 (f.counted k v h g)) k;
      most = f.most;
      chose = λ t v led g. put2_keeps w.cast t1 j c t v (w.leader t) old (f.named t led) (f.chose t v led g);
      rules = putting (λ k n. n.role ≡ 2 → (w.led n.term ≡ true) × (w.leader n.term ≡ k)) w.member j m (f.rules j) (λ k ne. f.rules k);
    }
  where
    old : (w.cast (w.member j).term j ≡ 0) ⊎ (w.cast (w.member j).term j ≡ c)
    old = elim free [ inl z ↦ inl (unvoted nodes w j f z) | inr e ↦ inr (f.kept j (λ z. some (sym e ∙ z)) ∙ e) ]

    idle : (w.member j).role ≢ 0 → ⊥
    idle h = let o = f.own j h in elim free [ inl z ↦ o.1 (sym o.0 ∙ z) | inr e ↦ away (sym e ∙ o.0) ]

    mine : (t : ℕ) → polls.put2 w.cast (w.member j).term j c t j ≢ 0 → (t < (w.member j).term) ⊎ ((t ≡ (w.member j).term) × (c ≡ polls.put2 w.cast (w.member j).term j c t j))
    mine t h = elim (same_or t (w.member j).term) [
      | inl e ↦ inr (e, sym (ap (λ r. polls.put2 w.cast (w.member j).term j c r j) e ∙ put2_same w.cast (w.member j).term j c))
      | inr ne ↦
          let same = put2_other w.cast (w.member j).term j c t j (inl ne) in
          elim (f.stays t j (λ z. h (same ∙ z))) [ inl l ↦ inl l | inr e ↦ absurd (ne e.0) ]
    ]

pub counts_keeps : (nodes : List ℕ) (w : polls.Poll) (j v : ℕ) → w.cast (w.member j).term v ≡ j → polls.Fair nodes w → polls.Fair nodes (polls.counts w j v)
counts_keeps nodes w j v ballot f =
    let m : polls.Voter = record { term = (w.member j).term; vote = (w.member j).vote; role = (w.member j).role; votes = polls.put (w.member j).votes v true } in
    record {
      named = f.named;
      own = putting (λ k n. n.role ≢ 0 → (n.vote ≡ k) × (k ≢ 0)) w.member j m (f.own j) (λ k ne. f.own k);
      leads = λ t led. putting (λ k n. k ≡ w.leader t → t ≤ n.term) w.member j m (λ e. subst (λ k. t ≤ (w.member k).term) (sym e) (f.leads t led)) (λ k ne e. subst (λ k. t ≤ (w.member k).term) (sym e) (f.leads t led)) (w.leader t) refl;
      stays = λ t u. putting (λ k n. w.cast t k ≢ 0 → (t < n.term) ⊎ ((t ≡ n.term) × (n.vote ≡ w.cast t k))) w.member j m (f.stays t j) (λ k ne. f.stays t k) u;
      kept = putting (λ k n. n.vote ≢ 0 → w.cast n.term k ≡ n.vote) w.member j m (f.kept j) (λ k ne. f.kept k);
      other = putting (λ k n. n.role ≡ 1 → w.led n.term ≡ true → w.leader n.term ≢ k) w.member j m (f.other j) (λ k ne. f.other k);
      counted = λ k u. putting (λ k n. n.role ≡ 1 → n.votes u ≡ true → w.cast n.term u ≡ k) w.member j m (λ h. putting (λ x b. b ≡ true → w.cast (w.member j).term x ≡ j) (w.member j).votes v true (λ g. ballot) (λ x ne. f.counted j x h) u) (λ k ne. f.counted k u) k;
      most = f.most;
      chose = f.chose;
      rules = putting (λ k n. n.role ≡ 2 → (w.led n.term ≡ true) × (w.leader n.term ≡ k)) w.member j m (f.rules j) (λ k ne. f.rules k);
    }

-- nobody has led the term of a candidate with a majority
pub first_to_lead : (nodes : List ℕ) (w : polls.Poll) (j : ℕ) → (w.member j).role ≡ 1 → matchings.IsMost (w.member j).votes nodes → polls.Fair nodes w → w.led (w.member j).term ≡ true → ⊥
first_to_lead nodes w j running most f led =
    let x = common (w.member j).votes (w.voters (w.member j).term) nodes most (f.most (w.member j).term led) in
    f.other j running led (sym (f.chose (w.member j).term x.0 led x.2) ∙ f.counted j x.0 running x.1)

pub wins_keeps : (nodes : List ℕ) (w : polls.Poll) (j : ℕ) → (w.member j).role ≡ 1 → matchings.IsMost (w.member j).votes nodes → polls.Fair nodes w → polls.Fair nodes (polls.wins w j)
wins_keeps nodes w j running most f =
    let t1 = (w.member j).term in
    let m : polls.Voter = record { term = t1; vote = (w.member j).vote; role = 2; votes = polls.nobody } in
    let up : (k : ℕ) → (polls.put w.member j m k).term ≡ (w.member k).term = putting (λ k n. n.term ≡ (w.member k).term) w.member j m refl (λ k ne. refl) in
    let mine = f.own j (λ z. absurd (omega (arith, running, z))) in
    record {
      named = λ t. putting (λ s l. polls.put w.led t1 true s ≡ true → l ≢ 0) w.leader t1 j (λ h. mine.1) (λ s ne h. f.named s (sym (put_other w.led t1 true s ne) ∙ h)) t;
      own = putting (λ k n. n.role ≢ 0 → (n.vote ≡ k) × (k ≢ 0)) w.member j m (λ h. mine) (λ k ne. f.own k);
      leads = λ t. putting (λ s l. polls.put w.led t1 true s ≡ true → s ≤ (polls.put w.member j m l).term) w.leader t1 j (λ h. omega (arith, up j)) (λ s ne h. let l = f.leads s (sym (put_other w.led t1 true s ne) ∙ h) in omega (arith, l, up (w.leader s))) t;
      stays = λ t v. putting (λ k n. w.cast t k ≢ 0 → (t < n.term) ⊎ ((t ≡ n.term) × (n.vote ≡ w.cast t k))) w.member j m (f.stays t j) (λ k ne. f.stays t k) v;
      kept = putting (λ k n. n.vote ≢ 0 → w.cast n.term k ≡ n.vote) w.member j m (f.kept j) (λ k ne. f.kept k);
      other = putting (λ k n. n.role ≡ 1 → polls.put w.led t1 true n.term ≡ true → polls.put w.leader t1 j n.term ≢ k) w.member j m (λ h. absurd (omega (arith, h))) (λ k ne h g0. putting (λ s l. polls.put w.led t1 true s ≡ true → s ≡ (w.member k).term → l ≢ k) w.leader t1 j (λ g e z. ne (sym z)) (λ s ns g e z. f.other k h (ap w.led (sym e) ∙ sym (put_other w.led t1 true s ns) ∙ g) (ap w.leader (sym e) ∙ z)) (w.member k).term g0 refl);
      counted = λ k v. putting (λ k n. n.role ≡ 1 → n.votes v ≡ true → w.cast n.term v ≡ k) w.member j m (λ h. absurd (omega (arith, h))) (λ k ne. f.counted k v) k;
      most = λ t. putting (λ s g. polls.put w.led t1 true s ≡ true → matchings.IsMost g nodes) w.voters t1 (w.member j).votes (λ h. most) (λ s ne h. f.most s (sym (put_other w.led t1 true s ne) ∙ h)) t;
      chose = λ t v. putting (λ s g. polls.put w.led t1 true s ≡ true → g v ≡ true → w.cast s v ≡ polls.put w.leader t1 j s) w.voters t1 (w.member j).votes (λ h g. f.counted j v running g ∙ sym (put_same w.leader t1 j)) (λ s ne h g. f.chose s v (sym (put_other w.led t1 true s ne) ∙ h) g ∙ sym (put_other w.leader t1 j s ne)) t;
      rules = putting (λ k n. n.role ≡ 2 → (polls.put w.led t1 true n.term ≡ true) × (polls.put w.leader t1 j n.term ≡ k)) w.member j m (λ h. (put_same w.led t1 true, put_same w.leader t1 j)) (λ k ne h. let r = f.rules k h in let away = apart k h in (put_other w.led t1 true (w.member k).term away ∙ r.0, put_other w.leader t1 j (w.member k).term away ∙ r.1));
    }
  where
    apart : (k : ℕ) → (w.member k).role ≡ 2 → (w.member k).term ≢ (w.member j).term
    apart k h e = first_to_lead nodes w j running most f (ap w.led (sym e) ∙ (f.rules k h).0)

pub one_leader : (nodes : List ℕ) (w : polls.Poll) (i j : ℕ) → polls.Fair nodes w → (w.member i).role ≡ 2 → (w.member j).role ≡ 2 → (w.member i).term ≡ (w.member j).term → i ≡ j
one_leader nodes w i j f a b e = sym (f.rules i a).1 ∙ ap w.leader e ∙ (f.rules j b).1
