-- Candidacies and votes keep what is sound.
use Rattle.std.proofs.Common.{◌≡◌, ℕ, suc, ◌<◌, ◌≤◌, List, length, refl, ap, sym, ◌∙◌, subst, arith, inl, inr}
use Rattle.std.specs.Prelude.{◌⊎◌, ◌≢◌, true}
use Rattle.ax_types.specs.declared.entries.Entry.{Entry}
use Rattle.spec_raft.specs.Log as logs
use Rattle.spec_past.specs.Matching as matchings
use Rattle.spec_past.specs.Polls as polls
use Rattle.spec_past.specs.Past as pasts
use Rattle.law_past.proofs.Growth.{held_grows, done_grows}
use Rattle.law_past.proofs.Polls.{putting, put2_same, put2_other, put2_keeps, same_or, unreached, unvoted, campaigns_keeps, grants_keeps}
use Rattle.law_past.proofs.Nodes.{still, no_less}

-- what holds of each ballot, with one more
each : (nodes : List ℕ) (w : pasts.Past) (t j c : ℕ) (g : List Entry) (candidate_log : ℕ → ℕ → List Entry) → pasts.Sound nodes w → w.poll.cast t j ≡ 0 → ((u k : ℕ) → (u ≢ t) ⊎ (k ≢ j) → candidate_log u k ≡ w.candidate_log u k) → (P : ℕ → ℕ → ℕ → List Entry → List Entry → Type 0) → P t j c (candidate_log t c) g → ((u v : ℕ) → w.poll.cast u v ≢ 0 → P u v (w.poll.cast u v) (w.candidate_log u (w.poll.cast u v)) (w.voter_log u v)) → (u v : ℕ) → polls.put2 w.poll.cast t j c u v ≢ 0 → P u v (polls.put2 w.poll.cast t j c u v) (candidate_log u (polls.put2 w.poll.cast t j c u v)) (polls.put2 w.voter_log t j g u v)
each nodes w t j c g candidate_log s none keep P here there u v = go (same_or u t) (same_or v j)
  where
    off : (u ≢ t) ⊎ (v ≢ j) → polls.put2 w.poll.cast t j c u v ≢ 0 → P u v (polls.put2 w.poll.cast t j c u v) (candidate_log u (polls.put2 w.poll.cast t j c u v)) (polls.put2 w.voter_log t j g u v)
    off o some =
        let e = put2_other w.poll.cast t j c u v o in
        let d = put2_other w.voter_log t j g u v o in
        let old : w.poll.cast u v ≢ 0 = λ z. some (e ∙ z) in
        let free : (u ≢ t) ⊎ (w.poll.cast u v ≢ j) = elim (same_or u t) [
          | inr n ↦ inl n
          | inl a ↦ inr (λ z. old (sym (s.runs u v old) ∙ ap (λ r. w.poll.cast r (w.poll.cast u v)) a ∙ ap (λ x. w.poll.cast t x) z ∙ none))
        ] in
        let f = keep u (w.poll.cast u v) free in
        let base = there u v old in
        subst (λ x. P u v x (candidate_log u x) (polls.put2 w.voter_log t j g u v)) (sym e) (subst (λ l. P u v (w.poll.cast u v) (candidate_log u (w.poll.cast u v)) l) (sym d) (subst (λ l. P u v (w.poll.cast u v) l (w.voter_log u v)) (sym f) base))

    on : polls.put2 w.poll.cast t j c t j ≢ 0 → P t j (polls.put2 w.poll.cast t j c t j) (candidate_log t (polls.put2 w.poll.cast t j c t j)) (polls.put2 w.voter_log t j g t j)
    on some = subst (λ x. P t j x (candidate_log t x) (polls.put2 w.voter_log t j g t j)) (sym (put2_same w.poll.cast t j c)) (subst (λ l. P t j c (candidate_log t c) l) (sym (put2_same w.voter_log t j g)) here)

    go : (u ≡ t) ⊎ (u ≢ t) → (v ≡ j) ⊎ (v ≢ j) → polls.put2 w.poll.cast t j c u v ≢ 0 → P u v (polls.put2 w.poll.cast t j c u v) (candidate_log u (polls.put2 w.poll.cast t j c u v)) (polls.put2 w.voter_log t j g u v)
    go (inr n) _ = off (inl n)
    go _ (inr n) = off (inr n)
    go (inl a) (inl b) = subst (λ r. polls.put2 w.poll.cast t j c r v ≢ 0 → P r v (polls.put2 w.poll.cast t j c r v) (candidate_log r (polls.put2 w.poll.cast t j c r v)) (polls.put2 w.voter_log t j g r v)) (sym a) (subst (λ x. polls.put2 w.poll.cast t j c t x ≢ 0 → P t x (polls.put2 w.poll.cast t j c t x) (candidate_log t (polls.put2 w.poll.cast t j c t x)) (polls.put2 w.voter_log t j g t x)) (sym b) on)

seen_before : (nodes : List ℕ) (w : pasts.Past) (t j : ℕ) (g : List Entry) → pasts.Sound nodes w → w.poll.cast t j ≡ 0 → (u v : ℕ) → w.poll.led u ≡ true → w.poll.voters u v ≡ true → polls.put2 w.voter_log t j g u v ≡ w.voter_log u v
seen_before nodes w t j g s none u v led chosen = put2_other w.voter_log t j g u v (elim (same_or u t) [
  | inr n ↦ inl n
  | inl a ↦ inr (λ b. s.fair.named u led (sym (s.fair.chose u v led chosen) ∙ ap (λ r. w.poll.cast r v) a ∙ ap (λ x. w.poll.cast t x) b ∙ none))
])

pub campaign_sound : (nodes : List ℕ) (w : pasts.Past) (j : ℕ) → j ≢ 0 → pasts.Sound nodes w → pasts.Sound nodes (record w { poll = polls.campaigns w.poll j; candidate_log = polls.put2 w.candidate_log (suc (pasts.term w j)) j (w.log j); voter_log = polls.put2 w.voter_log (suc (pasts.term w j)) j (w.log j) })
campaign_sound nodes w j some s =
    let t = suc (pasts.term w j) in
    let g = w.log j in
    let m : polls.Voter = record { term = t; vote = j; role = 1; votes = polls.put polls.nobody j true } in
    let none : w.poll.cast t j ≡ 0 = unreached nodes w.poll t j s.fair (omega arith) in
    let keep : (u k : ℕ) → (u ≢ t) ⊎ (k ≢ j) → polls.put2 w.candidate_log t j g u k ≡ w.candidate_log u k = put2_other w.candidate_log t j g in
    let mine : polls.put2 w.candidate_log t j g t j ≡ g = put2_same w.candidate_log t j g in
    let up : (k : ℕ) → pasts.term w k ≤ (polls.put w.poll.member j m k).term = putting (λ k n. pasts.term w k ≤ n.term) w.poll.member j m (omega arith) (λ k ne. omega arith) in
    record {
      fair = campaigns_keeps nodes w.poll j some s.fair;
      filled = s.filled;
      only = s.only;
      joins = s.joins;
      rises = s.rises;
      low = s.low;
      ages = s.ages;
      part = s.part;
      past = λ k. omega (arith, s.past k, up k);
      holds = putting (λ k n. n.role ≡ 2 → w.leader_log n.term ≡ w.log k) w.poll.member j m (λ h. absurd (omega (arith, h))) (λ k ne. s.holds k);
      waits = putting (λ k n. n.role ≡ 1 → polls.put2 w.candidate_log t j g n.term k ≡ w.log k) w.poll.member j m (λ h. mine) (λ k ne h. keep (pasts.term w k) k (inr ne) ∙ s.waits k h);
      runs = each nodes w t j j g (polls.put2 w.candidate_log t j g) s none keep (λ u v x a b. polls.put2 w.poll.cast t j j u x ≡ x) (put2_same w.poll.cast t j j) (λ u v c. put2_keeps w.poll.cast t j j u (w.poll.cast u v) (w.poll.cast u v) (inl none) c (s.runs u v c));
      early = each nodes w t j j g (polls.put2 w.candidate_log t j g) s none keep (λ u v x a b. logs.last_term a < u) (subst (λ l. logs.last_term l < t) (sym mine) (let p = s.past j in omega (arith, p))) s.early;
      cand_part = each nodes w t j j g (polls.put2 w.candidate_log t j g) s none keep (λ u v x a b. matchings.IsPart w.leader_log a) (subst (λ l. matchings.IsPart w.leader_log l) (sym mine) (s.part j)) s.cand_part;
      seen_part = each nodes w t j j g (polls.put2 w.candidate_log t j g) s none keep (λ u v x a b. matchings.IsPart w.leader_log b) (s.part j) s.seen_part;
      newer = each nodes w t j j g (polls.put2 w.candidate_log t j g) s none keep (λ u v x a b. matchings.IsUpToDate a b) (subst (λ l. matchings.IsUpToDate l g) (sym mine) (inr (refl, omega arith))) s.newer;
      after = λ u v r n c lt a b. each nodes w t j j g (polls.put2 w.candidate_log t j g) s none keep (λ u v x d l. (r n : ℕ) → r < u → 1 ≤ n → n ≤ w.acked r v → matchings.IsHeld w.leader_log l r n u) (λ r n lt a b. held_grows w.leader_log w.leader_log g r n (pasts.term w j) t (still w.leader_log) (omega arith) (s.now j r n a b)) (λ u v c r n. s.after u v r n c) u v c r n lt a b;
      before = λ u v r n led h lt a b. subst (λ l. matchings.Agree l (w.leader_log r) n ⊎ ((x : ℕ) × (r < x) × (x < u) × matchings.Clash w.leader_log r x n)) (sym (seen_before nodes w t j g s none u v led h)) (s.before u v r n led h lt a b);
      begins = λ u led. subst (λ l. matchings.Agree l (w.leader_log u) (length l)) (sym (keep u (w.poll.leader u) (elim (same_or u t) [ inr n ↦ inl n | inl a ↦ inr (λ z. let l : u ≤ pasts.term w j = subst (λ k. u ≤ pasts.term w k) z (s.fair.leads u led) in absurd (omega (arith, l, a))) ]))) (s.begins u led);
      bound = s.bound;
      reached = λ u k h. let r = s.reached u k h in omega (arith, r, up k);
      now = λ k u n a b. held_grows w.leader_log w.leader_log (w.log k) u n (pasts.term w k) (polls.put w.poll.member j m k).term (still w.leader_log) (up k) (s.now k u n a b);
      known = λ k. done_grows nodes w.leader_log w.leader_log w.acked w.acked (w.log k) (w.commit k) (pasts.term w k) (polls.put w.poll.member j m k).term (still w.leader_log) (no_less w.acked) (up k) (s.known k);
      spread = s.spread;
      ahead = s.ahead;
      behind = s.behind;
      last = s.last;
    }

-- a vote for c, whose candidacy in this term is known, by a node that has not voted in it
pub grant_sound : (nodes : List ℕ) (w : pasts.Past) (j c : ℕ) → c ≢ 0 → c ≢ j → (w.poll.member j).vote ≡ 0 → w.poll.cast (pasts.term w j) c ≡ c → matchings.IsUpToDate (w.candidate_log (pasts.term w j) c) (w.log j) → pasts.Sound nodes w → pasts.Sound nodes (record w { poll = polls.grants w.poll j c; voter_log = polls.put2 w.voter_log (pasts.term w j) j (w.log j) })
grant_sound nodes w j c some away free stands newer s =
    let t = pasts.term w j in
    let g = w.log j in
    let m : polls.Voter = record { term = t; vote = c; role = pasts.role w j; votes = (w.poll.member j).votes } in
    let none : w.poll.cast t j ≡ 0 = unvoted nodes w.poll j s.fair free in
    let keep : (u k : ℕ) → (u ≢ t) ⊎ (k ≢ j) → w.candidate_log u k ≡ w.candidate_log u k = λ u k o. refl in
    let up : (k : ℕ) → pasts.term w k ≤ (polls.put w.poll.member j m k).term = putting (λ k n. pasts.term w k ≤ n.term) w.poll.member j m (omega arith) (λ k ne. omega arith) in
    record {
      fair = grants_keeps nodes w.poll j c some away (inl free) s.fair;
      filled = s.filled;
      only = s.only;
      joins = s.joins;
      rises = s.rises;
      low = s.low;
      ages = s.ages;
      part = s.part;
      past = λ k. omega (arith, s.past k, up k);
      holds = putting (λ k n. n.role ≡ 2 → w.leader_log n.term ≡ w.log k) w.poll.member j m (s.holds j) (λ k ne. s.holds k);
      waits = putting (λ k n. n.role ≡ 1 → w.candidate_log n.term k ≡ w.log k) w.poll.member j m (s.waits j) (λ k ne. s.waits k);
      runs = each nodes w t j c g w.candidate_log s none keep (λ u v x a b. polls.put2 w.poll.cast t j c u x ≡ x) (put2_other w.poll.cast t j c t c (inr away) ∙ stands) (λ u v d. put2_keeps w.poll.cast t j c u (w.poll.cast u v) (w.poll.cast u v) (inl none) d (s.runs u v d));
      early = each nodes w t j c g w.candidate_log s none keep (λ u v x a b. logs.last_term a < u) (subst (λ x. logs.last_term (w.candidate_log t x) < t) stands (s.early t c (λ z. some (sym stands ∙ z)))) s.early;
      cand_part = each nodes w t j c g w.candidate_log s none keep (λ u v x a b. matchings.IsPart w.leader_log a) (subst (λ x. matchings.IsPart w.leader_log (w.candidate_log t x)) stands (s.cand_part t c (λ z. some (sym stands ∙ z)))) s.cand_part;
      seen_part = each nodes w t j c g w.candidate_log s none keep (λ u v x a b. matchings.IsPart w.leader_log b) (s.part j) s.seen_part;
      newer = each nodes w t j c g w.candidate_log s none keep (λ u v x a b. matchings.IsUpToDate a b) newer s.newer;
      after = λ u v r n d lt a b. each nodes w t j c g w.candidate_log s none keep (λ u v x e l. (r n : ℕ) → r < u → 1 ≤ n → n ≤ w.acked r v → matchings.IsHeld w.leader_log l r n u) (λ r n lt a b. s.now j r n a b) (λ u v d r n. s.after u v r n d) u v d r n lt a b;
      before = λ u v r n led h lt a b. subst (λ l. matchings.Agree l (w.leader_log r) n ⊎ ((x : ℕ) × (r < x) × (x < u) × matchings.Clash w.leader_log r x n)) (sym (seen_before nodes w t j g s none u v led h)) (s.before u v r n led h lt a b);
      begins = s.begins;
      bound = s.bound;
      reached = λ u k h. let r = s.reached u k h in omega (arith, r, up k);
      now = λ k u n a b. held_grows w.leader_log w.leader_log (w.log k) u n (pasts.term w k) (polls.put w.poll.member j m k).term (still w.leader_log) (up k) (s.now k u n a b);
      known = λ k. done_grows nodes w.leader_log w.leader_log w.acked w.acked (w.log k) (w.commit k) (pasts.term w k) (polls.put w.poll.member j m k).term (still w.leader_log) (no_less w.acked) (up k) (s.known k);
      spread = s.spread;
      ahead = s.ahead;
      behind = s.behind;
      last = s.last;
    }
