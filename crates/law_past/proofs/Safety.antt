-- Completeness, safety, who keeps what is committed, the newest log of a majority, and reads.
use Rattle.std.proofs.Common.{◌≡◌, ℕ, ◌<◌, ◌≤◌, List, [], ◌∷◌, length, refl, subst, arith, inl, inr}
use Rattle.std.specs.Prelude.{◌⊎◌, Bool, true, nat_le}
use Rattle.std.proofs.lemmas.Bool.Decides.{nat_tests}
use Rattle.ax_types.specs.declared.entries.Entry.{Entry}
use Rattle.spec_raft.specs.Log as logs
use Rattle.spec_past.specs.Matching as matchings
use Rattle.law_past.proofs.Majorities.{common}
use Rattle.law_past.proofs.Logs.{agree_back, agree_less, agree_term, newer_log, completeness, le_or_lt, no_clash, not_empty}

le_of : (a b : ℕ) → nat_le a b ≡ true → a ≤ b
le_of a b e = grind (arith, nat_tests)

pub complete : (nodes : List ℕ) (L : ℕ → List Entry) (acked : ℕ → ℕ → ℕ) (voters : ℕ → ℕ → Bool) (candidate_log : ℕ → List Entry) (ballot : ℕ → ℕ → List Entry) (t p : ℕ) → matchings.Laws nodes L acked voters candidate_log ballot → matchings.Quorum nodes L acked t p → (u : ℕ) → t < u → 1 ≤ length (L u) → matchings.Agree (L u) (L t) p
complete nodes L acked voters candidate_log ballot t p laws q = completeness L t p laws.rises q.own chosen
  where
    chosen : (u : ℕ) → t < u → 1 ≤ length (L u) → matchings.Chosen L u t p
    chosen u lt full =
        let v = common (λ j. nat_le p (acked t j)) (voters u) nodes q.most (laws.most u full) in
        record {
          candidate_log = candidate_log u;
          ballot = ballot u v.0;
          cand_part = laws.cand_part u full;
          ballot_part = laws.ballot_part u v.0 full v.2;
          newer = laws.newer u v.0 full v.2;
          below = laws.below u full;
          begins = laws.begins u full;
          held = laws.held u v.0 t p full v.2 lt q.place (le_of p (acked t v.0) v.1);
        }

-- what two leaders committed agrees
pub safety : (nodes : List ℕ) (L : ℕ → List Entry) (acked : ℕ → ℕ → ℕ) (voters : ℕ → ℕ → Bool) (candidate_log : ℕ → List Entry) (ballot : ℕ → ℕ → List Entry) (t p u r : ℕ) → matchings.Laws nodes L acked voters candidate_log ballot → matchings.Quorum nodes L acked t p → matchings.Quorum nodes L acked u r → p ≤ r → matchings.Agree (L t) (L u) p
safety nodes L acked voters candidate_log ballot t p u r laws a b le = three (le_or_lt t u) (le_or_lt u t)
  where
    full_u : 1 ≤ length (L u)
    full_u = omega (arith, b.place, b.within)

    full_t : 1 ≤ length (L t)
    full_t = omega (arith, a.place, a.within)

    three : (t ≤ u) ⊎ (u < t) → (u ≤ t) ⊎ (t < u) → matchings.Agree (L t) (L u) p
    three x (inr lt) = agree_back (L u) (L t) p (complete nodes L acked voters candidate_log ballot t p laws a u lt full_u)
    three (inr lt) y = agree_less (L t) (L u) r p le (complete nodes L acked voters candidate_log ballot u r laws b t lt full_t)
    three (inl tu) (inl ut) =
        let e : t ≡ u = omega (arith, tu, ut) in
        subst (λ w. matchings.Agree (L t) (L w) p) e (record { left = a.within; right = a.within; same = refl })

-- who acknowledged a committed place keeps it
pub keeps : (nodes : List ℕ) (L : ℕ → List Entry) (acked : ℕ → ℕ → ℕ) (voters : ℕ → ℕ → Bool) (candidate_log : ℕ → List Entry) (ballot : ℕ → ℕ → List Entry) (t p x : ℕ) (log : List Entry) → matchings.Laws nodes L acked voters candidate_log ballot → matchings.Quorum nodes L acked t p → matchings.IsHeld L log t p x → matchings.Agree log (L t) p
keeps nodes L acked voters candidate_log ballot t p x log laws q (inl a) = a
keeps nodes L acked voters candidate_log ballot t p x log laws q (inr c) =
    absurd (no_clash L t c.0 p (complete nodes L acked voters candidate_log ballot t p laws q c.0 c.1 (not_empty L t c.0 p c.3)) c.3)

-- the newest log of a majority holds what is committed
pub newest : (nodes : List ℕ) (L : ℕ → List Entry) (acked : ℕ → ℕ → ℕ) (voters : ℕ → ℕ → Bool) (candidate_log : ℕ → List Entry) (ballot : ℕ → ℕ → List Entry) (t p : ℕ) (log : ℕ → List Entry) (term : ℕ → ℕ) (some : ℕ → Bool) (best : List Entry) → matchings.Laws nodes L acked voters candidate_log ballot → matchings.Quorum nodes L acked t p → ((j : ℕ) → matchings.IsPart L (log j)) → ((j : ℕ) → p ≤ acked t j → matchings.IsHeld L (log j) t p (term j)) → matchings.IsMost some nodes → matchings.IsPart L best → ((j : ℕ) → some j ≡ true → matchings.IsUpToDate best (log j)) → matchings.Agree best (L t) p
newest nodes L acked voters candidate_log ballot t p log term some best laws q part held most part_best newer =
    let v = common (λ j. nat_le p (acked t j)) some nodes q.most most in
    let a = keeps nodes L acked voters candidate_log ballot t p (term v.0) (log v.0) laws q (held v.0 (le_of p (acked t v.0) v.1)) in
    newer_log L (log v.0) best t p laws.rises (part v.0) part_best (newer v.0 v.2) a q.own (λ lt. complete nodes L acked voters candidate_log ballot t p laws q (logs.last_term best) lt (full best part_best lt))
  where
    full : (h : List Entry) → matchings.IsPart L h → t < logs.last_term h → 1 ≤ length (L (logs.last_term h))
    full [] ph lt = absurd (omega (arith, lt))
    full (e ∷ h) ph lt = omega (arith, ph.right)

-- a read that a leader of t takes: c0 places are committed, s is the term whose leader committed them last.
-- Either its place is enough, or the voters of s are all above t.
pub arrives : (nodes : List ℕ) (L : ℕ → List Entry) (acked : ℕ → ℕ → ℕ) (voters : ℕ → ℕ → Bool) (candidate_log : ℕ → List Entry) (ballot : ℕ → ℕ → List Entry) (t s c0 commit first : ℕ) → matchings.Laws nodes L acked voters candidate_log ballot → matchings.Quorum nodes L acked s c0 → (s ≡ t → c0 ≤ commit) → 1 ≤ length (L t) → logs.term_at (L t) first ≡ t → first ≤ length (L t) → ((c0 ≤ commit) ⊎ (c0 < first)) ⊎ (t < s)
arrives nodes L acked voters candidate_log ballot t s c0 commit first laws q own full at within = three (le_or_lt s t) (le_or_lt t s)
  where
    low : s < t → c0 < first
    low lt =
        let a = complete nodes L acked voters candidate_log ballot s c0 laws q t lt full in
        let e = agree_term (L t) (L s) c0 c0 (omega arith) a in
        elim (le_or_lt first c0) [
          | inl le ↦ let r = laws.rises t first c0 le a.left in absurd (omega (arith, r, at, e, q.own, lt))
          | inr gt ↦ gt
        ]

    three : (s ≤ t) ⊎ (t < s) → (t ≤ s) ⊎ (s < t) → ((c0 ≤ commit) ⊎ (c0 < first)) ⊎ (t < s)
    three (inr gt) y = inr gt
    three x (inr lt) = inl (inr (low lt))
    three (inl st) (inl ts) = inl (inl (own (omega (arith, st, ts))))

-- it is given out where a majority is not above: then its place is enough
pub fresh : (nodes : List ℕ) (above acked : ℕ → Bool) (c0 place : ℕ) → (c0 ≤ place) ⊎ matchings.IsMost above nodes → matchings.IsMost acked nodes → ((j : ℕ) → acked j ≡ true → above j ≡ true → ⊥) → c0 ≤ place
fresh nodes above acked c0 place (inl le) most apart = le
fresh nodes above acked c0 place (inr all) most apart = let v = common above acked nodes all most in absurd (apart v.0 v.2 v.1)
