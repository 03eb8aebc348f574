-- Logs that agree, the newer log, and completeness of leaders.
use Rattle.std.proofs.Common.{◌≡◌, ℕ, zero, suc, ◌<◌, ◌≤◌, List, [], ◌∷◌, length, take, refl, ap, sym, ◌∙◌, subst, arith, inl, inr}
use Rattle.std.specs.Prelude.{◌⊎◌}
use Rattle.ax_types.specs.declared.entries.Entry.{Entry}
use Rattle.spec_raft.specs.Log as logs
use Rattle.spec_past.specs.Matching as matchings

pub take_less : (p q : ℕ) (g : List Entry) → q ≤ p → take q (take p g) ≡ take q g
take_less p zero g h = refl
take_less zero (suc q) g h = absurd (omega (arith, h))
take_less (suc p) (suc q) [] h = refl
take_less (suc p) (suc q) (e ∷ g) h = ap (λ l. e ∷ l) (take_less p q g (omega (arith, h)))

term_less : (p q : ℕ) (g : List Entry) → q ≤ p → logs.term_at (take p g) q ≡ logs.term_at g q
term_less p zero g h = refl
term_less zero (suc q) g h = absurd (omega (arith, h))
term_less (suc p) (suc q) [] h = refl
term_less (suc p) (suc zero) (e ∷ g) h = refl
term_less (suc p) (suc (suc q)) (e ∷ g) h = term_less p (suc q) g (omega (arith, h))

pub agree_back : (g h : List Entry) (p : ℕ) → matchings.Agree g h p → matchings.Agree h g p
agree_back g h p a = record { left = a.right; right = a.left; same = sym a.same }

pub agree_on : (g h k : List Entry) (p : ℕ) → matchings.Agree g h p → matchings.Agree h k p → matchings.Agree g k p
agree_on g h k p a b = record { left = a.left; right = b.right; same = a.same ∙ b.same }

pub agree_less : (g h : List Entry) (p q : ℕ) → q ≤ p → matchings.Agree g h p → matchings.Agree g h q
agree_less g h p q le a = record {
  left = omega (arith, le, a.left);
  right = omega (arith, le, a.right);
  same = sym (take_less p q g le) ∙ ap (λ l. take q l) a.same ∙ take_less p q h le;
}

pub agree_term : (g h : List Entry) (p q : ℕ) → q ≤ p → matchings.Agree g h p → logs.term_at g q ≡ logs.term_at h q
agree_term g h p q le a = sym (term_less p q g le) ∙ ap (λ l. logs.term_at l q) a.same ∙ term_less p q h le

time_less : (p q : ℕ) (g : List Entry) → q ≤ p → matchings.time_at (take p g) q ≡ matchings.time_at g q
time_less p zero g h = refl
time_less zero (suc q) g h = absurd (omega (arith, h))
time_less (suc p) (suc q) [] h = refl
time_less (suc p) (suc zero) (e ∷ g) h = refl
time_less (suc p) (suc (suc q)) (e ∷ g) h = time_less p (suc q) g (omega (arith, h))

pub agree_time : (g h : List Entry) (p q : ℕ) → q ≤ p → matchings.Agree g h p → matchings.time_at g q ≡ matchings.time_at h q
agree_time g h p q le a = sym (time_less p q g le) ∙ ap (λ l. matchings.time_at l q) a.same ∙ time_less p q h le

pub le_or_lt : (a b : ℕ) → (a ≤ b) ⊎ (b < a)
le_or_lt zero b = inl (omega arith)
le_or_lt (suc a) zero = inr (omega arith)
le_or_lt (suc a) (suc b) = elim (le_or_lt a b) [ inl le ↦ inl (omega (arith, le)) | inr gt ↦ inr (omega (arith, gt)) ]

part_rises : (L : ℕ → List Entry) (g : List Entry) (p q : ℕ) → matchings.TermsRise L → matchings.IsPart L g → p ≤ q → q ≤ length g → logs.term_at g p ≤ logs.term_at g q
part_rises L g p q rises part le end =
    let a = agree_term g (L (logs.last_term g)) (length g) p (omega (arith, le, end)) part in
    let b = agree_term g (L (logs.last_term g)) (length g) q end part in
    let r = rises (logs.last_term g) p q le (omega (arith, end, part.right)) in
    omega (arith, a, b, r)

-- the newer log holds what the older one holds of a committed beginning
same_last : (L : ℕ → List Entry) (g h : List Entry) (t p : ℕ) → matchings.IsPart L g → matchings.IsPart L h → logs.last_term g ≡ logs.last_term h → length g ≤ length h → matchings.Agree g (L t) p → matchings.Agree h (L t) p
same_last L g h t p pg ph e le a =
    let pg' : matchings.Agree g (L (logs.last_term h)) (length g) = subst (λ w. matchings.Agree g (L w) (length g)) e pg in
    let gw = agree_less g (L (logs.last_term h)) (length g) p a.left pg' in
    let hw = agree_less h (L (logs.last_term h)) (length h) p (omega (arith, a.left, le)) ph in
    agree_on h g (L t) p (agree_on h (L (logs.last_term h)) g p hw (agree_back g (L (logs.last_term h)) p gw)) a

later_last : (L : ℕ → List Entry) (h : List Entry) (t p : ℕ) → matchings.TermsRise L → matchings.IsPart L h → logs.term_at (L t) p ≡ t → t < logs.last_term h → matchings.Agree (L (logs.last_term h)) (L t) p → matchings.Agree h (L t) p
later_last L h t p rises ph own lt a = split (le_or_lt p (length h))
  where
    split : (p ≤ length h) ⊎ (length h < p) → matchings.Agree h (L t) p
    split (inl le) = agree_on h (L (logs.last_term h)) (L t) p (agree_less h (L (logs.last_term h)) (length h) p le ph) a
    split (inr gt) =
        let w = agree_term h (L (logs.last_term h)) (length h) (length h) (omega arith) ph in
        let r = rises (logs.last_term h) (length h) p (omega (arith, gt)) a.left in
        let s = agree_term (L (logs.last_term h)) (L t) p p (omega arith) a in
        absurd (omega (arith, w, r, s, own, lt))

pub newer_log : (L : ℕ → List Entry) (g h : List Entry) (t p : ℕ) → matchings.TermsRise L → matchings.IsPart L g → matchings.IsPart L h → matchings.IsUpToDate h g → matchings.Agree g (L t) p → logs.term_at (L t) p ≡ t → (t < logs.last_term h → matchings.Agree (L (logs.last_term h)) (L t) p) → matchings.Agree h (L t) p
newer_log L g h t p rises pg ph (inr same) a own hyp = same_last L g h t p pg ph same.0 same.1 a
newer_log L g h t p rises pg ph (inl lt) a own hyp =
    let m = part_rises L g p (length g) rises pg a.left (omega arith) in
    let s = agree_term g (L t) p p (omega arith) a in
    let low : t < logs.last_term h = omega (arith, m, s, own, lt) in
    later_last L h t p rises ph own low (hyp low)

pub no_clash : (L : ℕ → List Entry) (t w p : ℕ) → matchings.Agree (L w) (L t) p → matchings.Clash L t w p → ⊥
no_clash L t w p a c = c.differ (sym (agree_term (L w) (L t) p c.place c.within a))

pub not_empty : (L : ℕ → List Entry) (t w p : ℕ) → matchings.Clash L t w p → 1 ≤ length (L w)
not_empty L t w p c = elim (le_or_lt 1 (length (L w))) [ inl le ↦ le | inr gt ↦ let z : c.place ≡ 0 = omega (arith, gt, c.right) in absurd (c.differ (ap (λ q. logs.term_at (L t) q) z ∙ sym (ap (λ q. logs.term_at (L w) q) z))) ]

-- leader completeness, by induction on a bound of the term
up_to : (L : ℕ → List Entry) (t p : ℕ) → matchings.TermsRise L → logs.term_at (L t) p ≡ t → ((u : ℕ) → t < u → 1 ≤ length (L u) → matchings.Chosen L u t p) → (n u : ℕ) → u < n → t < u → 1 ≤ length (L u) → matchings.Agree (L u) (L t) p
up_to L t p rises own chosen zero u le lt full = absurd (omega (arith, le))
up_to L t p rises own chosen (suc n) u le lt full =
    step (chosen u lt full) (λ w low up some. up_to L t p rises own chosen n w (omega (arith, up, le)) low some)
  where
    part_full : (h : List Entry) → matchings.IsPart L h → t < logs.last_term h → 1 ≤ length (L (logs.last_term h))
    part_full [] ph low = absurd (omega (arith, low))
    part_full (e ∷ h) ph low = omega (arith, ph.right)

    finish : (c : matchings.Chosen L u t p) → ((w : ℕ) → t < w → w < u → 1 ≤ length (L w) → matchings.Agree (L w) (L t) p) → matchings.Agree c.ballot (L t) p → matchings.Agree (L u) (L t) p
    finish c next a =
        let k = newer_log L c.ballot c.candidate_log t p rises c.ballot_part c.cand_part c.newer a own (λ low. next (logs.last_term c.candidate_log) low c.below (part_full c.candidate_log c.cand_part low)) in
        agree_on (L u) c.candidate_log (L t) p (agree_back c.candidate_log (L u) p (agree_less c.candidate_log (L u) (length c.candidate_log) p k.left c.begins)) k

    held_or : (c : matchings.Chosen L u t p) → ((w : ℕ) → t < w → w < u → 1 ≤ length (L w) → matchings.Agree (L w) (L t) p) → matchings.Agree c.ballot (L t) p ⊎ ((w : ℕ) × (t < w) × (w < u) × matchings.Clash L t w p) → matchings.Agree c.ballot (L t) p
    held_or c next (inl a) = a
    held_or c next (inr x) = absurd (no_clash L t x.0 p (next x.0 x.1 x.2 (not_empty L t x.0 p x.3)) x.3)

    step : (c : matchings.Chosen L u t p) → ((w : ℕ) → t < w → w < u → 1 ≤ length (L w) → matchings.Agree (L w) (L t) p) → matchings.Agree (L u) (L t) p
    step c next = finish c next (held_or c next c.held)

pub completeness : (L : ℕ → List Entry) (t p : ℕ) → matchings.TermsRise L → logs.term_at (L t) p ≡ t → ((u : ℕ) → t < u → 1 ≤ length (L u) → matchings.Chosen L u t p) → (u : ℕ) → t < u → 1 ≤ length (L u) → matchings.Agree (L u) (L t) p
completeness L t p rises own chosen u lt full = up_to L t p rises own chosen (suc u) u (omega arith) lt full
