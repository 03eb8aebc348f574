-- What an acknowledged beginning is worth after a cut, after an addition and at an election.
use Rattle.std.proofs.Common.{◌≡◌, ℕ, suc, ◌<◌, ◌≤◌, List, [], ◌++◌, length, take, ap, sym, ◌∙◌, arith, inl, inr, length-append}
use Rattle.std.specs.Prelude.{◌⊎◌, ◌≢◌}
use Rattle.std.proofs.lemmas.List.{length-take-le}
use Rattle.std.proofs.lemmas.List.{take-append-le}
use Rattle.ax_types.specs.declared.entries.Entry.{Entry}
use Rattle.spec_raft.specs.Log as logs
use Rattle.spec_past.specs.Matching as matchings
use Rattle.law_past.proofs.Logs.{take_less, agree_term, le_or_lt}

-- a cut after k entries, where the terms at place k + 1 differ from those of the history log of t
pub cut_keeps : (L : ℕ → List Entry) (g : List Entry) (s m x t k : ℕ) → s ≤ t → x ≤ t → suc k ≤ length g → suc k ≤ length (L t) → logs.term_at g (suc k) ≢ logs.term_at (L t) (suc k) → matchings.IsHeld L g s m x → matchings.IsHeld L (take k g) s m t
cut_keeps L g s m x t k st xt kg kt differ (inr c) = inr (c.0, c.1, omega (arith, c.2, xt), c.3)
cut_keeps L g s m x t k st xt kg kt differ (inl a) = elim (le_or_lt m k) [ inl le ↦ inl (short le) | inr gt ↦ long gt (le_or_lt t s) ]
  where
    short : m ≤ k → matchings.Agree (take k g) (L s) m
    short le = record { left = omega (arith, le, length-take-le k g (omega (arith, kg))); right = a.right; same = take_less k m g le ∙ a.same }

    here : k < m → logs.term_at g (suc k) ≡ logs.term_at (L s) (suc k)
    here gt = agree_term g (L s) m (suc k) (omega (arith, gt)) a

    long : k < m → (t ≤ s) ⊎ (s < t) → matchings.IsHeld L (take k g) s m t
    long gt (inl ts) = let e : s ≡ t = omega (arith, st, ts) in absurd (differ (here gt ∙ ap (λ w. logs.term_at (L w) (suc k)) e))
    long gt (inr lt) = inr (t, lt, omega arith, record { place = suc k; within = omega (arith, gt); left = omega (arith, gt, a.right); right = kt; differ = λ e. differ (here gt ∙ e) })

-- entries that are added
pub add_keeps : (L : ℕ → List Entry) (g es : List Entry) (s m x : ℕ) → matchings.IsHeld L g s m x → matchings.IsHeld L (g ++ es) s m x
add_keeps L g es s m x (inr c) = inr c
add_keeps L g es s m x (inl a) = inl (record { left = omega (arith, a.left, length-append g es); right = a.right; same = take-append-le m g es a.left ∙ a.same })

-- at the election of t no history log of t stands yet, so the clash is with an earlier one
pub elect_held : (L : ℕ → List Entry) (g : List Entry) (s m t : ℕ) → L t ≡ [] → matchings.IsHeld L g s m t → matchings.Agree g (L s) m ⊎ ((w : ℕ) × (s < w) × (w < t) × matchings.Clash L s w m)
elect_held L g s m t none (inl a) = inl a
elect_held L g s m t none (inr c) = inr (c.0, c.1, less (le_or_lt t c.0), c.3)
  where
    less : (t ≤ c.0) ⊎ (c.0 < t) → c.0 < t
    less (inr lt) = lt
    less (inl le) =
        let e : c.0 ≡ t = omega (arith, le, c.2) in
        let z : length (L c.0) ≡ 0 = ap (λ w. length (L w)) e ∙ ap (λ l. length l) none in
        let p : c.3.place ≡ 0 = omega (arith, z, c.3.right) in
        absurd (c.3.differ (ap (λ q. logs.term_at (L s) q) p ∙ sym (ap (λ q. logs.term_at (L c.0) q) p)))
