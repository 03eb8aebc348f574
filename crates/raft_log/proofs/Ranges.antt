-- Parts of a log, and what is sent for a part of it.
use Rattle.std.proofs.Common.{◌≡◌, ℕ, zero, suc, ◌+◌, ◌-◌, ◌≤◌, min, List, [], ◌∷◌, length, take, drop, None, refl, arith, sym, ap, ◌∙◌}
use Rattle.std.proofs.lemmas.List.{take_min, drop_min, take_rest}
use Rattle.ax_types.specs.declared.entries.Entry.{Entry}
use Rattle.spec_raft.specs.Log as logs

ended : (p : ℕ) (log : List Entry) → logs.conflict_after p log [] ≡ None
ended p [] = refl
ended p (x ∷ log) = refl

-- where one of the lists has ended there is no conflict
pub no_conflict : (p n : ℕ) (log sent : List Entry) → min (length log) (length sent) ≤ n → logs.conflict_after p (drop n log) (drop n sent) ≡ None
no_conflict p zero [] sent h = refl
no_conflict p zero (x ∷ log) [] h = refl
no_conflict p zero (x ∷ log) (e ∷ sent) h = absurd (omega (arith, h))
no_conflict p (suc n) [] sent h = refl
no_conflict p (suc n) (x ∷ log) [] h = ended p (drop n log)
no_conflict p (suc n) (x ∷ log) (e ∷ sent) h = no_conflict p n log sent (omega (arith, h))

-- as many entries as there are, of those that an append packet takes
pub run_within : (log own : List Entry) (p s m : ℕ) → own ≡ log → s ≡ min (p - 1) (length log) → m ≡ min 16 (length (take (length own - s) (drop s own))) → take m (take (length own - s) (drop s own)) ≡ logs.run_from log p
run_within log own p s m same e f =
    ap (λ n. take n (take (length own - s) (drop s own))) f
    ∙ take_min 16 (take (length own - s) (drop s own))
    ∙ ap (λ l. take 16 l) (take_rest own s)
    ∙ ap (λ l. take 16 (drop s l)) same
    ∙ ap (λ n. take 16 (drop n log)) e
    ∙ ap (λ l. take 16 l) (drop_min (p - 1) log)

-- the loop over pairs ends where one of the lists does
pub no_more : (p i m n : ℕ) (log own sent : List Entry) → own ≡ log → m ≡ min (length (take (length own - n) (drop n own))) (length sent) → m ≤ i
    → logs.conflict_after p (take (length own - n) (drop n own)) sent ≡ logs.conflict_after (p + i) (drop i (take (length own - n) (drop n own))) (drop i sent)
    → None ≡ logs.conflict_after p (drop n log) sent
no_more p i m n log own sent same e h step =
    sym (no_conflict (p + i) i (take (length own - n) (drop n own)) sent (omega (arith, e, h)))
    ∙ sym step
    ∙ ap (λ l. logs.conflict_after p l sent) (take_rest own n ∙ ap (λ l. drop n l) same)
