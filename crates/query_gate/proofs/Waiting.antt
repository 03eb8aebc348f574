-- Where no query is let through, all go on waiting.
use Rattle.std.proofs.Common.{◌≡◌, ℕ, ◌∙◌, refl, ap, arith, Bool, true, false, not, cond, List, [], ◌∷◌, length, filter}

wait_head : {X : Type 0} (x : X) (fs ws xs : List X) → (length fs ≡ 0 → xs ≡ ws) → (b : Bool) → length (cond b (x ∷ fs) fs) ≡ 0 → x ∷ xs ≡ cond (not b) (x ∷ ws) ws
wait_head x fs ws xs more true e = absurd (omega arith)
wait_head {X} x fs ws xs more false e = ap (λ (ys : List X). x ∷ ys) (more e)

pub all-wait : {X : Type 0} (p : X → Bool) (xs : List X) → length (filter p xs) ≡ 0 → xs ≡ filter (λ x. not (p x)) xs
all-wait p [] e = refl
all-wait p (x ∷ xs) e = wait_head x (filter p xs) (filter (λ x. not (p x)) xs) xs (all-wait p xs) (p x) e
