-- The nodes of a cluster, and those but one.
use Rattle.std.proofs.Common.{◌≡◌, ℕ, zero, suc, ◌+◌, ◌<◌, ◌≤◌, List, [], ◌∷◌, length, refl, ap, sym, ◌∙◌, arith}
use Rattle.std.specs.Prelude.{Bool, true, false, not, nat_eq, cond, filter}
use Rattle.ax_types.specs.Places as lists
use Rattle.spec_raft.specs.Majority as majorities
use Rattle.spec_raft.proofs.Counting.{length-cluster_of}
use Rattle.law_agreement.proofs.Tests.{equal, unequal, is_unequal}

abbrev but : ℕ → List ℕ → List ℕ
but j xs = filter (λ k. not (nat_eq k j)) xs

-- no number from a on is below a
none_below : (p : ℕ → Bool) (j a n : ℕ) → j < a → majorities.count p (but j (lists.numbers_from a n)) ≡ majorities.count p (lists.numbers_from a n)
none_below p j a zero lt = refl
none_below p j a (suc n) lt = rw (is_unequal a j (λ e. absurd (omega (arith, e, lt)))) (ap (λ m. cond (p a) 1 0 + m) (none_below p j (suc a) n (omega (arith, lt))))

-- a count is that of the others, and of the one
apart_from : (p : ℕ → Bool) (j a n : ℕ) → a ≤ j → j < a + n → majorities.count p (lists.numbers_from a n) ≡ cond (p j) 1 0 + majorities.count p (but j (lists.numbers_from a n))
apart_from p j a zero le lt = absurd (omega (arith, le, lt))
apart_from p j a (suc n) le lt = go (λ l. apart_from p j (suc a) n l (omega (arith, lt))) (nat_eq a j) refl
  where
    go : (suc a ≤ j → majorities.count p (lists.numbers_from (suc a) n) ≡ cond (p j) 1 0 + majorities.count p (but j (lists.numbers_from (suc a) n))) → (b : Bool) → nat_eq a j ≡ b → cond (p a) 1 0 + majorities.count p (lists.numbers_from (suc a) n) ≡ cond (p j) 1 0 + majorities.count p (cond (not b) (a ∷ but j (lists.numbers_from (suc a) n)) (but j (lists.numbers_from (suc a) n)))
    go next true e =
        let same : a ≡ j = equal a j e in
        ap (λ k. cond (p k) 1 0 + majorities.count p (lists.numbers_from (suc a) n)) same
        ∙ ap (λ m. cond (p j) 1 0 + m) (sym (none_below p j (suc a) n (omega (arith, same))))
    go next false e =
        let more = next (omega (arith, le, unequal a j e)) in
        omega (arith, more)

all_counted : (xs : List ℕ) → majorities.count (λ k. true) xs ≡ length xs
all_counted [] = refl
all_counted (x ∷ xs) = omega (arith, all_counted xs)

-- where the one passes, all count one more than the others
pub one_more : (p : ℕ → Bool) (n j : ℕ) → 1 ≤ j → j ≤ n → p j ≡ true → majorities.count p (majorities.cluster_of n) ≡ suc (majorities.count p (majorities.others n j))
one_more p n j le lt e =
    let a : majorities.count p (majorities.cluster_of n) ≡ cond (p j) 1 0 + majorities.count p (majorities.others n j) = apart_from p j 1 n le (omega (arith, lt)) in
    let one : ℕ = 1 in
    let b : cond (p j) 1 0 ≡ one = ap (λ c. cond c 1 0) e in
    omega (arith, a, b)

pub others_long : (n j : ℕ) → 1 ≤ j → j ≤ n → n ≡ suc (length (majorities.others n j))
others_long n j le lt =
    let a = one_more (λ k. true) n j le lt refl in
    let b = all_counted (majorities.cluster_of n) in
    let c = all_counted (majorities.others n j) in
    let d = length-cluster_of n in
    omega (arith, a, b, c, d)
