-- Counting: two majorities have a member in common.
use Rattle.std.proofs.Common.{◌≡◌, ℕ, zero, suc, ◌+◌, ◌<◌, ◌≤◌, List, [], ◌∷◌, length, refl, arith}
use Rattle.std.specs.Prelude.{Bool, true, false, ◌&&◌, cond, IsTrue}
use Rattle.std.proofs.lemmas.Bool.Decides.{nat_tests}
use Rattle.ax_types.specs.Places as lists
use Rattle.spec_raft.specs.Majority as raft_majorities

one : (a b : Bool) (n m k l : ℕ) → n + m ≤ l + k → (cond a 1 0 + n) + (cond b 1 0 + m) ≤ suc l + (cond (a && b) 1 0 + k)
one true true n m k l h = omega (arith, h)
one true false n m k l h = omega (arith, h)
one false true n m k l h = omega (arith, h)
one false false n m k l h = omega (arith, h)

-- what passes one test and what passes another are together at most all, and what passes both
pub overlap : {X : Type 0} (p q : X → Bool) (xs : List X) → raft_majorities.count p xs + raft_majorities.count q xs ≤ length xs + raft_majorities.count (λ x. p x && q x) xs
overlap p q [] = omega arith
overlap p q (x ∷ xs) = one (p x) (q x) (raft_majorities.count p xs) (raft_majorities.count q xs) (raft_majorities.count (λ y. p y && q y) xs) (length xs) (overlap p q xs)

pick : {X : Type 0} (p : X → Bool) (x : X) (n : ℕ) → (0 < n → (y : X) × (p y ≡ true)) → (b : Bool) → p x ≡ b → 0 < cond b 1 0 + n → (y : X) × (p y ≡ true)
pick p x n next true e k = (x, e)
pick p x n next false e k = next (omega (arith, k))

-- where any is counted, one passes
pub passing : {X : Type 0} (p : X → Bool) (xs : List X) → 0 < raft_majorities.count p xs → (x : X) × (p x ≡ true)
passing p [] h = absurd (omega (arith, h))
passing p (x ∷ xs) h = pick p x (raft_majorities.count p xs) (passing p xs) (p x) refl h

both : (a b : Bool) → (a && b) ≡ true → (a ≡ true) × (b ≡ true)
both true true e = (refl, refl)
both true false e = (refl, e)
both false true e = (e, refl)
both false false e = (e, e)

most : (held n : ℕ) → IsTrue (raft_majorities.is_most held n) → n < held + held
most held n h = grind (arith, nat_tests, h)

-- two tests that a majority passes have a member that passes both
pub in_common : {X : Type 0} (p q : X → Bool) (xs : List X) → IsTrue (raft_majorities.is_most (raft_majorities.count p xs) (length xs)) → IsTrue (raft_majorities.is_most (raft_majorities.count q xs) (length xs)) → (x : X) × (p x ≡ true) × (q x ≡ true)
in_common p q xs hp hq =
    let f = passing (λ x. p x && q x) xs (omega (arith, most (raft_majorities.count p xs) (length xs) hp, most (raft_majorities.count q xs) (length xs) hq, overlap p q xs)) in
    let b = both (p f.0) (q f.0) f.1 in (f.0, b.0, b.1)

more : (a b : Bool) (n m : ℕ) → (a ≡ true → b ≡ true) → n ≤ m → cond a 1 0 + n ≤ cond b 1 0 + m
more true true n m h le = omega (arith, le)
more true false n m h le = absurd (grind (arith, h refl))
more false true n m h le = omega (arith, le)
more false false n m h le = omega (arith, le)

-- a wider test counts at least as many
pub count-wider : {X : Type 0} (p q : X → Bool) (xs : List X) → ((x : X) → p x ≡ true → q x ≡ true) → raft_majorities.count p xs ≤ raft_majorities.count q xs
count-wider p q [] h = omega arith
count-wider p q (x ∷ xs) h = more (p x) (q x) (raft_majorities.count p xs) (raft_majorities.count q xs) (h x) (count-wider p q xs h)

-- the numbers of a cluster
pub length-numbers_from : (a n : ℕ) → length (lists.numbers_from a n) ≡ n
length-numbers_from a zero = refl
length-numbers_from a (suc n) = omega (arith, length-numbers_from (suc a) n)

pub length-cluster_of : (n : ℕ) → length (raft_majorities.cluster_of n) ≡ n
length-cluster_of n = length-numbers_from 1 n
