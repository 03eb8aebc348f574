-- The other nodes of a cluster, one by one.
use Rattle.std.proofs.Common.{◌≡◌, ℕ, suc, ◌+◌, ◌-◌, ◌<◌, ◌≤◌, List, [], ◌∷◌, refl, ap, sym, ◌∙◌, arith}
use Rattle.std.specs.Prelude.{Bool, true, false, not, nat_eq, nat_le, cond, filter, Option, Some, None, IfSome}
use Rattle.std.specs.Option.{SomeIff}
use Rattle.std.proofs.lemmas.Bool.Decides.{nat_tests}
use Rattle.ax_types.specs.Places as lists
use Rattle.raft_node.specs.Others.{others_from, next_from}

-- a count of nodes that is one more than another
from_more : (me k n m : ℕ) → n ≡ suc m → filter (λ j. not (nat_eq j me)) (lists.numbers_from k n) ≡ cond (not (nat_eq k me)) (k ∷ filter (λ j. not (nat_eq j me)) (lists.numbers_from (suc k) m)) (filter (λ j. not (nat_eq j me)) (lists.numbers_from (suc k) m))
from_more me k n m e = ap (λ x. filter (λ j. not (nat_eq j me)) (lists.numbers_from k x)) e

none_left : (me k n : ℕ) → n ≡ 0 → filter (λ j. not (nat_eq j me)) (lists.numbers_from k n) ≡ []
none_left me k n e = ap (λ x. filter (λ j. not (nat_eq j me)) (lists.numbers_from k x)) e

same_rest : (me nodes k : ℕ) → filter (λ j. not (nat_eq j me)) (lists.numbers_from (suc k) (nodes - k)) ≡ others_from me nodes (k + 1)
same_rest me nodes k =
    let one : suc k ≡ k + 1 = omega arith in
    let count : nodes - k ≡ suc nodes - (k + 1) = omega arith in
    ap (λ x. filter (λ j. not (nat_eq j me)) (lists.numbers_from x (nodes - k))) one
    ∙ ap (λ x. filter (λ j. not (nat_eq j me)) (lists.numbers_from (k + 1) x)) count

unequal : (k me : ℕ) → (k ≡ me → ⊥) → nat_eq k me ≡ false
unequal k me ne = grind (arith, nat_tests, ne)

equal : (k me : ℕ) → k ≡ me → nat_eq k me ≡ true
equal k me e = grind (arith, nat_tests, e)

-- a node that is not the one left out comes first
first : (me nodes k : ℕ) → k ≤ nodes → (k ≡ me → ⊥) → others_from me nodes k ≡ k ∷ others_from me nodes (k + 1)
first me nodes k within ne =
    let more : suc nodes - k ≡ suc (nodes - k) = omega (arith, within) in
    from_more me k (suc nodes - k) (nodes - k) more
    ∙ ap (λ b. cond (not b) (k ∷ filter (λ j. not (nat_eq j me)) (lists.numbers_from (suc k) (nodes - k))) (filter (λ j. not (nat_eq j me)) (lists.numbers_from (suc k) (nodes - k)))) (unequal k me ne)
    ∙ ap (λ ks. k ∷ ks) (same_rest me nodes k)

-- the one left out is passed over
passed_over : (me nodes k : ℕ) → k ≤ nodes → k ≡ me → others_from me nodes k ≡ others_from me nodes (k + 1)
passed_over me nodes k within e =
    let more : suc nodes - k ≡ suc (nodes - k) = omega (arith, within) in
    from_more me k (suc nodes - k) (nodes - k) more
    ∙ ap (λ b. cond (not b) (k ∷ filter (λ j. not (nat_eq j me)) (lists.numbers_from (suc k) (nodes - k))) (filter (λ j. not (nat_eq j me)) (lists.numbers_from (suc k) (nodes - k)))) (equal k me e)
    ∙ same_rest me nodes k

next_case : (b : Bool) (me nodes k : ℕ) → k ≤ nodes → nat_eq k me ≡ b → others_from me nodes k ≡ others_from me nodes (cond b (k + 1) k)
next_case true me nodes k within e = let same : k ≡ me = grind (arith, nat_tests, e) in passed_over me nodes k within same
next_case false me nodes k within e = refl

ne_case : (b : Bool) (me k : ℕ) → nat_eq k me ≡ b → cond b (k + 1) k ≡ me → ⊥
ne_case true me k e f = let same : k ≡ me = grind (arith, nat_tests, e) in omega (arith, same, f)
ne_case false me k e f = let no : nat_eq k me ≡ true = equal k me f in cc (e, no)

at_least : (b : Bool) (k : ℕ) → k ≤ cond b (k + 1) k
at_least true k = omega arith
at_least false k = omega arith

-- the first of those that are left, where there is one
pub popped : (me nodes k : ℕ) → next_from me k ≤ nodes → others_from me nodes k ≡ next_from me k ∷ others_from me nodes (next_from me k + 1)
popped me nodes k within =
    let here : k ≤ nodes = omega (arith, within, at_least (nat_eq k me) k) in
    next_case (nat_eq k me) me nodes k here refl
    ∙ first me nodes (next_from me k) within (ne_case (nat_eq k me) me k refl)

-- none is left
past_case : (b : Bool) (me nodes k : ℕ) → nat_eq k me ≡ b → k ≤ nodes + 1 → nodes < cond b (k + 1) k → others_from me nodes k ≡ []
past_case false me nodes k e le lt = none_left me k (suc nodes - k) (omega (arith, lt))
past_case true me nodes k e le lt = past_last (nat_le k nodes) refl
  where
    past_last : (c : Bool) → nat_le k nodes ≡ c → others_from me nodes k ≡ []
    past_last true f =
        let same : k ≡ me = grind (arith, nat_tests, e) in
        let here : k ≤ nodes = grind (arith, nat_tests, f) in
        passed_over me nodes k here same ∙ none_left me (k + 1) (suc nodes - (k + 1)) (omega (arith, lt))
    past_last false f =
        let over : nodes < k = grind (arith, nat_tests, f) in
        none_left me k (suc nodes - k) (omega (arith, over))

pub emptied : (me nodes k : ℕ) → k ≤ nodes + 1 → nodes < next_from me k → others_from me nodes k ≡ []
emptied me nodes k le lt = past_case (nat_eq k me) me nodes k refl le lt

-- the one that is popped, as a node
pub popped_node : (o : Option ℕ) (P : Type 0) (me nodes k number : ℕ) (all : List ℕ) → others_from me nodes k ≡ all → number ≡ next_from me k → number ≤ nodes → SomeIff o P number
    → IfSome o (λ node. all ≡ node ∷ others_from me nodes (number + 1))
popped_node None P me nodes k number all e f within s = tt
popped_node (Some node) P me nodes k number all e f within s =
    sym e
    ∙ popped me nodes k (omega (arith, f, within))
    ∙ ap (λ n. n ∷ others_from me nodes (n + 1)) (sym f)
    ∙ ap (λ n. n ∷ others_from me nodes (number + 1)) (sym s.1)
