-- Lists of flags, and what a filter leaves.
use Rattle.std.proofs.Common.{◌≡◌, ◌≢◌, ℕ, zero, suc, ◌+◌, ◌<◌, ◌≤◌, Bool, true, false, not, ◌||◌, cond, Option, Some, None, List, [], ◌∷◌, ◌++◌, length, filter, set, refl, sym, ap, ◌∙◌, arith, replicate}
use Rattle.std.specs.Prelude.{slice_get}
use Rattle.std.specs.List.{list_any}
use Rattle.spec_raft.specs.Majority as majorities

pub not_true : (x : Bool) → (x ≡ true → ⊥) → x ≡ false
not_true true f = absurd (f refl)
not_true false f = refl

pub get-set_same : {X : Type 0} (xs : List X) (i : ℕ) (x : X) → i < length xs → slice_get (set xs i x) i ≡ Some x
get-set_same [] i x h = absurd (omega (arith, h))
get-set_same (y ∷ xs) zero x h = refl
get-set_same (y ∷ xs) (suc i) x h = get-set_same xs i x (omega (arith, h))

pub get-set_other : {X : Type 0} (xs : List X) (i k : ℕ) (x : X) → k ≢ i → slice_get (set xs i x) k ≡ slice_get xs k
get-set_other [] i k x ne = refl
get-set_other (y ∷ xs) zero zero x ne = absurd (ne refl)
get-set_other (y ∷ xs) zero (suc k) x ne = refl
get-set_other (y ∷ xs) (suc i) zero x ne = refl
get-set_other (y ∷ xs) (suc i) (suc k) x ne = get-set_other xs i k x (λ e. ne (ap suc e))

pub get-replicate : {X : Type 0} (n k : ℕ) (x : X) → k < n → slice_get (replicate n x) k ≡ Some x
get-replicate zero k x h = absurd (omega (arith, h))
get-replicate (suc n) zero x h = refl
get-replicate (suc n) (suc k) x h = get-replicate n k x (omega (arith, h))

-- how many flags there are
abbrev pub true_count : List Bool → ℕ
true_count flags = majorities.count (λ b. b) flags

pub count-set_true : (flags : List Bool) (i : ℕ) → slice_get flags i ≡ Some false → true_count (set flags i true) ≡ suc (true_count flags)
count-set_true [] i e = cc
count-set_true (true ∷ flags) zero e = cc
count-set_true (false ∷ flags) zero e = omega arith
count-set_true (b ∷ flags) (suc i) e = omega (arith, count-set_true flags i e)

pub count-set_false : (flags : List Bool) (i : ℕ) → slice_get flags i ≡ Some true → suc (true_count (set flags i false)) ≡ true_count flags
count-set_false [] i e = cc
count-set_false (false ∷ flags) zero e = cc
count-set_false (true ∷ flags) zero e = omega arith
count-set_false (b ∷ flags) (suc i) e = omega (arith, count-set_false flags i e)

pub count-set_still : (flags : List Bool) (i : ℕ) → slice_get flags i ≡ Some false → true_count (set flags i false) ≡ true_count flags
count-set_still [] i e = cc
count-set_still (true ∷ flags) zero e = cc
count-set_still (false ∷ flags) zero e = refl
count-set_still (b ∷ flags) (suc i) e = omega (arith, count-set_still flags i e)

one_most : (b : Bool) → cond b 1 0 ≤ 1
one_most true = omega arith
one_most false = omega arith

pub count_most : (flags : List Bool) → true_count flags ≤ length flags
count_most [] = omega arith
count_most (b ∷ flags) = omega (arith, count_most flags, one_most b)

pub count_room : (flags : List Bool) (i : ℕ) → slice_get flags i ≡ Some false → true_count flags < length flags
count_room [] i e = cc
count_room (true ∷ flags) zero e = cc
count_room (false ∷ flags) zero e = omega (arith, count_most flags)
count_room (b ∷ flags) (suc i) e = omega (arith, count_room flags i e, one_most b)

pub any-push : {X : Type 0} (p : X → Bool) (xs : List X) (x : X) → list_any p (xs ++ x ∷ []) ≡ list_any p xs || p x
any-push p [] x = or_none (p x)
  where
    or_none : (b : Bool) → b || false ≡ false || b
    or_none true = refl
    or_none false = refl
any-push p (y ∷ xs) x = more (p y) (list_any p (xs ++ x ∷ [])) (list_any p xs) (p x) (any-push p xs x)
  where
    more : (b c d e : Bool) → c ≡ d || e → b || c ≡ (b || d) || e
    more true c d e h = refl
    more false c d e h = h

head_out : {X : Type 0} (p : X → Bool) (x : X) (ys : List X) (c : Bool) → c ≡ p x → list_any p ys ≡ false → list_any p (cond (not c) (x ∷ ys) ys) ≡ false
head_out p x ys true e h = h
head_out p x ys false e h = ap (λ b. b || list_any p ys) (sym e) ∙ h

-- none is left of those that a filter takes out
pub any-without : {X : Type 0} (p q : X → Bool) → ((x : X) → p x ≡ q x) → (xs : List X) → list_any p (filter (λ x. not (q x)) xs) ≡ false
any-without p q same [] = refl
any-without p q same (x ∷ xs) = head_out p x (filter (λ y. not (q y)) xs) (q x) (sym (same x)) (any-without p q same xs)

head_in : {X : Type 0} (p : X → Bool) (x : X) (xs ys : List X) (b c : Bool) → b ≡ p x → (b ≡ true → c ≡ false) → list_any p ys ≡ list_any p xs → list_any p (cond (not c) (x ∷ ys) ys) ≡ b || list_any p xs
head_in p x xs ys b false e out h = ap (λ d. d || list_any p ys) (sym e) ∙ ap (λ d. b || d) h
head_in p x xs ys true true e out h = absurd (let no : true ≡ false = out refl in cc)
head_in p x xs ys false true e out h = h

-- a filter that takes out none of these leaves as many of them
pub any-beside : {X : Type 0} (p q : X → Bool) → ((x : X) → p x ≡ true → q x ≡ false) → (xs : List X) → list_any p (filter (λ x. not (q x)) xs) ≡ list_any p xs
any-beside p q out [] = refl
any-beside p q out (x ∷ xs) = head_in p x xs (filter (λ y. not (q y)) xs) (p x) (q x) refl (out x) (any-beside p q out xs)

head_most : {X : Type 0} (x : X) (xs ys : List X) (b : Bool) → length ys ≤ length xs → length (cond b (x ∷ ys) ys) ≤ suc (length xs)
head_most x xs ys true h = omega (arith, h)
head_most x xs ys false h = omega (arith, h)

pub filter_most : {X : Type 0} (p : X → Bool) (xs : List X) → length (filter p xs) ≤ length xs
filter_most p [] = omega arith
filter_most p (x ∷ xs) = head_most x xs (filter p xs) (p x) (filter_most p xs)

head_fewer : {X : Type 0} (x : X) (xs ys : List X) (b a : Bool) → length ys ≤ length xs → (a ≡ true → length ys < length xs) → b || a ≡ true → length (cond (not b) (x ∷ ys) ys) < suc (length xs)
head_fewer x xs ys true a le lt e = omega (arith, le)
head_fewer x xs ys false a le lt e = omega (arith, lt e)

-- a filter that takes out some leaves fewer
pub filter_fewer : {X : Type 0} (p : X → Bool) (xs : List X) → list_any p xs ≡ true → length (filter (λ x. not (p x)) xs) < length xs
filter_fewer p [] e = cc
filter_fewer p (x ∷ xs) e = head_fewer x xs (filter (λ y. not (p y)) xs) (p x) (list_any p xs) (filter_most (λ y. not (p y)) xs) (filter_fewer p xs) e
