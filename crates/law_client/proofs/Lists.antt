-- Lists: counts, filters, tests and reverses, one more in front or at the end.
use Rattle.std.proofs.Common.{◌≡◌, ℕ, suc, ◌+◌, cond, List, [], ◌∷◌, ◌++◌, reverse, refl, ap, ◌∙◌, inr, arith, count_by, filter, flat_map, append_assoc, append-nil}
use Rattle.std.specs.Prelude.{◌⊎◌, Bool, true, false, ◌&&◌, ◌||◌, not, Some}
use Rattle.std.specs.List.{AllByRecursion, list_any}
use Rattle.std.proofs.lemmas.List.{reverse-append}
use Rattle.std.proofs.lemmas.List.Sums.{sum_by-cons}
use Rattle.std.proofs.lemmas.Grind.{flat_map-append}

pub count_more : {X : Type 0} (p : X → Bool) (x : X) (xs : List X) → count_by p (x ∷ xs) ≡ cond (p x) 1 0 + count_by p xs
count_more p x xs = sum_by-cons (λ y. cond (p y) 1 0) x xs

pub count_no : {X : Type 0} (p : X → Bool) (x : X) (xs : List X) → p x ≡ false → count_by p (x ∷ xs) ≡ count_by p xs
count_no p x xs e = let f : ◌≡◌ {A = ℕ} (cond (p x) 1 0) 0 = ap (λ b. cond b 1 0) e in omega (arith, count_more p x xs, f)

pub count_yes : {X : Type 0} (p : X → Bool) (x : X) (xs : List X) → p x ≡ true → count_by p (x ∷ xs) ≡ suc (count_by p xs)
count_yes p x xs e = let f : ◌≡◌ {A = ℕ} (cond (p x) 1 0) 1 = ap (λ b. cond b 1 0) e in omega (arith, count_more p x xs, f)

pub reverse_more : {X : Type 0} (x : X) (xs : List X) → reverse (x ∷ xs) ≡ reverse xs ++ x ∷ []
reverse_more x xs = reverse-append (x ∷ []) xs

pub flat_more : {X Y : Type 0} (f : X → List Y) (x : X) (xs : List X) → flat_map f (reverse (x ∷ xs)) ≡ flat_map f (reverse xs) ++ f x
flat_more f x xs = ap (λ ys. flat_map f ys) (reverse_more x xs) ∙ flat_map-append f (reverse xs) (x ∷ []) ∙ ap (λ ys. flat_map f (reverse xs) ++ ys) (append-nil (f x))

pub all_since : {X : Type 0} (P R : X → Type 0) → ((x : X) → P x → R x) → (xs : List X) → AllByRecursion P xs → AllByRecursion R xs
all_since P R f [] a = tt
all_since P R f (x ∷ xs) a = (f x a.0, all_since P R f xs a.1)

pub all_each : {X : Type 0} (P : X → Type 0) (xs : List X) → ((x : X) → P x) → AllByRecursion P xs
all_each P [] f = tt
all_each P (x ∷ xs) f = (f x, all_each P xs f)

pub reverse_onto : {X : Type 0} (x : X) (xs ys : List X) → reverse (x ∷ xs) ++ ys ≡ reverse xs ++ x ∷ ys
reverse_onto x xs ys = ap (λ zs. zs ++ ys) (reverse_more x xs) ∙ append_assoc (reverse xs) (x ∷ []) ys

pub all_append : {X : Type 0} (P : X → Type 0) (xs ys : List X) → AllByRecursion P xs → AllByRecursion P ys → AllByRecursion P (xs ++ ys)
all_append P [] ys a b = b
all_append P (x ∷ xs) ys a b = (a.0, all_append P xs ys a.1 b)

-- of a filter by two tests, one after the other
both_filter : {X : Type 0} (p q : X → Bool) (x : X) (xs : List X) (a b : Bool) → p x ≡ a → q x ≡ b → filter (λ y. q y && p y) xs ≡ filter q (filter p xs)
    → cond (b && a) (x ∷ filter (λ y. q y && p y) xs) (filter (λ y. q y && p y) xs) ≡ filter q (cond a (x ∷ filter p xs) (filter p xs))
both_filter p q x xs true true e f h = rw f (ap (λ ys. x ∷ ys) h)
both_filter p q x xs true false e f h = rw f h
both_filter p q x xs false true e f h = h
both_filter p q x xs false false e f h = h

pub filter_twice : {X : Type 0} (p q : X → Bool) (xs : List X) → filter (λ y. q y && p y) xs ≡ filter q (filter p xs)
filter_twice p q [] = refl
filter_twice p q (x ∷ xs) = both_filter p q x xs (p x) (q x) refl refl (filter_twice p q xs)

pub filter_same : {X : Type 0} (p q : X → Bool) (xs : List X) → ((x : X) → p x ≡ q x) → filter p xs ≡ filter q xs
filter_same p q [] same = refl
filter_same p q (x ∷ xs) same = ap (λ ys. cond (p x) (x ∷ ys) ys) (filter_same p q xs same) ∙ ap (λ b. cond b (x ∷ filter q xs) (filter q xs)) (same x)

pub filter_all : {X : Type 0} (p : X → Bool) (xs : List X) → AllByRecursion (λ x. p x ≡ true) xs → filter p xs ≡ xs
filter_all p [] a = refl
filter_all p (x ∷ xs) a = ap (λ b. cond b (x ∷ filter p xs) (filter p xs)) a.0 ∙ ap (λ ys. x ∷ ys) (filter_all p xs a.1)

pub filter_none : {X : Type 0} (p : X → Bool) (xs : List X) → AllByRecursion (λ x. p x ≡ false) xs → filter p xs ≡ []
filter_none p [] a = refl
filter_none p (x ∷ xs) a = ap (λ b. cond b (x ∷ filter p xs) (filter p xs)) a.0 ∙ filter_none p xs a.1

-- what no item passes, one more does
pub any_more : {X : Type 0} (p : X → Bool) (x : X) (xs : List X) → list_any p (xs ++ x ∷ []) ≡ (list_any p xs || p x)
any_more p x [] = first (p x)
  where
    first : (b : Bool) → (b || false) ≡ b
    first true = refl
    first false = refl
any_more p x (y ∷ ys) = ap (λ b. p y || b) (any_more p x ys) ∙ grouped (p y) (list_any p ys) (p x)
  where
    grouped : (a b c : Bool) → (a || (b || c)) ≡ ((a || b) || c)
    grouped true b c = refl
    grouped false b c = refl

pub no_either : (a b : Bool) → not (a || b) ≡ (not b && not a)
no_either true true = refl
no_either true false = refl
no_either false true = refl
no_either false false = refl

-- one of a list
abbrev pub IsAmong : {X : Type 0} → X → List X → Type 0
IsAmong x [] = ⊥
IsAmong x (y ∷ ys) = (y ≡ x) ⊎ IsAmong x ys

pub among_behind : {X : Type 0} (x : X) (xs ys : List X) → IsAmong x ys → IsAmong x (xs ++ ys)
among_behind x [] ys a = a
among_behind x (z ∷ xs) ys a = inr (among_behind x xs ys a)

pub some_same : {X : Type 0} (x y : X) → Some x ≡ Some y → x ≡ y
some_same x y e = cc
