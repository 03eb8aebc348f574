-- Lists: what holds of each, places, and beginnings.
use Rattle.std.proofs.Common.{◌≡◌, ℕ, zero, suc, ◌≤◌, ◌<◌, Bool, true, false, cond, List, [], ◌∷◌, ◌++◌, Some, length, take, drop, slice_get, refl, sym, ap, subst, arith, append-nil, append_assoc}
use Rattle.std.specs.List.{AllByRecursion}
use Rattle.ax_types.specs.Places as lists

pub by_test : {X : Type 0} (Q : X → Type 0) (b : Bool) (x y : X) → (b ≡ true → Q x) → (b ≡ false → Q y) → Q (cond b x y)
by_test Q true x y h k = h refl
by_test Q false x y h k = k refl

pub all_since : {X : Type 0} (P R : X → Type 0) → ((x : X) → P x → R x) → (xs : List X) → AllByRecursion P xs → AllByRecursion R xs
all_since P R f [] h = tt
all_since P R f (x ∷ xs) h = (f x h.0, all_since P R f xs h.1)

pub all_append : {X : Type 0} (P : X → Type 0) (xs ys : List X) → AllByRecursion P xs → AllByRecursion P ys → AllByRecursion P (xs ++ ys)
all_append P [] ys h k = k
all_append P (x ∷ xs) ys h k = (h.0, all_append P xs ys h.1 k)

-- a list from its beginning to its end
pub by_last : {X : Type 0} (P : List X → Type 0) → P [] → ((xs : List X) (x : X) → P xs → P (xs ++ x ∷ [])) → (xs : List X) → P xs
by_last {X = X} P none more xs = go [] xs none
  where
    go : (done rest : List X) → P done → P (done ++ rest)
    go done [] h = subst P (sym (append-nil done)) h
    go done (x ∷ rest) h = subst P (append_assoc done (x ∷ []) rest) (go (done ++ x ∷ []) rest (more done x h))

get_within : {X : Type 0} (xs ys : List X) (k : ℕ) → k < length xs → slice_get (xs ++ ys) k ≡ slice_get xs k
get_within [] ys k l = absurd (omega arith)
get_within (x ∷ xs) ys zero l = refl
get_within (x ∷ xs) ys (suc k) l = get_within xs ys k (omega arith)

pub at_within : {X : Type 0} (xs ys : List X) (p : ℕ) → p ≤ length xs → lists.at_place (xs ++ ys) p ≡ lists.at_place xs p
at_within xs ys zero l = refl
at_within xs ys (suc k) l = get_within xs ys k (omega arith)

get_end : {X : Type 0} (xs : List X) (x : X) (ys : List X) → slice_get (xs ++ x ∷ ys) (length xs) ≡ Some x
get_end [] x ys = refl
get_end (y ∷ xs) x ys = get_end xs x ys

pub at_end : {X : Type 0} (xs : List X) (x : X) (ys : List X) → lists.at_place (xs ++ x ∷ ys) (suc (length xs)) ≡ Some x
at_end xs x ys = get_end xs x ys

-- what stands at a place is within
get_some : {X : Type 0} (xs : List X) (k : ℕ) (x : X) → slice_get xs k ≡ Some x → k < length xs
get_some [] k x e = absurd (cc)
get_some (y ∷ xs) zero x e = omega arith
get_some (y ∷ xs) (suc k) x e = let l = get_some xs k x e in omega arith

pub at_some : {X : Type 0} (xs : List X) (p : ℕ) (x : X) → lists.at_place xs p ≡ Some x → (1 ≤ p) × (p ≤ length xs)
at_some xs zero x e = absurd (cc)
at_some xs (suc k) x e = let l = get_some xs k x e in (omega arith, omega arith)

pub take_all : {X : Type 0} (xs : List X) → take (length xs) xs ≡ xs
take_all [] = refl
take_all (x ∷ xs) = ap (λ ys. x ∷ ys) (take_all xs)

-- a list up to a place, that place, and what is behind
get_split : {X : Type 0} (xs : List X) (k : ℕ) (x : X) → slice_get xs k ≡ Some x → xs ≡ (take k xs ++ x ∷ []) ++ drop (suc k) xs
get_split [] k x e = absurd (cc)
get_split (y ∷ xs) zero x e = cc
get_split (y ∷ xs) (suc k) x e = ap (λ ys. y ∷ ys) (get_split xs k x e)

pub at_split : {X : Type 0} (xs : List X) (k : ℕ) (x : X) → lists.at_place xs (suc k) ≡ Some x → xs ≡ (take k xs ++ x ∷ []) ++ drop (suc k) xs
at_split xs k x e = get_split xs k x e
