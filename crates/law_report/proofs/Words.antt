-- A text is split at each place of one byte; a line is split at its blanks into its words.
use Rattle.std.proofs.Common.{◌≡◌, ℕ, Bool, true, false, ◌&&◌, not, nat_eq, nat_lt, cond, slice_index_or, List, [], ◌∷◌, ◌++◌, refl, ap, ◌∙◌, arith}
use Rattle.std.proofs.lemmas.Bool.Decides.{nat_tests}
use Rattle.std.specs.List.{list_all}

-- what stands before the first byte c
abbrev pub first : ℕ → List ℕ → List ℕ
first c [] = []
first c (x ∷ xs) = cond (nat_eq x c) [] (x ∷ first c xs)

-- the pieces behind the first byte c
abbrev pub others : ℕ → List ℕ → List (List ℕ)
others c [] = []
others c (x ∷ xs) = cond (nat_eq x c) (first c xs ∷ others c xs) (others c xs)

-- the pieces between the bytes c
abbrev pub pieces : ℕ → List ℕ → List (List ℕ)
pieces c xs = first c xs ∷ others c xs

-- no byte is c
abbrev pub lacks : ℕ → List ℕ → Bool
lacks c xs = list_all (λ x. not (nat_eq x c)) xs

-- every byte is above c
abbrev pub above : ℕ → List ℕ → Bool
above c xs = list_all (nat_lt c) xs

pub and_first : (a b : Bool) → (a && b) ≡ true → a ≡ true
and_first true b h = refl
and_first false b h = h

pub and_second : (a b : Bool) → (a && b) ≡ true → b ≡ true
and_second true b h = h
and_second false b h = cc

pub both : (a b : Bool) → a ≡ true → b ≡ true → (a && b) ≡ true
both a b h k = rw h (rw k refl)

not-true : (b : Bool) → not b ≡ true → b ≡ false
not-true true h = cc
not-true false h = refl

pub eq-self : (c : ℕ) → nat_eq c c ≡ true
eq-self c = grind (arith, nat_tests)

-- tests that one implies the other
pub all-weaker : (p q : ℕ → Bool) → ((x : ℕ) → p x ≡ true → q x ≡ true) → (xs : List ℕ) → list_all p xs ≡ true → list_all q xs ≡ true
all-weaker p q f [] h = refl
all-weaker p q f (x ∷ xs) h = both (q x) (list_all q xs) (f x (and_first (p x) _ h)) (all-weaker p q f xs (and_second (p x) _ h))

pub all-append : (p : ℕ → Bool) (xs ys : List ℕ) → list_all p xs ≡ true → list_all p ys ≡ true → list_all p (xs ++ ys) ≡ true
all-append p [] ys h k = k
all-append p (x ∷ xs) ys h k = both (p x) _ (and_first (p x) _ h) (all-append p xs ys (and_second (p x) _ h) k)

-- bytes above c are none that is at most c
pub above-lacks : (c d : ℕ) → nat_lt c d ≡ false → (xs : List ℕ) → above c xs ≡ true → lacks d xs ≡ true
above-lacks c d h xs k = all-weaker (nat_lt c) (λ x. not (nat_eq x d)) (λ x e. grind (arith, nat_tests)) xs k

pub first-lacks : (c : ℕ) (xs : List ℕ) → lacks c xs ≡ true → first c xs ≡ xs
first-lacks c [] h = refl
first-lacks c (x ∷ xs) h =
    rw (not-true (nat_eq x c) (and_first (not (nat_eq x c)) _ h))
    (ap (λ t. x ∷ t) (first-lacks c xs (and_second (not (nat_eq x c)) _ h)))

pub others-lacks : (c : ℕ) (xs : List ℕ) → lacks c xs ≡ true → others c xs ≡ []
others-lacks c [] h = refl
others-lacks c (x ∷ xs) h =
    rw (not-true (nat_eq x c) (and_first (not (nat_eq x c)) _ h)) (others-lacks c xs (and_second (not (nat_eq x c)) _ h))

-- a text without the byte is one piece
pub pieces-lacks : (c : ℕ) (xs : List ℕ) → lacks c xs ≡ true → pieces c xs ≡ xs ∷ []
pieces-lacks c xs h = λ i. first-lacks c xs h i ∷ others-lacks c xs h i

first-join : (c : ℕ) (xs ys : List ℕ) → first c (xs ++ (c ∷ ys)) ≡ first c xs
first-join c [] ys = rw (eq-self c) refl
first-join c (x ∷ xs) ys = ap (λ t. cond (nat_eq x c) [] (x ∷ t)) (first-join c xs ys)

cond-append : (b : Bool) (f : List ℕ) (o p : List (List ℕ)) → cond b (f ∷ (o ++ p)) (o ++ p) ≡ cond b (f ∷ o) o ++ p
cond-append true f o p = refl
cond-append false f o p = refl

others-join : (c : ℕ) (xs ys : List ℕ) → others c (xs ++ (c ∷ ys)) ≡ others c xs ++ pieces c ys
others-join c [] ys = rw (eq-self c) refl
others-join c (x ∷ xs) ys =
    (λ i. cond (nat_eq x c) (first-join c xs ys i ∷ others-join c xs ys i) (others-join c xs ys i))
    ∙ cond-append (nat_eq x c) (first c xs) (others c xs) (pieces c ys)

-- the pieces of two texts with the byte between them
pub pieces-join : (c : ℕ) (xs ys : List ℕ) → pieces c (xs ++ (c ∷ ys)) ≡ pieces c xs ++ pieces c ys
pieces-join c xs ys = λ i. first-join c xs ys i ∷ others-join c xs ys i

-- a line and its words: it is split at its blanks, and no byte of it is below a blank
pub record IsLine (t : List ℕ) (ws : List (List ℕ)) : Type 0 where
  pub words : pieces 32 t ≡ ws
  pub bytes : above 31 t ≡ true

-- one word
pub word : (t : List ℕ) → above 32 t ≡ true → IsLine t (t ∷ [])
word t h = record {
  words = pieces-lacks 32 t (above-lacks 32 32 refl t h);
  bytes = all-weaker (nat_lt 32) (nat_lt 31) (λ x e. grind (arith, nat_tests)) t h;
}

-- two lines with a blank between them
pub join : {s t : List ℕ} {us vs : List (List ℕ)} → IsLine s us → IsLine t vs → IsLine (s ++ (32 ∷ t)) (us ++ vs)
join {s} {t} {us} {vs} h k = record {
  words = pieces-join 32 s t ∙ (λ i. h.words i ++ k.words i);
  bytes = all-append (nat_lt 31) s (32 ∷ t) h.bytes k.bytes;
}

-- the word at a place, counted from 0
abbrev pub at : ℕ → List (List ℕ) → List ℕ
at k ws = slice_index_or ws k []

-- whether both are the same word
abbrev pub is_word : List ℕ → List ℕ → Bool
is_word [] [] = true
is_word [] (y ∷ ys) = false
is_word (x ∷ xs) [] = false
is_word (x ∷ xs) (y ∷ ys) = nat_eq x y && is_word xs ys
