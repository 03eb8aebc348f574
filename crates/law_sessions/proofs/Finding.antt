-- What is found in a list by its session.
use Rattle.std.proofs.Common.{◌≡◌, ◌≢◌, ℕ, Bool, true, false, cond, not, ◌||◌, nat_eq, List, [], ◌∷◌, Option, Some, map, filter, find, refl, sym, ap, ◌∙◌, subst, arith}
use Rattle.std.specs.List.{AllByRecursion, list_any}
use Rattle.std.proofs.lemmas.Bool.Decides.{nat_tests}

pub equal : (a b : ℕ) → nat_eq a b ≡ true → a ≡ b
equal a b e = grind (arith, nat_tests)

pub unequal : (a b : ℕ) → nat_eq a b ≡ false → a ≢ b
unequal a b e = grind (arith, nat_tests)

pub is_equal : (a b : ℕ) → a ≡ b → nat_eq a b ≡ true
is_equal a b e = grind (arith, nat_tests, e)

pub is_unequal : (a b : ℕ) → (a ≢ b) → nat_eq a b ≡ false
is_unequal a b n = grind (arith, nat_tests, n)

pub turned : (a b : ℕ) → nat_eq a b ≡ nat_eq b a
turned a b = go (nat_eq a b) (nat_eq b a) refl refl
  where
    go : (x y : Bool) → nat_eq a b ≡ x → nat_eq b a ≡ y → x ≡ y
    go true true e f = refl
    go true false e f = absurd (unequal b a f (sym (equal a b e)))
    go false true e f = absurd (unequal a b e (sym (equal b a f)))
    go false false e f = refl

-- what is found is one that passes
pub found_passes : {X : Type 0} (P : X → Type 0) (test : X → Bool) (xs : List X) (x : X) → AllByRecursion P xs → find test xs ≡ Some x → P x × (test x ≡ true)
found_passes P test [] x h e = absurd (cc)
found_passes {X = X} P test (y ∷ xs) x h e = go (λ f. found_passes P test xs x h.1 f) (test y) refl e
  where
    go : (find test xs ≡ Some x → P x × (test x ≡ true)) → (b : Bool) → test y ≡ b → cond b (Some y) (find test xs) ≡ Some x → P x × (test x ≡ true)
    go next true t f = let s : y ≡ x = cc in (subst P s h.0, ap test (sym s) ∙ t)
    go next false t f = next f

-- a test that one passes finds one
pub any_found : {X : Type 0} (test : X → Bool) (xs : List X) → list_any test xs ≡ true → (x : X) × (find test xs ≡ Some x)
any_found test [] e = absurd (cc)
any_found {X = X} test (y ∷ xs) e = go (λ f. any_found test xs f) (test y) refl e
  where
    go : (list_any test xs ≡ true → (x : X) × (find test xs ≡ Some x)) → (b : Bool) → test y ≡ b → (b || list_any test xs) ≡ true → (x : X) × (cond b (Some y) (find test xs) ≡ Some x)
    go next true t f = (y, refl)
    go next false t f = next f

pub found_any : {X : Type 0} (test : X → Bool) (xs : List X) (x : X) → find test xs ≡ Some x → list_any test xs ≡ true
found_any test [] x e = absurd (cc)
found_any {X = X} test (y ∷ xs) x e = go (λ f. found_any test xs x f) (test y) refl e
  where
    go : (find test xs ≡ Some x → list_any test xs ≡ true) → (b : Bool) → test y ≡ b → cond b (Some y) (find test xs) ≡ Some x → (b || list_any test xs) ≡ true
    go next true t f = refl
    go next false t f = next f

-- a test by a number finds alike in lists that have the same numbers
pub any_alike : {X Y : Type 0} (f : X → ℕ) (g : Y → ℕ) (s : ℕ) (xs : List X) (ys : List Y) → map f xs ≡ map g ys → list_any (λ x. nat_eq (f x) s) xs ≡ list_any (λ y. nat_eq (g y) s) ys
any_alike f g s [] [] e = refl
any_alike f g s [] (y ∷ ys) e = absurd (cc)
any_alike f g s (x ∷ xs) [] e = absurd (cc)
any_alike f g s (x ∷ xs) (y ∷ ys) e =
    let a : f x ≡ g y = cc in
    let b : map f xs ≡ map g ys = cc in
    ap (λ n. nat_eq n s || list_any (λ z. nat_eq (f z) s) xs) a ∙ ap (λ c. nat_eq (g y) s || c) (any_alike f g s xs ys b)

-- lists that have the same numbers have them still without one, and with all changed otherwise
pub without_alike : {X Y : Type 0} (f : X → ℕ) (g : Y → ℕ) (s : ℕ) (xs : List X) (ys : List Y) → map f xs ≡ map g ys → map f (filter (λ x. not (nat_eq (f x) s)) xs) ≡ map g (filter (λ y. not (nat_eq (g y) s)) ys)
without_alike f g s [] [] e = refl
without_alike f g s [] (y ∷ ys) e = absurd (cc)
without_alike f g s (x ∷ xs) [] e = absurd (cc)
without_alike f g s (x ∷ xs) (y ∷ ys) e = go (nat_eq (f x) s) (nat_eq (g y) s) (ap (λ n. nat_eq n s) a) (without_alike f g s xs ys b)
  where
    a : f x ≡ g y
    a = cc

    b : map f xs ≡ map g ys
    b = cc

    go : (p q : Bool) → p ≡ q → map f (filter (λ z. not (nat_eq (f z) s)) xs) ≡ map g (filter (λ z. not (nat_eq (g z) s)) ys)
        → map f (cond (not p) (x ∷ filter (λ z. not (nat_eq (f z) s)) xs) (filter (λ z. not (nat_eq (f z) s)) xs)) ≡ map g (cond (not q) (y ∷ filter (λ z. not (nat_eq (g z) s)) ys) (filter (λ z. not (nat_eq (g z) s)) ys))
    go true true c i = i
    go false false c i = cc
    go true false c i = absurd (cc)
    go false true c i = absurd (cc)

pub map_same : {X : Type 0} (f : X → ℕ) (g : X → X) → ((x : X) → f (g x) ≡ f x) → (xs : List X) → map f (map g xs) ≡ map f xs
map_same f g h [] = refl
map_same f g h (x ∷ xs) = let a = h x in let b = map_same f g h xs in cc

-- what holds of each is that of each that stays
pub all_without : {X : Type 0} (P R : X → Type 0) (f : X → ℕ) (s : ℕ) → ((x : X) → P x → (f x ≢ s) → R x) → (xs : List X) → AllByRecursion P xs → AllByRecursion R (filter (λ x. not (nat_eq (f x) s)) xs)
all_without P R f s k [] h = tt
all_without P R f s k (x ∷ xs) h = go (nat_eq (f x) s) refl (all_without P R f s k xs h.1)
  where
    go : (b : Bool) → nat_eq (f x) s ≡ b → AllByRecursion R (filter (λ y. not (nat_eq (f y) s)) xs) → AllByRecursion R (cond (not b) (x ∷ filter (λ y. not (nat_eq (f y) s)) xs) (filter (λ y. not (nat_eq (f y) s)) xs))
    go true e r = r
    go false e r = (k x h.0 (unequal (f x) s e), r)

pub all_filter : {X : Type 0} (P : X → Type 0) (test : X → Bool) (xs : List X) → AllByRecursion P xs → AllByRecursion P (filter test xs)
all_filter P test [] h = tt
all_filter P test (x ∷ xs) h = go (test x) (all_filter P test xs h.1)
  where
    go : (b : Bool) → AllByRecursion P (filter test xs) → AllByRecursion P (cond b (x ∷ filter test xs) (filter test xs))
    go true r = (h.0, r)
    go false r = r

pub all_map : {X Y : Type 0} (P : X → Type 0) (R : Y → Type 0) (f : X → Y) → ((x : X) → P x → R (f x)) → (xs : List X) → AllByRecursion P xs → AllByRecursion R (map f xs)
all_map P R f k [] h = tt
all_map P R f k (x ∷ xs) h = (k x h.0, all_map P R f k xs h.1)

-- another number is found still
pub any_without : {X : Type 0} (f : X → ℕ) (s t : ℕ) → (s ≢ t) → (xs : List X) → list_any (λ x. nat_eq (f x) t) xs ≡ true → list_any (λ x. nat_eq (f x) t) (filter (λ x. not (nat_eq (f x) s)) xs) ≡ true
any_without f s t n [] e = e
any_without f s t n (x ∷ xs) e = go (nat_eq (f x) s) refl (nat_eq (f x) t) refl e (λ z. any_without f s t n xs z)
  where
    go : (a : Bool) → nat_eq (f x) s ≡ a → (b : Bool) → nat_eq (f x) t ≡ b → (b || list_any (λ y. nat_eq (f y) t) xs) ≡ true
        → (list_any (λ y. nat_eq (f y) t) xs ≡ true → list_any (λ y. nat_eq (f y) t) (filter (λ y. not (nat_eq (f y) s)) xs) ≡ true)
        → list_any (λ y. nat_eq (f y) t) (cond (not a) (x ∷ filter (λ y. not (nat_eq (f y) s)) xs) (filter (λ y. not (nat_eq (f y) s)) xs)) ≡ true
    go true p true q z i = absurd (n (sym (equal (f x) s p) ∙ equal (f x) t q))
    go true p false q z i = i z
    go false p true q z i = ap (λ b. b || list_any (λ y. nat_eq (f y) t) (filter (λ y. not (nat_eq (f y) s)) xs)) q
    go false p false q z i = ap (λ b. b || list_any (λ y. nat_eq (f y) t) (filter (λ y. not (nat_eq (f y) s)) xs)) q ∙ i z

pub some_same : {X : Type 0} (x y : X) → Some x ≡ Some y → x ≡ y
some_same x y e = cc

abbrev pub one_of : {X Y : Type 0} → X → Y → Option (X × Y)
one_of x y = Some (x, y)

pub first_same : {X Y : Type 0} (a c : X) (b d : Y) → one_of a b ≡ one_of c d → a ≡ c
first_same {X = X} {Y = Y} a c b d e = let x : X × Y = (a, b) in let y : X × Y = (c, d) in ap (λ z. z.0) (some_same x y e)

pub second_same : {X Y : Type 0} (a c : X) (b d : Y) → one_of a b ≡ one_of c d → b ≡ d
second_same {X = X} {Y = Y} a c b d e = let x : X × Y = (a, b) in let y : X × Y = (c, d) in ap (λ z. z.1) (some_same x y e)
