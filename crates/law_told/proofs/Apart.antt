-- Sessions in a list, none of them twice.
use Rattle.std.proofs.Common.{◌≡◌, ◌≢◌, ℕ, ◌<◌, Bool, true, false, cond, ◌||◌, List, [], ◌∷◌, ◌++◌, refl, sym, ◌∙◌, arith, nat_eq, nat_lt}
use Rattle.std.specs.List.{AllByRecursion}
use Rattle.std.specs.declared.cmp.Ordering.{Ordering}
use Rattle.std.specs.declared.cmp.Ordering.TheVariants.{Less, Equal, Greater}
use Rattle.std.specs.Ordering.{match_ordering, is_eq, nat_cmp}
use Rattle.std.specs.BTreeMap.{is_at}
use Rattle.std.proofs.lemmas.Bool.Decides.{nat_tests}
use Rattle.spec_book.specs.Dict as dicts
use Rattle.law_told.proofs.Lists.{by_test, all_since, all_append}

-- each passes, and none stands there twice
abbrev pub AreApart : (ℕ → Type 0) → List ℕ → Type 0
AreApart P [] = Unit {0}
AreApart P (x ∷ xs) = P x × AllByRecursion (λ y. x ≢ y) xs × AreApart P xs

pub apart_since : (P R : ℕ → Type 0) → ((s : ℕ) → P s → R s) → (xs : List ℕ) → AreApart P xs → AreApart R xs
apart_since P R f [] h = tt
apart_since P R f (x ∷ xs) h = (f x h.0, h.1, apart_since P R f xs h.2)

pub apart_all : (P : ℕ → Type 0) (xs : List ℕ) → AreApart P xs → AllByRecursion P xs
apart_all P [] h = tt
apart_all P (x ∷ xs) h = (h.0, apart_all P xs h.2)

-- the test of a session
test_is : (s x : ℕ) → is_at (nat_cmp s) x ≡ nat_eq s x
test_is s x = go (nat_lt s x) (nat_eq s x) refl refl
  where
    go : (b c : Bool) → nat_lt s x ≡ b → nat_eq s x ≡ c → is_eq (cond b Less (cond c Equal Greater)) ≡ c
    go true true l e = let k : s < x = below l in let m : s ≡ x = equal e in absurd (omega arith)
      where
        below : nat_lt s x ≡ true → s < x
        below h = grind (arith, nat_tests)

        equal : nat_eq s x ≡ true → s ≡ x
        equal h = grind (arith, nat_tests)
    go true false l e = refl
    go false true l e = refl
    go false false l e = refl

unlike : (s x : ℕ) → nat_eq s x ≡ false → s ≢ x
unlike s x e = grind (arith, nat_tests)

like : (s x : ℕ) → nat_eq s x ≡ true → s ≡ x
like s x e = grind (arith, nat_tests)

differs : (s x : ℕ) → is_at (nat_cmp s) x ≡ false → s ≢ x
differs s x e = unlike s x (sym (test_is s x) ∙ e)

same : (s x : ℕ) → is_at (nat_cmp s) x ≡ true → s ≡ x
same s x e = like s x (sym (test_is s x) ∙ e)

neither : (a b : Bool) → (a || b) ≡ false → (a ≡ false) × (b ≡ false)
neither true b e = absurd (cc)
neither false b e = (refl, e)

pub not_there : (s : ℕ) (xs : List ℕ) → dicts.has_session xs s ≡ false → AllByRecursion (λ y. s ≢ y) xs
not_there s [] e = tt
not_there s (x ∷ xs) e = let n = neither (is_at (nat_cmp s) x) (dicts.has_session xs s) e in (differs s x n.0, not_there s xs n.1)

-- one more at the end, or in order
pub apart_end : (P : ℕ → Type 0) (s : ℕ) (xs : List ℕ) → P s → AllByRecursion (λ y. s ≢ y) xs → AreApart P xs → AreApart P (xs ++ s ∷ [])
apart_end P s [] k n h = (k, tt, tt)
apart_end P s (x ∷ xs) k n h = (h.0, all_append (λ y. x ≢ y) xs (s ∷ []) h.1 ((λ e. n.0 (sym e)), tt), apart_end P s xs k n.1 h.2)

by_order : (Q : List ℕ → Type 0) (o : Ordering) (x y z : List ℕ) → Q x → (is_eq o ≡ true → Q y) → Q z → Q (match_ordering o x y z)
by_order Q Less x y z a b c = a
by_order Q Equal x y z a b c = b refl
by_order Q Greater x y z a b c = c

all_with : (P : ℕ → Type 0) (s : ℕ) (xs : List ℕ) → P s → AllByRecursion P xs → AllByRecursion P (dicts.with_session xs s)
all_with P s [] k h = (k, tt)
all_with P s (x ∷ xs) k h = by_order (AllByRecursion P) (nat_cmp s x) _ _ _ (k, h) (λ e. h) (h.0, all_with P s xs k h.1)

pub apart_with : (P : ℕ → Type 0) (s : ℕ) (xs : List ℕ) → P s → AllByRecursion (λ y. s ≢ y) xs → AreApart P xs → AreApart P (dicts.with_session xs s)
apart_with P s [] k n h = (k, tt, tt)
apart_with P s (x ∷ xs) k n h =
    by_order (AreApart P) (nat_cmp s x) _ _ _ (k, n, h) (λ e. h)
    (h.0, all_with (λ y. x ≢ y) s xs (λ e. n.0 (sym e)) h.1, apart_with P s xs k n.1 h.2)

-- one fewer
all_without : (P : ℕ → Type 0) (s : ℕ) (xs : List ℕ) → AllByRecursion P xs → AllByRecursion P (dicts.without_session xs s)
all_without P s [] h = tt
all_without P s (x ∷ xs) h = by_test (AllByRecursion P) (is_at (nat_cmp s) x) xs (x ∷ dicts.without_session xs s) (λ e. h.1) (λ e. (h.0, all_without P s xs h.1))

apart_and : (P R : ℕ → Type 0) (xs : List ℕ) → AreApart P xs → AllByRecursion R xs → AreApart (λ t. P t × R t) xs
apart_and P R [] h k = tt
apart_and P R (x ∷ xs) h k = ((h.0, k.0), h.1, apart_and P R xs h.2 k.1)

pub apart_without : (P : ℕ → Type 0) (s : ℕ) (xs : List ℕ) → AreApart P xs → AreApart (λ t. P t × (s ≢ t)) (dicts.without_session xs s)
apart_without P s [] h = tt
apart_without P s (x ∷ xs) h =
    by_test (AreApart (λ t. P t × (s ≢ t))) (is_at (nat_cmp s) x) xs (x ∷ dicts.without_session xs s)
    (λ e. apart_and P (λ t. s ≢ t) xs h.2 (all_since (λ y. x ≢ y) (λ y. s ≢ y) (λ y n z. n (sym (same s x e) ∙ z)) xs h.1))
    (λ e. ((h.0, differs s x e), all_without (λ y. x ≢ y) s xs h.1, apart_without P s xs h.2))
