-- The newest of some stores.
use Rattle.std.proofs.Common.{◌≡◌, ℕ, zero, suc, ◌+◌, ◌≤◌, ◌<◌, List, [], ◌∷◌, length, refl, ap, sym, ◌∙◌, subst, arith, inl, inr}
use Rattle.std.specs.Prelude.{◌⊎◌, Bool, true, false, cond, ◌&&◌, ◌||◌, nat_eq, nat_lt, nat_le, Option, Some, None, filter, slice_get, if◌then◌else◌}
use Rattle.std.specs.List.{AllByRecursion}
use Rattle.std.proofs.lemmas.Bool.Decides.{nat_tests}
use Rattle.ax_types.specs.Places as lists
use Rattle.ax_types.specs.declared.entries.Entry.{Entry}
use Rattle.ax_types.specs.declared.entries.Loaded.{Loaded}
use Rattle.spec_raft.specs.Majority as majorities
use Rattle.spec_raft.specs.Log as logs
use Rattle.spec_run.specs.KeptStores as kept_stores
use Rattle.law_refinement.proofs.Tests.{by_test}
use Rattle.law_growth.proofs.Cases.{none_some, some_same}

-- one log is at most as new as another
pub record IsUpTo (a b : List Entry) : Type 0 where
  pub terms : logs.last_term a ≤ logs.last_term b
  pub long : logs.last_term a ≡ logs.last_term b → length a ≤ length b

same_as : (a : List Entry) → IsUpTo a a
same_as a = record { terms = omega arith; long = λ e. omega arith }

through : (a b c : List Entry) → IsUpTo a b → IsUpTo b c → IsUpTo a c
through a b c x y = record { terms = omega (arith, x.terms, y.terms); long = λ e. let f : logs.last_term a ≡ logs.last_term b = omega (arith, x.terms, y.terms, e) in let g : logs.last_term b ≡ logs.last_term c = omega (arith, f, e) in let p = x.long f in let q = y.long g in omega (arith, p, q) }

either : (a b : Bool) → (a || b) ≡ true → (a ≡ true) ⊎ (b ≡ true)
either true b e = inl refl
either false b e = inr e

neither : (a b : Bool) → (a || b) ≡ false → (a ≡ false) × (b ≡ false)
neither true b e = absurd (cc (e))
neither false b e = (refl, e)

pub newer : (a b : Loaded) → kept_stores.is_newer a b ≡ true → IsUpTo b.log a.log
newer a b e = elim (either (nat_lt (logs.last_term b.log) (logs.last_term a.log)) (nat_eq (logs.last_term a.log) (logs.last_term b.log) && nat_lt (length b.log) (length a.log)) e) [
  | inl f ↦ (let h : logs.last_term b.log < logs.last_term a.log = grind (arith, nat_tests, f) in record { terms = omega (arith, h); long = λ s. absurd (omega (arith, h, s)) })
  | inr f ↦ record { terms = grind (arith, nat_tests, f); long = λ s. grind (arith, nat_tests, f) }
]

pub not_newer : (a b : Loaded) → kept_stores.is_newer a b ≡ false → IsUpTo a.log b.log
not_newer a b e =
    let p = neither (nat_lt (logs.last_term b.log) (logs.last_term a.log)) (nat_eq (logs.last_term a.log) (logs.last_term b.log) && nat_lt (length b.log) (length a.log)) e in
    let first = p.0 in let second = p.1 in
    record { terms = grind (arith, nat_tests, first); long = λ s. grind (arith, nat_tests, second, s) }

pub as_new : (a b : List Entry) → IsUpTo a b → logs.newer_or_equal a (logs.last_term b) (length b) ≡ true
as_new a b h = by_bool (nat_lt (logs.last_term a) (logs.last_term b)) refl
  where
    by_bool : (c : Bool) → nat_lt (logs.last_term a) (logs.last_term b) ≡ c → (nat_lt (logs.last_term a) (logs.last_term b) || (nat_eq (logs.last_term b) (logs.last_term a) && nat_le (length a) (length b))) ≡ true
    by_bool true e = ap (λ c. c || (nat_eq (logs.last_term b) (logs.last_term a) && nat_le (length a) (length b))) e
    by_bool false e =
        let t = h.terms in
        let same : logs.last_term a ≡ logs.last_term b = grind (arith, nat_tests, e, t) in
        let long = h.long same in
        let one : nat_eq (logs.last_term b) (logs.last_term a) ≡ true = grind (arith, nat_tests, same) in
        let two : nat_le (length a) (length b) ≡ true = grind (arith, nat_tests, long) in
        ap (λ c. c || (nat_eq (logs.last_term b) (logs.last_term a) && nat_le (length a) (length b))) e ∙ ap (λ c. c && nat_le (length a) (length b)) one ∙ two

-- each is at most as new as the newest, which is one of them
pub record IsNewest (best : kept_stores.FoundStore) (found : List kept_stores.FoundStore) (r : kept_stores.FoundStore) : Type 0 where
  pub first : IsUpTo best.content.log r.content.log
  pub rest : AllByRecursion (λ f. IsUpTo f.content.log r.content.log) found

pub newest_from : (best : kept_stores.FoundStore) (found : List kept_stores.FoundStore) → IsNewest best found (kept_stores.newest_from best found)
newest_from best [] = record { first = same_as best.content.log; rest = tt }
newest_from best (f ∷ found) =
    by_test (IsNewest best (f ∷ found)) (kept_stores.is_newer f.content best.content) (kept_stores.newest_from f found) (kept_stores.newest_from best found)
    (λ e. let r = newest_from f found in record { first = through best.content.log f.content.log (kept_stores.newest_from f found).content.log (newer f.content best.content e) r.first; rest = (r.first, r.rest) })
    (λ e. let r = newest_from best found in record { first = r.first; rest = (through f.content.log best.content.log (kept_stores.newest_from best found).content.log (not_newer f.content best.content e) r.first, r.rest) })

pub newest_passes : (P : kept_stores.FoundStore → Type 0) (best : kept_stores.FoundStore) (found : List kept_stores.FoundStore) → P best → AllByRecursion P found → P (kept_stores.newest_from best found)
newest_passes P best [] h k = h
newest_passes P best (f ∷ found) h k =
    by_test P (kept_stores.is_newer f.content best.content) (kept_stores.newest_from f found) (kept_stores.newest_from best found) (λ e. newest_passes P f found k.0 k.1) (λ e. newest_passes P best found h k.1)

-- the stores that are chosen
abbrev chosen_from : (ℕ → Bool) → ℕ → List Loaded → List kept_stores.FoundStore
chosen_from choice a cs = filter (λ f. choice f.node) (kept_stores.numbered_from a cs)

by_cond : (P : List kept_stores.FoundStore → Type 0) (b : Bool) (xs ys : List kept_stores.FoundStore) → (b ≡ true → P xs) → (b ≡ false → P ys) → P (cond b xs ys)
by_cond P true xs ys f g = f refl
by_cond P false xs ys f g = g refl

-- each is one that is chosen, at its place
pub record IsChosen (choice : ℕ → Bool) (contents : List Loaded) (f : kept_stores.FoundStore) : Type 0 where
  pub is_chosen : choice f.node ≡ true
  pub there : lists.at_place contents f.node ≡ Some f.content

record IsChosenAt (choice : ℕ → Bool) (a : ℕ) (cs : List Loaded) (f : kept_stores.FoundStore) : Type 0 where
  is_chosen : choice f.node ≡ true
  place : ℕ
  node : f.node ≡ a + place
  there : slice_get cs place ≡ Some f.content

all_more : {X : Type 0} (P R : X → Type 0) → ((x : X) → P x → R x) → (xs : List X) → AllByRecursion P xs → AllByRecursion R xs
all_more P R f [] h = tt
all_more P R f (x ∷ xs) h = (f x h.0, all_more P R f xs h.1)

chosen_at : (choice : ℕ → Bool) (a : ℕ) (cs : List Loaded) → AllByRecursion (IsChosenAt choice a cs) (chosen_from choice a cs)
chosen_at choice a [] = tt
chosen_at choice a (c ∷ cs) =
    let x : kept_stores.FoundStore = record { node = a; content = c } in
    let rest : AllByRecursion (IsChosenAt choice a (c ∷ cs)) (chosen_from choice (suc a) cs) = all_more (IsChosenAt choice (suc a) cs) (IsChosenAt choice a (c ∷ cs))
    (λ f h. let e = h.node in record { is_chosen = h.is_chosen; place = suc h.place; node = (let q : f.node ≡ a + suc h.place = omega (arith, e) in q); there = h.there }) (chosen_from choice (suc a) cs) (chosen_at choice (suc a) cs) in
    by_cond (AllByRecursion (IsChosenAt choice a (c ∷ cs))) (choice a) (x ∷ chosen_from choice (suc a) cs) (chosen_from choice (suc a) cs)
    (λ e. (record { is_chosen = e; place = 0; node = (let q : a ≡ a + 0 = omega arith in q); there = refl }, rest)) (λ e. rest)

pub all_chosen : (choice : ℕ → Bool) (contents : List Loaded) → AllByRecursion (IsChosen choice contents) (kept_stores.chosen choice contents)
all_chosen choice contents = all_more (IsChosenAt choice 1 contents) (IsChosen choice contents)
    (λ f h. let e = h.node in record { is_chosen = h.is_chosen; there = ap (lists.at_place contents) (let q : f.node ≡ suc h.place = omega (arith, e) in q) ∙ h.there }) (kept_stores.chosen choice contents) (chosen_at choice 1 contents)

-- and each that is chosen is among them
has_from : (P : kept_stores.FoundStore → Type 0) (choice : ℕ → Bool) (a j : ℕ) (cs : List Loaded) (c : Loaded) → AllByRecursion P (chosen_from choice a cs) → slice_get cs j ≡ Some c → choice (a + j) ≡ true → P (record { node = a + j; content = c })
has_from P choice a j [] c all e t = none_some c e
has_from P choice a zero (x ∷ cs) c all e t =
    let place : a + 0 ≡ a = omega arith in
    let here : choice a ≡ true = ap choice (sym place) ∙ t in
    let head : P (record { node = a; content = x }) = (subst (λ b. AllByRecursion P (cond b (record { node = a; content = x } ∷ chosen_from choice (suc a) cs) (chosen_from choice (suc a) cs))) here all).0 in
    subst (λ n. P (record { node = n; content = c })) (sym place) (subst (λ y. P (record { node = a; content = y })) (some_same x c e) head)
has_from P choice a (suc j) (x ∷ cs) c all e t =
    let place : suc a + j ≡ a + suc j = omega arith in
    subst (λ n. P (record { node = n; content = c })) place (has_from P choice (suc a) j cs c (tail (choice a) all) e (ap choice place ∙ t))
  where
    tail : (b : Bool) → AllByRecursion P (cond b (record { node = a; content = x } ∷ chosen_from choice (suc a) cs) (chosen_from choice (suc a) cs)) → AllByRecursion P (chosen_from choice (suc a) cs)
    tail true h = h.1
    tail false h = h

pub has_chosen : (P : kept_stores.FoundStore → Type 0) (choice : ℕ → Bool) (contents : List Loaded) (k : ℕ) (c : Loaded) → AllByRecursion P (kept_stores.chosen choice contents) → lists.at_place contents k ≡ Some c → choice k ≡ true → P (record { node = k; content = c })
has_chosen P choice contents zero c all e t = none_some c e
has_chosen P choice contents (suc j) c all e t =
    let place : 1 + j ≡ suc j = omega arith in
    subst (λ n. P (record { node = n; content = c })) place (has_from P choice 1 j contents c all e (ap choice place ∙ t))

-- how many are chosen
counted_from : (choice : ℕ → Bool) (a : ℕ) (cs : List Loaded) → majorities.count choice (lists.numbers_from a (length cs)) ≡ length (chosen_from choice a cs)
counted_from choice a [] = refl
counted_from choice a (c ∷ cs) = by_bool (choice a) (counted_from choice (suc a) cs)
  where
    by_bool : (b : Bool) → majorities.count choice (lists.numbers_from (suc a) (length cs)) ≡ length (chosen_from choice (suc a) cs)
        → (if b then 1 else 0) + majorities.count choice (lists.numbers_from (suc a) (length cs)) ≡ length (cond b (record { node = a; content = c } ∷ chosen_from choice (suc a) cs) (chosen_from choice (suc a) cs))
    by_bool true r = omega (arith, r)
    by_bool false r = omega (arith, r)

pub counted : (choice : ℕ → Bool) (contents : List Loaded) → majorities.count choice (majorities.cluster_of (length contents)) ≡ length (kept_stores.chosen choice contents)
counted choice contents = counted_from choice 1 contents
