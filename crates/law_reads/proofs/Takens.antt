-- Lists of reads, by place.
use Rattle.std.proofs.Common.{◌≡◌, ℕ, zero, suc, ◌+◌, List, [], ◌∷◌, ◌++◌, length, map, refl, ap, ◌∙◌, subst, arith}
use Rattle.std.specs.Prelude.{◌≢◌, Bool, true, false, cond, filter, nat_eq, Some}
use Rattle.ax_types.specs.Places as lists
use Rattle.spec_cluster.specs.Cluster as clusters
use Rattle.law_agreement.specs.Pasts as pasts
use Rattle.law_agreement.proofs.Members.{some_same, none_some}
use Rattle.law_agreement.proofs.Tests.{is_equal, is_unequal}
use Rattle.law_reads.specs.Reads as laws
use Rattle.law_reads.specs.Service as services

-- what stands at a place stands there when the list grows
pub stays_at : {X : Type 0} (xs ys : List X) (p : ℕ) (x : X) → lists.at_place xs p ≡ Some x → lists.at_place (xs ++ ys) p ≡ Some x
stays_at xs ys zero x h = absurd (none_some x h)
stays_at [] ys (suc p) x h = absurd (none_some x h)
stays_at (z ∷ xs) ys (suc zero) x h = h
stays_at (z ∷ xs) ys (suc (suc p)) x h = stays_at xs ys (suc p) x h

-- the one that was added
pub last_at : {X : Type 0} (xs : List X) (x : X) → lists.at_place (xs ++ x ∷ []) (suc (length xs)) ≡ Some x
last_at [] x = refl
last_at (z ∷ xs) x = last_at xs x

-- what stands in a list that grew stood there, or is one of those added
pub was_or_new : {X : Type 0} (P : X → Type 0) (xs ys : List X) (p : ℕ) (x : X) → lists.at_place (xs ++ ys) p ≡ Some x → ((q : ℕ) → lists.at_place xs q ≡ Some x → P x) → pasts.Each P ys → P x
was_or_new P xs ys zero x h old new = absurd (none_some x h)
was_or_new P [] [] (suc p) x h old new = absurd (none_some x h)
was_or_new P [] (y ∷ ys) (suc zero) x h old new = subst P (some_same y x h) new.0
was_or_new P [] (y ∷ ys) (suc (suc p)) x h old new = was_or_new P [] ys (suc p) x h (λ q e. old q e) new.1
was_or_new P (z ∷ xs) ys (suc zero) x h old new = old 1 h
was_or_new P (z ∷ xs) ys (suc (suc p)) x h old new = was_or_new P xs ys (suc p) x h (λ q e. old_at q e) new
  where
    old_at : (q : ℕ) → lists.at_place xs q ≡ Some x → P x
    old_at zero e = absurd (none_some x e)
    old_at (suc q) e = old (suc (suc q)) e

pub each_more : {X : Type 0} (P Q : X → Type 0) (xs : List X) → ((x : X) → P x → Q x) → pasts.Each P xs → pasts.Each Q xs
each_more P Q [] f e = e
each_more P Q (x ∷ xs) f e = (f x e.0, each_more P Q xs f e.1)

pub each_append : {X : Type 0} (P : X → Type 0) (xs ys : List X) → pasts.Each P xs → pasts.Each P ys → pasts.Each P (xs ++ ys)
each_append P [] ys a b = b
each_append P (x ∷ xs) ys a b = (a.0, each_append P xs ys a.1 b)

each_cond : {X : Type 0} (P : X → Type 0) (x : X) (xs : List X) (b : Bool) → P x → pasts.Each P xs → pasts.Each P (cond b (x ∷ xs) xs)
each_cond P x xs true a r = (a, r)
each_cond P x xs false a r = r

pub each_filter : {X : Type 0} (P : X → Type 0) (f : X → Bool) (xs : List X) → pasts.Each P xs → pasts.Each P (filter f xs)
each_filter P f [] e = e
each_filter P f (x ∷ xs) e = each_cond P x (filter f xs) (f x) e.0 (each_filter P f xs e.1)

each_cond_passing : {X : Type 0} (P : X → Type 0) (f : X → Bool) (x : X) (xs : List X) (b : Bool) → f x ≡ b → P x → pasts.Each (λ y. P y × (f y ≡ true)) xs → pasts.Each (λ y. P y × (f y ≡ true)) (cond b (x ∷ xs) xs)
each_cond_passing P f x xs true e a r = ((a, e), r)
each_cond_passing P f x xs false e a r = r

-- those that a filter leaves pass
pub each_passing : {X : Type 0} (P : X → Type 0) (f : X → Bool) (xs : List X) → pasts.Each P xs → pasts.Each (λ y. P y × (f y ≡ true)) (filter f xs)
each_passing P f [] e = tt
each_passing P f (x ∷ xs) e = each_cond_passing P f x (filter f xs) (f x) refl e.0 (each_passing P f xs e.1)

-- the read at a place
pub read_at : (P : services.Read → Type 0) (rs : List services.Read) (p : ℕ) (t : clusters.ReadTaken) → pasts.Each P rs → lists.at_place (map (λ r. r.taken) rs) p ≡ Some t → (r : services.Read) × (r.taken ≡ t) × P r
read_at P rs zero t e h = absurd (none_some t h)
read_at P [] (suc p) t e h = absurd (none_some t h)
read_at P (r ∷ rs) (suc zero) t e h = (r, some_same r.taken t h, e.0)
read_at P (r ∷ rs) (suc (suc p)) t e h = read_at P rs (suc p) t e.1 h

-- the reads of a term when one more is taken
of_cases : (t : ℕ) (z : clusters.ReadTaken) (xs : List clusters.ReadTaken) (y : clusters.ReadTaken) (b : Bool) → laws.of_term t (xs ++ y ∷ []) ≡ laws.of_term t xs ++ laws.of_term t (y ∷ []) → cond b (z ∷ laws.of_term t (xs ++ y ∷ [])) (laws.of_term t (xs ++ y ∷ [])) ≡ cond b (z ∷ laws.of_term t xs) (laws.of_term t xs) ++ laws.of_term t (y ∷ [])
of_cases t z xs y true e = ap (λ l. z ∷ l) e
of_cases t z xs y false e = e

pub of_more : (t : ℕ) (xs : List clusters.ReadTaken) (y : clusters.ReadTaken) → laws.of_term t (xs ++ y ∷ []) ≡ laws.of_term t xs ++ laws.of_term t (y ∷ [])
of_more t [] y = refl
of_more t (z ∷ xs) y = of_cases t z xs y (nat_eq z.term t) (of_more t xs y)

pub of_own : (t : ℕ) (y : clusters.ReadTaken) → y.term ≡ t → laws.of_term t (y ∷ []) ≡ y ∷ []
of_own t y e = ap (λ b. cond b (y ∷ []) []) (is_equal y.term t e)

pub of_other : (t : ℕ) (y : clusters.ReadTaken) → y.term ≢ t → laws.of_term t (y ∷ []) ≡ []
of_other t y ne = ap (λ b. cond b (y ∷ []) []) (is_unequal y.term t ne)

-- where none is of a term
pub of_none : (t : ℕ) (xs : List clusters.ReadTaken) → pasts.Each (λ x. x.term ≢ t) xs → laws.of_term t xs ≡ []
of_none t [] e = refl
of_none t (x ∷ xs) e = ap (λ b. cond b (x ∷ laws.of_term t xs) (laws.of_term t xs)) (is_unequal x.term t e.0) ∙ of_none t xs e.1

pub map_more : {X Y : Type 0} (f : X → Y) (xs ys : List X) → map f (xs ++ ys) ≡ map f xs ++ map f ys
map_more f [] ys = refl
map_more f (x ∷ xs) ys = ap (λ l. f x ∷ l) (map_more f xs ys)

-- one number more
pub numbers_more : (a k : ℕ) → lists.numbers_from a k ++ (a + k) ∷ [] ≡ lists.numbers_from a (suc k)
numbers_more a zero = let e : a + 0 ≡ a = omega arith in ap (λ m. m ∷ []) e
numbers_more a (suc k) = let e : a + suc k ≡ suc a + k = omega arith in ap (λ m. a ∷ (lists.numbers_from (suc a) k ++ m ∷ [])) e ∙ ap (λ l. a ∷ l) (numbers_more (suc a) k)
