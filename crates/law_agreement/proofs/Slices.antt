-- A slice of a log, as an append packet has it, and a log that it meets: the first conflict, and what is added.
use Rattle.std.proofs.Common.{◌≡◌, ℕ, zero, suc, ◌+◌, ◌-◌, ◌<◌, ◌≤◌, List, [], ◌∷◌, ◌++◌, length, take, drop, refl, ap, sym, ◌∙◌, subst, arith, inl, inr, append_assoc, length-append, length-drop}
use Rattle.std.specs.Prelude.{◌⊎◌, ◌≢◌, Bool, true, false, ◌&&◌, nat_eq, nat_le, Some, None, if◌then◌else◌}
use Rattle.std.proofs.lemmas.List.{take_all}
use Rattle.ax_types.specs.declared.entries.Entry.{Entry}
use Rattle.spec_raft.specs.Log as logs
use Rattle.spec_past.specs.Matching as matchings
use Rattle.law_past.proofs.Logs.{le_or_lt}
use Rattle.law_past.proofs.Growth.{longer_by}
use Rattle.law_agreement.specs.Pasts as pasts
use Rattle.law_agreement.proofs.Members.{some_same, none_some}
use Rattle.law_agreement.proofs.Tests.{equal, unequal, at_most, either, both}

abbrev nothing : List Entry
nothing = []

pub drop_append : (prev : ℕ) (g more : List Entry) → prev ≤ length g → drop prev (g ++ more) ≡ drop prev g ++ more
drop_append zero g more le = refl
drop_append (suc p) [] more le = absurd (omega (arith, le))
drop_append (suc p) (e ∷ g) more le = drop_append p g more (omega (arith, le))

pub take_drop : (p : ℕ) (g : List Entry) → take p g ++ drop p g ≡ g
take_drop zero g = refl
take_drop (suc p) [] = refl
take_drop (suc p) (e ∷ g) = ap (λ l. e ∷ l) (take_drop p g)

-- a log that begins with another is that and more
pub begun : (g h : List Entry) → matchings.Agree g h (length g) → h ≡ g ++ drop (length g) h
begun g h a = sym (take_drop (length g) h) ∙ ap (λ l. l ++ drop (length g) h) (sym a.same ∙ take_all (length g) g (omega arith))

pub slice_grows : (g h : List Entry) (prev : ℕ) (es : List Entry) → matchings.Agree g h (length g) → pasts.Slice g prev es → pasts.Slice h prev es
slice_grows g h prev es a s = record {
  within = omega (arith, s.within, a.right);
  rest = s.rest ++ drop (length g) h;
  same = ap (drop prev) (begun g h a) ∙ drop_append prev g (drop (length g) h) s.within ∙ ap (λ l. l ++ drop (length g) h) s.same ∙ append_assoc es s.rest (drop (length g) h);
}

pub slice_end : (g : List Entry) (prev : ℕ) (es : List Entry) → pasts.Slice g prev es → prev + length es ≤ length g
slice_end g prev es s =
    let a : length (drop prev g) ≡ length es + length s.rest = ap length s.same ∙ length-append es s.rest in
    let b : length (drop prev g) ≡ length g - prev = length-drop prev g in
    omega (arith, a, b, s.within)

term_nil : (n : ℕ) → logs.term_at [] n ≡ 0
term_nil zero = refl
term_nil (suc n) = refl

-- a term after prev is one of what is dropped
pub term_after : (prev i : ℕ) (g : List Entry) → logs.term_at g (prev + suc i) ≡ logs.term_at (drop prev g) (suc i)
term_after zero i g = let e : 0 + suc i ≡ suc i = omega arith in ap (logs.term_at g) e
term_after (suc p) i [] = term_nil (suc p + suc i)
term_after (suc p) i (e ∷ g) =
    let a : suc p + suc i ≡ suc (suc (p + i)) = omega arith in
    let b : suc (p + i) ≡ p + suc i = omega arith in
    ap (logs.term_at (e ∷ g)) a ∙ ap (logs.term_at g) b ∙ term_after p i g

term_front : (es rest : List Entry) (i : ℕ) → i < length es → logs.term_at (es ++ rest) (suc i) ≡ logs.term_at es (suc i)
term_front [] rest i lt = absurd (omega (arith, lt))
term_front (e ∷ es) rest zero lt = refl
term_front (e ∷ es) rest (suc i) lt = term_front es rest i (omega (arith, lt))

pub slice_term : (g : List Entry) (prev : ℕ) (es : List Entry) (i : ℕ) → pasts.Slice g prev es → i < length es → logs.term_at g (prev + suc i) ≡ logs.term_at es (suc i)
slice_term g prev es i s lt = term_after prev i g ∙ ap (λ l. logs.term_at l (suc i)) s.same ∙ term_front es s.rest i lt

-- where a conflict is found, and what differs there
pub record Differs (p : ℕ) (xs es : List Entry) (q : ℕ) : Type 0 where
  pub index : ℕ
  pub place : q ≡ p + suc index
  pub left : index < length xs
  pub right : index < length es
  pub differ : logs.term_at xs (suc index) ≢ logs.term_at es (suc index)

found_cases : (p : ℕ) (x e : Entry) (xs es : List Entry) (q : ℕ) → (logs.conflict_after (suc p) xs es ≡ Some q → Differs (suc p) xs es q) → (b : Bool) → nat_eq x.term e.term ≡ b → (if b then logs.conflict_after (suc p) xs es else Some (suc p)) ≡ Some q → Differs p (x ∷ xs) (e ∷ es) q
found_cases p x e xs es q next true same h =
    let d = next h in
    record { index = suc d.index; place = omega (arith, d.place); left = omega (arith, d.left); right = omega (arith, d.right); differ = d.differ }
found_cases p x e xs es q next false same h =
    let place : suc p ≡ q = some_same (suc p) q h in
    record { index = 0; place = omega (arith, place); left = omega arith; right = omega arith; differ = unequal x.term e.term same }

-- a conflict that is found
pub found : (p : ℕ) (xs es : List Entry) (q : ℕ) → logs.conflict_after p xs es ≡ Some q → Differs p xs es q
found p [] es q h = absurd (none_some q h)
found p (x ∷ xs) [] q h = absurd (none_some q h)
found p (x ∷ xs) (e ∷ es) q h = found_cases p x e xs es q (found (suc p) xs es q) (nat_eq x.term e.term) refl h

free_cases : (p : ℕ) (x e : Entry) (xs es : List Entry) (i : ℕ) → (logs.conflict_after (suc p) xs es ≡ None → (k : ℕ) → k < length xs → k < length es → logs.term_at xs (suc k) ≡ logs.term_at es (suc k)) → (b : Bool) → nat_eq x.term e.term ≡ b → (if b then logs.conflict_after (suc p) xs es else Some (suc p)) ≡ None → i < length (x ∷ xs) → i < length (e ∷ es) → logs.term_at (x ∷ xs) (suc i) ≡ logs.term_at (e ∷ es) (suc i)
free_cases p x e xs es i next false same h a b = absurd (none_some (suc p) (sym h))
free_cases p x e xs es zero next true same h a b = equal x.term e.term same
free_cases p x e xs es (suc i) next true same h a b = next h i (omega (arith, a)) (omega (arith, b))

-- without one the terms are equal as far as both go
pub free : (p : ℕ) (xs es : List Entry) (i : ℕ) → logs.conflict_after p xs es ≡ None → i < length xs → i < length es → logs.term_at xs (suc i) ≡ logs.term_at es (suc i)
free p [] es i h a b = absurd (omega (arith, a))
free p (x ∷ xs) [] i h a b = absurd (omega (arith, b))
free p (x ∷ xs) (e ∷ es) i h a b = free_cases p x e xs es i (λ n k. free (suc p) xs es k n) (nat_eq x.term e.term) refl h a b

-- what a match says
pub matched : (g : List Entry) (prev prev_term : ℕ) → logs.match_at g prev prev_term ≡ true → (prev ≡ 0) ⊎ ((prev ≤ length g) × (logs.term_at g prev ≡ prev_term))
matched g prev prev_term h = elim (either (nat_eq prev 0) (nat_le prev (length g) && nat_eq (logs.term_at g prev) prev_term) h) [
  | inl e ↦ inl (equal prev 0 e)
  | inr e ↦ let b = both (nat_le prev (length g)) (nat_eq (logs.term_at g prev) prev_term) e in inr (at_most prev (length g) b.0, equal (logs.term_at g prev) prev_term b.1)
]

-- a log without a conflict, where its own log holds the slice: at each place after prev, and at prev, the terms are equal
pub same_term : (g h : List Entry) (prev : ℕ) (es : List Entry) (p : ℕ) → pasts.Slice h prev es → logs.match_at g prev (logs.term_at h prev) ≡ true → logs.first_conflict g prev es ≡ None → prev ≤ p → p ≤ length g → p ≤ prev + length es → logs.term_at g p ≡ logs.term_at h p
same_term g h prev es p s m f le a b = elim (le_or_lt p prev) [
  | inl x ↦
      let e : p ≡ prev = omega (arith, le, x) in
      ap (logs.term_at g) e ∙ elim (matched g prev (logs.term_at h prev) m) [ inl z ↦ ap (logs.term_at g) z ∙ sym (ap (logs.term_at h) z) | inr c ↦ c.1 ] ∙ sym (ap (logs.term_at h) e)
  | inr x ↦
      let i = p - suc prev in
      let e : p ≡ prev + suc i = omega (arith, x) in
      let left : length (drop prev g) ≡ length g - prev = length-drop prev g in
      let lt : i < length es = omega (arith, b, x) in
      let lx : i < length (drop prev g) = omega (arith, left, a, x) in
      ap (logs.term_at g) e ∙ term_after prev i g ∙ free prev (drop prev g) es i f lx lt ∙ sym (slice_term h prev es i s lt) ∙ sym (ap (logs.term_at h) e)
]

-- a conflict that is found at a place after prev
pub conflict_at : (g h : List Entry) (prev : ℕ) (es : List Entry) (q : ℕ) → pasts.Slice h prev es → logs.first_conflict g prev es ≡ Some q → (prev < q) × (q ≤ length g) × (q ≤ length h) × (logs.term_at g q ≢ logs.term_at h q)
conflict_at g h prev es q s f =
    let d = found prev (drop prev g) es q f in
    let left : length (drop prev g) ≡ length g - prev = length-drop prev g in
    let end = slice_end h prev es s in (
      omega (arith, d.place),
      omega (arith, d.place, d.left, left),
      omega (arith, d.place, d.right, end),
      λ e. d.differ (sym (term_after prev d.index g) ∙ ap (logs.term_at g) (sym d.place) ∙ e ∙ ap (logs.term_at h) d.place ∙ slice_term h prev es d.index s d.right),
    )

drop_nil : (n : ℕ) → drop n [] ≡ nothing
drop_nil zero = refl
drop_nil (suc n) = refl

drop_more : (a b : ℕ) (g : List Entry) → drop (a + b) g ≡ drop b (drop a g)
drop_more zero b g = let e : 0 + b ≡ b = omega arith in ap (λ n. drop n g) e
drop_more (suc a) b [] = drop_nil (suc a + b) ∙ sym (drop_nil b)
drop_more (suc a) b (e ∷ g) = let s : suc a + b ≡ suc (a + b) = omega arith in ap (λ n. drop n (e ∷ g)) s ∙ drop_more a b g

-- the entries that a log lacks, or the first of them, make it a longer beginning of the log that the slice is of
pub extended : (g h : List Entry) (prev : ℕ) (es : List Entry) (k : ℕ) → pasts.Slice h prev es → matchings.Agree g h (length g) → prev ≤ length g → length g ≤ prev + length es
    → matchings.Agree (g ++ take k (logs.lacking g prev es)) h (length (g ++ take k (logs.lacking g prev es)))
extended g h prev es k s a le lt =
    let d = length g - prev in
    let e : length g ≡ prev + d = omega (arith, le) in
    let tail : drop (length g) h ≡ drop d es ++ s.rest = ap (λ n. drop n h) e ∙ drop_more prev d h ∙ ap (drop d) s.same ∙ drop_append d es s.rest (omega (arith, lt, le)) in
    let parts : drop d es ++ s.rest ≡ take k (drop d es) ++ (drop k (drop d es) ++ s.rest) = ap (λ l. l ++ s.rest) (sym (take_drop k (drop d es))) ∙ append_assoc (take k (drop d es)) (drop k (drop d es)) s.rest in
    let whole : h ≡ (g ++ take k (drop d es)) ++ (drop k (drop d es) ++ s.rest) = begun g h a ∙ ap (λ l. g ++ l) (tail ∙ parts) ∙ sym (append_assoc g (take k (drop d es)) (drop k (drop d es) ++ s.rest)) in
    subst (λ l. matchings.Agree (g ++ take k (drop d es)) l (length (g ++ take k (drop d es)))) (sym whole) (longer_by (g ++ take k (drop d es)) (drop k (drop d es) ++ s.rest))

-- where there is something to add the slice ends after the log
pub lacks_some : (g : List Entry) (prev : ℕ) (es : List Entry) (k : ℕ) → 1 ≤ length (take k (logs.lacking g prev es)) → length g < prev + length es
lacks_some g prev es k some =
    let a : length (drop (length g - prev) es) ≡ length es - (length g - prev) = length-drop (length g - prev) es in
    let b = shorter k (drop (length g - prev) es) in
    omega (arith, a, b, some)
  where
    shorter : (k : ℕ) (l : List Entry) → length (take k l) ≤ length l
    shorter zero l = omega arith
    shorter (suc k) [] = omega arith
    shorter (suc k) (e ∷ l) = let r = shorter k l in omega (arith, r)
