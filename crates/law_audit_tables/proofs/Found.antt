-- The least session of some does not depend on their order and number, and the verdict is that of what was found.
use Rattle.std.proofs.Common.{◌≡◌, ℕ, ◌+◌, ◌≤◌, ◌<◌, Bool, true, false, cond, not, ◌&&◌, ◌||◌, nat_eq, nat_lt, List, [], ◌∷◌, Option, Some, None, filter, refl, sym, ap, ap₂, ◌∙◌, arith}
use Rattle.std.specs.Prelude.{if◌then◌else◌}
use Rattle.std.specs.List.{list_any}
use Rattle.std.proofs.lemmas.Bool.Decides.{nat_tests}
use Rattle.ax_types.specs.declared.findings.Clause.{Clause}
use Rattle.ax_types.specs.declared.findings.Clause.TheVariants as clause
use Rattle.ax_types.specs.declared.findings.Verdict.{Verdict}
use Rattle.ax_types.specs.declared.findings.Verdict.TheVariants as verdict
use Rattle.spec_audit.specs.Audit as audits
use Rattle.law_audit_tables.specs.Found as found
use Rattle.law_audit_tables.proofs.Digest.{same_number}

same_itself : (s : ℕ) → nat_eq s s ≡ true
same_itself s = grind (arith, nat_tests)

-- ---- members

abbrev KeptHas : (ℕ → Bool) → ℕ → List ℕ → Type 0
KeptHas f t xs = list_any (nat_eq t) (filter f xs) ≡ (f t && list_any (nat_eq t) xs)

kept_step : (f : ℕ → Bool) (t x : ℕ) (xs : List ℕ) → KeptHas f t xs → KeptHas f t (x ∷ xs)
kept_step f t x xs next = go (f x) refl (nat_eq t x) refl
  where
    kept : List ℕ
    kept = filter f xs

    at : Bool → Bool
    at b = list_any (nat_eq t) (cond b (x ∷ kept) kept)

    all : Bool → Bool → Bool
    all b c = b && (c || list_any (nat_eq t) xs)

    go : (b : Bool) → f x ≡ b → (c : Bool) → nat_eq t x ≡ c → at (f x) ≡ all (f t) (nat_eq t x)
    go true e true g = ap at e ∙ ap (λ d. d || list_any (nat_eq t) kept) g ∙ sym (ap₂ all (ap f (same_number t x g) ∙ e) g)
    go true e false g = ap at e ∙ ap (λ d. d || list_any (nat_eq t) kept) g ∙ next ∙ sym (ap (all (f t)) g)
    go false e true g =
        let k : f t ≡ false = ap f (same_number t x g) ∙ e in
        ap at e ∙ next ∙ ap (λ d. d && list_any (nat_eq t) xs) k ∙ sym (ap₂ all k g)
    go false e false g = ap at e ∙ next ∙ sym (ap (all (f t)) g)

kept_has : (f : ℕ → Bool) (t : ℕ) (xs : List ℕ) → KeptHas f t xs
kept_has f t [] = none (f t)
  where
    none : (b : Bool) → false ≡ (b && false)
    none true = refl
    none false = refl
kept_has f t (x ∷ xs) = kept_step f t x xs (kept_has f t xs)

-- ---- the least

record IsLeast (xs : List ℕ) (m : ℕ) : Type 0 where
  has : list_any (nat_eq m) xs ≡ true
  below : (t : ℕ) → list_any (nat_eq t) xs ≡ true → m ≤ t

abbrev Tells : List ℕ → Option ℕ → Type 0
Tells xs None = (t : ℕ) → list_any (nat_eq t) xs ≡ false
Tells xs (Some m) = IsLeast xs m

least_tells : (xs : List ℕ) → Tells xs (audits.least_session xs)
least_tells [] = λ t. refl
least_tells (x ∷ xs) = go (audits.least_session xs) (least_tells xs)
  where
    lesser : ℕ → Option ℕ → ℕ
    lesser s None = s
    lesser s (Some t) = if nat_lt t s then t else s

    after : (a b : Bool) → (a || b) ≡ true → a ≡ false → b ≡ true
    after true b e f = absurd (cc)
    after false b e f = e

    or_true : (a b : Bool) → b ≡ true → (a || b) ≡ true
    or_true true b e = refl
    or_true false b e = e

    first : list_any (nat_eq x) (x ∷ xs) ≡ true
    first = ap (λ b. b || list_any (nat_eq x) xs) (same_itself x)

    least : (k : ℕ) → IsLeast xs k → (b : Bool) → nat_lt k x ≡ b → IsLeast (x ∷ xs) (if b then k else x)
    least k d true e = record {
      has = or_true (nat_eq k x) (list_any (nat_eq k) xs) d.has;
      below = λ t h. at t h (nat_eq t x) refl;
    }
      where
        l : k < x
        l = grind (arith, nat_tests)

        at : (t : ℕ) → list_any (nat_eq t) (x ∷ xs) ≡ true → (c : Bool) → nat_eq t x ≡ c → k ≤ t
        at t h true g = let i : t ≡ x = same_number t x g in omega (arith, i, l)
        at t h false g = d.below t (after (nat_eq t x) (list_any (nat_eq t) xs) h g)
    least k d false e = record {
      has = first;
      below = λ t h. at t h (nat_eq t x) refl;
    }
      where
        l : x ≤ k
        l = grind (arith, nat_tests)

        at : (t : ℕ) → list_any (nat_eq t) (x ∷ xs) ≡ true → (c : Bool) → nat_eq t x ≡ c → x ≤ t
        at t h true g = let i : t ≡ x = same_number t x g in omega (arith, i)
        at t h false g = let j = d.below t (after (nat_eq t x) (list_any (nat_eq t) xs) h g) in omega (arith, j, l)

    go : (o : Option ℕ) → Tells xs o → IsLeast (x ∷ xs) (lesser x o)
    go None d = record { has = first; below = λ t h. at t h (nat_eq t x) refl }
      where
        at : (t : ℕ) → list_any (nat_eq t) (x ∷ xs) ≡ true → (c : Bool) → nat_eq t x ≡ c → x ≤ t
        at t h true g = let i : t ≡ x = same_number t x g in omega (arith, i)
        at t h false g = absurd (let i = after (nat_eq t x) (list_any (nat_eq t) xs) h g in let j = d t in cc)
    go (Some k) d = least k d (nat_lt k x) refl

least_same : (xs ys : List ℕ) → found.AreSameSessions xs ys → audits.least_session xs ≡ audits.least_session ys
least_same xs ys same = go (audits.least_session xs) (least_tells xs) (audits.least_session ys) (least_tells ys)
  where
    go : (o : Option ℕ) → Tells xs o → (p : Option ℕ) → Tells ys p → o ≡ p
    go None d None e = refl
    go None d (Some m) e = absurd (let i = sym (d m) ∙ same m ∙ e.has in cc)
    go (Some m) d None e = absurd (let i = sym (e m) ∙ sym (same m) ∙ d.has in cc)
    go (Some m) d (Some n) e =
        let a : m ≤ n = d.below n (same n ∙ e.has) in
        let b : n ≤ m = e.below m (sym (same m) ∙ d.has) in
        ap Some (omega (arith, a, b))

breaking_same : (holds : ℕ → Bool) (xs ys : List ℕ) → found.AreSameSessions xs ys → found.least_breaking holds xs ≡ found.least_breaking holds ys
breaking_same holds xs ys same =
    least_same (filter (λ s. not (holds s)) xs) (filter (λ s. not (holds s)) ys)
    (λ t. kept_has (λ s. not (holds s)) t xs ∙ ap (λ b. not (holds t) && b) (same t) ∙ sym (kept_has (λ s. not (holds s)) t ys))

-- ---- the verdict

of_whole : (b : Bool) (xs : List ℕ) → found.unless b ≡ (if b then audits.least_session (filter (λ s. not true) xs) else Some 0)
of_whole true xs = sym (ap audits.least_session (none xs))
  where
    none : (ys : List ℕ) → filter (λ s. not true) ys ≡ []
    none [] = refl
    none (y ∷ ys) = none ys
of_whole false xs = refl

pub verdict_is_found : found.VerdictIsFound
verdict_is_found timeout a ss same =
    ap₂ (audits.or_later clause.Lawful) (whole clause.Lawful) (ap₂ (audits.or_later clause.Right) (whole clause.Right) (ap₂ (audits.or_later clause.Length) (whole clause.Length)
    (ap₂ (audits.or_later clause.Fresh) (whole clause.Fresh) (ap₂ (audits.or_later clause.Once) (one clause.Once) (ap₂ (audits.or_later clause.Growing) (one clause.Growing)
    (ap₂ (audits.or_later clause.Heard) (one clause.Heard) (ap₂ (audits.or_later clause.Outcomes) (one clause.Outcomes) (ap₂ (audits.or_later clause.Ends) (one clause.Ends)
    (ap (λ o. audits.or_later clause.Waiting o verdict.Faithful) (whole clause.Waiting))))))))))
  where
    whole : (c : Clause) → found.unless (audits.whole_holds timeout a c) ≡ (if audits.whole_holds timeout a c then audits.least_session (filter (λ s. not true) (audits.sessions a)) else Some 0)
    whole c = of_whole (audits.whole_holds timeout a c) (audits.sessions a)

    one : (c : Clause) → found.least_breaking (audits.session_holds a c) ss ≡ found.least_breaking (audits.session_holds a c) (audits.sessions a)
    one c = breaking_same (audits.session_holds a c) ss (audits.sessions a) same
