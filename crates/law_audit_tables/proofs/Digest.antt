-- A walk for one session finds the same in the digest of the items as in the items.
use Rattle.std.proofs.Common.{◌≡◌, ℕ, zero, suc, max, ◌+◌, ◌≤◌, ◌<◌, Bool, true, false, cond, ◌&&◌, ◌||◌, nat_eq, List, [], ◌∷◌, ◌++◌, Option, Some, None, filter, refl, sym, ap, ap₂, ◌∙◌, subst, arith}
use Rattle.std.specs.Prelude.{if◌then◌else◌}
use Rattle.std.proofs.lemmas.Bool.Decides.{nat_tests}
use Rattle.ax_types.specs.declared.items.Item.{Item}
use Rattle.ax_types.specs.declared.items.Item.TheVariants as item
use Rattle.law_audit_tables.specs.Digest as digests

pub same_number : (s t : ℕ) → nat_eq s t ≡ true → s ≡ t
same_number s t e = grind (arith, nat_tests)

committed_more : (c : ℕ) (x : Item) → c ≤ digests.committed c x
committed_more c (item.Commit p) = omega arith
committed_more c x = omega arith

-- ---- a walk with the greatest commit and a state

pub record Walks (s : ℕ) (S : Type 0) (W : ℕ → S → List Item → Bool) : Type 0 where
  pub done : (c d : ℕ) (st : S) → W c st [] ≡ W d st []
  pub skip : (c : ℕ) (st : S) (x : Item) (items : List Item) → digests.is_of s x ≡ false → W c st (x ∷ items) ≡ W (digests.committed c x) st items
  pub same : (c : ℕ) (st : S) (x : Item) (xs ys : List Item) → digests.is_of s x ≡ true → ((t : S) → W c t xs ≡ W c t ys) → W c st (x ∷ xs) ≡ W c st (x ∷ ys)

walk_step : (s : ℕ) (S : Type 0) (W : ℕ → S → List Item → Bool) (k : Walks s S W) (late c : ℕ) (is_next : Bool) (st : S) (x : Item) (items : List Item)
    → (is_next ≡ true → late ≡ c) → late ≤ c
    → ((t : S) → W c t (digests.digest s c true items) ≡ W c t items)
    → W late st (digests.digest s (digests.committed c x) false items) ≡ W (digests.committed c x) st items
    → W late st (digests.digest s c is_next (x ∷ items)) ≡ W c st (x ∷ items)
walk_step s S W k late c is_next st x items e l next later = go (digests.is_of s x) refl
  where
    below : List Item
    below = digests.digest s c true items

    at : Bool → List Item
    at b = if b then digests.gap_items (digests.gap_of is_next c) ++ x ∷ below else digests.digest s (digests.committed c x) false items

    stays : digests.is_of s x ≡ true → W c st (x ∷ below) ≡ W c st (x ∷ items)
    stays f = k.same c st x below items f next

    own : digests.is_of s x ≡ true → (n : Bool) → (n ≡ true → late ≡ c) → W late st (digests.gap_items (digests.gap_of n c) ++ x ∷ below) ≡ W c st (x ∷ items)
    own f true g = ap (λ m. W m st (x ∷ below)) (g refl) ∙ stays f
    own f false g =
        let m : max late c ≡ c = omega (arith, l) in
        k.skip late st (item.Commit c) (x ∷ below) refl ∙ ap (λ n. W n st (x ∷ below)) m ∙ stays f

    go : (b : Bool) → digests.is_of s x ≡ b → W late st (digests.digest s c is_next (x ∷ items)) ≡ W c st (x ∷ items)
    go true f = ap (λ b. W late st (at b)) f ∙ own f is_next e
    go false f = ap (λ b. W late st (at b)) f ∙ later ∙ sym (k.skip c st x items f)

pub walk_digest : (s : ℕ) (S : Type 0) (W : ℕ → S → List Item → Bool) (k : Walks s S W) (late c : ℕ) (is_next : Bool) (st : S) (items : List Item)
    → (is_next ≡ true → late ≡ c) → late ≤ c → W late st (digests.digest s c is_next items) ≡ W c st items
walk_digest s S W k late c is_next st [] e l = k.done late c st
walk_digest s S W k late c is_next st (x ∷ items) e l =
    walk_step s S W k late c is_next st x items e l
    (λ t. walk_digest s S W k c c true t items (λ g. refl) (omega arith))
    (walk_digest s S W k late (digests.committed c x) false st items (λ g. absurd (cc)) (let a = committed_more c x in omega (arith, a, l)))

-- ---- the seen items of a session are the digest

keeps_commit : (c t : ℕ) (x : Item) → digests.session_of x ≡ Some t → digests.committed c x ≡ c
keeps_commit c t (item.Commit p) e = absurd (cc)
keeps_commit c t x e = refl

abbrev pub SeenDigest : ℕ → ℕ → Option ℕ → List Item → Type 0
SeenDigest s c last items = digests.shown (filter (λ e. nat_eq s e.0) (digests.seen_from c last items)) ≡ digests.digest s c (digests.is_some_session s last) items

seen_step : (s c : ℕ) (last : Option ℕ) (x : Item) (items : List Item) → ((m : ℕ) (o : Option ℕ) → SeenDigest s m o items) → SeenDigest s c last (x ∷ items)
seen_step s c last x items next = go (digests.session_of x) refl
  where
    own : List Item
    own = digests.gap_items (digests.gap_of (digests.is_some_session s last) c) ++ x ∷ digests.digest s c true items

    others : List Item
    others = digests.digest s (digests.committed c x) false items

    of : Option ℕ → List Item
    of o = if digests.is_some_session s o then own else others

    seen : Option ℕ → List Item
    seen o = digests.shown (filter (λ e. nat_eq s e.0) (digests.seen_of c last x o ++ digests.seen_from (digests.commit_past c x o) o items))

    rest : ℕ → List (ℕ × digests.Seen)
    rest t = filter (λ e. nat_eq s e.0) (digests.seen_from c (Some t) items)

    one : ℕ → ℕ × digests.Seen
    one t = (t, record { gap = digests.gap_of (digests.is_some_session t last) c; item = x })

    some : (t : ℕ) → digests.session_of x ≡ Some t → (b : Bool) → nat_eq s t ≡ b → seen (Some t) ≡ of (Some t)
    some t e true f =
        ap (λ b. digests.shown (cond b (one t ∷ rest t) (rest t))) f
        ∙ ap (λ r. digests.gap_items (digests.gap_of (digests.is_some_session r last) c) ++ x ∷ digests.shown (rest t)) (sym (same_number s t f))
        ∙ ap (λ ys. digests.gap_items (digests.gap_of (digests.is_some_session s last) c) ++ x ∷ ys) (next c (Some t) ∙ ap (λ b. digests.digest s c b items) f)
        ∙ sym (ap (λ b. if b then own else others) f)
    some t e false f =
        ap (λ b. digests.shown (cond b (one t ∷ rest t) (rest t))) f
        ∙ next c (Some t)
        ∙ ap₂ (λ m b. digests.digest s m b items) (sym (keeps_commit c t x e)) f
        ∙ sym (ap (λ b. if b then own else others) f)

    go : (o : Option ℕ) → digests.session_of x ≡ o → seen (digests.session_of x) ≡ of (digests.session_of x)
    go None e = ap seen e ∙ next (digests.committed c x) None ∙ sym (ap of e)
    go (Some t) e = ap seen e ∙ some t e (nat_eq s t) refl ∙ sym (ap of e)

pub seen_digest : (s c : ℕ) (last : Option ℕ) (items : List Item) → SeenDigest s c last items
seen_digest s c last [] = refl
seen_digest s c last (x ∷ items) = seen_step s c last x items (λ m o. seen_digest s m o items)
