-- A test of each item holds where it holds for each session of the items that are the session's.
use Rattle.std.proofs.Common.{◌≡◌, ℕ, ◌+◌, Bool, true, false, ◌&&◌, ◌||◌, nat_eq, List, [], ◌∷◌, Option, Some, None, refl, sym, ap, ap₂, ◌∙◌, arith}
use Rattle.std.specs.Prelude.{if◌then◌else◌}
use Rattle.std.specs.List.{list_any, list_all}
use Rattle.std.proofs.lemmas.Bool.Decides.{nat_tests}
use Rattle.ax_types.specs.declared.items.Item.{Item}
use Rattle.spec_audit.specs.ItemConditions as item_conditions
use Rattle.law_audit_tables.specs.Digest as digests

-- the test, of the session's own items
abbrev pub own_test : ℕ → (List Item → Item → Bool) → List Item → Item → Bool
own_test s test above x = if digests.is_of s x then test above x else true

all_true : (ss : List ℕ) → list_all (λ s. true) ss ≡ true
all_true [] = refl
all_true (s ∷ ss) = all_true ss

both : (a b c d : Bool) → ((a && b) && (c && d)) ≡ ((a && c) && (b && d))
both true true c d = refl
both true false true d = refl
both true false false d = refl
both false b c d = refl

all_both : (f g : ℕ → Bool) (ss : List ℕ) → list_all (λ s. f s && g s) ss ≡ (list_all f ss && list_all g ss)
all_both f g [] = refl
all_both f g (s ∷ ss) = ap (λ b. (f s && g s) && b) (all_both f g ss) ∙ both (f s) (g s) (list_all f ss) (list_all g ss)

other_way : (s t : ℕ) → nat_eq s t ≡ false → nat_eq t s ≡ false
other_way s t e = grind (arith, nat_tests)

not_first : (t s : ℕ) (ss : List ℕ) → list_any (nat_eq t) (s ∷ ss) ≡ true
    → (list_any (nat_eq t) ss ≡ true → list_all (λ u. if nat_eq u t then false else true) ss ≡ false)
    → list_all (λ u. if nat_eq u t then false else true) (s ∷ ss) ≡ false
not_first t s ss e next = go (nat_eq s t) refl
  where
    rest : Bool
    rest = list_all (λ u. if nat_eq u t then false else true) ss

    go : (a : Bool) → nat_eq s t ≡ a → ((if nat_eq s t then false else true) && rest) ≡ false
    go true f = ap (λ c. (if c then false else true) && rest) f
    go false f = ap (λ c. (if c then false else true) && rest) f ∙ next (sym (ap (λ c. c || list_any (nat_eq t) ss) (other_way s t f)) ∙ e)

-- what is tested for one of the sessions alone
one_named : (t : ℕ) (b : Bool) (ss : List ℕ) → list_any (nat_eq t) ss ≡ true → list_all (λ s. if nat_eq s t then b else true) ss ≡ b
one_named t true ss e = always ss
  where
    either : (a : Bool) → (if a then true else true) ≡ true
    either true = refl
    either false = refl

    always : (us : List ℕ) → list_all (λ s. if nat_eq s t then true else true) us ≡ true
    always [] = refl
    always (u ∷ us) = ap₂ (λ a c. a && c) (either (nat_eq u t)) (always us)
one_named t false [] e = absurd (cc)
one_named t false (s ∷ ss) e = not_first t s ss e (λ f. one_named t false ss f)

first_holds : (a b : Bool) → (a && b) ≡ true → a ≡ true
first_holds true b e = refl
first_holds false b e = absurd (cc)

second_holds : (a b : Bool) → (a && b) ≡ true → b ≡ true
second_holds true b e = e
second_holds false b e = absurd (cc)

pub each_session : (test : List Item → Item → Bool) → ((above : List Item) (x : Item) → digests.session_of x ≡ None → test above x ≡ true)
    → (ss : List ℕ) (above items : List Item) → digests.are_named ss items ≡ true
    → item_conditions.each_below test above items ≡ list_all (λ s. item_conditions.each_below (own_test s test) above items) ss
each_session test others ss above [] named = sym (all_true ss)
each_session test others ss above (x ∷ items) named =
    ap₂ (λ a b. a && b) (sym (one (digests.session_of x) refl)) (each_session test others ss (x ∷ above) items (second_holds (digests.is_named ss (digests.session_of x)) (digests.are_named ss items) named))
    ∙ sym (all_both (λ s. own_test s test above x) (λ s. item_conditions.each_below (own_test s test) (x ∷ above) items) ss)
  where
    here : digests.is_named ss (digests.session_of x) ≡ true
    here = first_holds (digests.is_named ss (digests.session_of x)) (digests.are_named ss items) named

    one : (o : Option ℕ) → digests.session_of x ≡ o → list_all (λ s. own_test s test above x) ss ≡ test above x
    one None e = ap (λ p. list_all (λ s. if digests.is_some_session s p then test above x else true) ss) e ∙ all_true ss ∙ sym (others above x e)
    one (Some t) e =
        ap (λ p. list_all (λ s. if digests.is_some_session s p then test above x else true) ss) e
        ∙ one_named t (test above x) ss (sym (ap (digests.is_named ss) e) ∙ here)
