-- A session's calls as the items tell them.
use Rattle.std.proofs.Common.{◌≡◌, ℕ, suc, cond, ◌≤◌, ◌<◌, ◌+◌, Bool, true, false, nat_eq, List, [], ◌∷◌, ◌++◌, refl, sym, ap, ap₂, ◌∙◌, subst, arith, length, count_by, inl, inr, ⊎_elim}
use Rattle.std.specs.Prelude.{◌⊎◌, if◌then◌else◌}
use Rattle.std.specs.List.{list_any}
use Rattle.std.proofs.lemmas.Bool.Decides.{nat_tests}
use Rattle.ax_types.specs.declared.ops.WindowCall.{WindowCall}
use Rattle.ax_types.specs.declared.items.Item.{Item}
use Rattle.ax_types.specs.declared.items.Item.TheVariants as item
use Rattle.spec_book.specs.History as histories
use Rattle.spec_claims.specs.Transcript as transcripts
use Rattle.spec_claims.specs.Heard as heard
use Rattle.spec_claims.specs.OutcomeOrder as outcome_order
use Rattle.law_audit.proofs.Tests.{first_passes, any_right, count_cons, equal, nat_same}

-- a call that stands above is one of its session's
pub stands_called : (test : ℕ × WindowCall → Bool) (s n : ℕ) (c : WindowCall) (above : List Item) → test (n, c) ≡ true
    → transcripts.StandsIn (item.Called s n c) above → list_any test (transcripts.calls s above) ≡ true
stands_called test s n c [] p m = absurd m
stands_called test s n c (y ∷ ys) p (inl e) =
    subst (λ z. list_any test (transcripts.called_by s z ++ transcripts.calls s ys) ≡ true) (sym e)
    (rw (nat_same s) (first_passes test (n, c) (transcripts.calls s ys) p))
stands_called test s n c (y ∷ ys) p (inr m) = any_right test (transcripts.called_by s y) (transcripts.calls s ys) (stands_called test s n c ys p m)

-- an event that stands above was heard by its session
pub stands_heard : (test : histories.Heard → Bool) (s : ℕ) (e : histories.Heard) (above : List Item) → test e ≡ true
    → transcripts.StandsIn (item.Event s e.place e.prev e.events) above → list_any test (heard.heard s above) ≡ true
stands_heard test s e [] p m = absurd m
stands_heard test s e (y ∷ ys) p (inl f) =
    subst (λ z. list_any test (heard.heard_by s z ++ heard.heard s ys) ≡ true) (sym f)
    (rw (nat_same s) (first_passes test e (heard.heard s ys) p))
stands_heard test s e (y ∷ ys) p (inr m) = any_right test (heard.heard_by s y) (heard.heard s ys) (stands_heard test s e ys p m)

-- numbers of calls stand once
abbrev pub is_number : ℕ → ℕ × WindowCall → Bool
is_number n c = nat_eq n c.0

abbrev IsNumberedCall : ℕ → List Item → Item → Type 0
IsNumberedCall s above (item.Called t n c) = s ≡ t → n ≡ length (transcripts.calls s above) + 1
IsNumberedCall s above x = Unit {0}

-- with one call of the session more or with none
data More (s : ℕ) (above : List Item) (x : Item) : Type 0 where
  none : transcripts.called_by s x ≡ [] → More s above x
  one : (n : ℕ) (c : WindowCall) → transcripts.called_by s x ≡ (n, c) ∷ [] → n ≡ length (transcripts.calls s above) + 1 → More s above x

more_at : (s t n : ℕ) (c : WindowCall) (above : List Item) (b : Bool) → nat_eq s t ≡ b → (s ≡ t → n ≡ length (transcripts.calls s above) + 1)
    → (if b then (n, c) ∷ [] else []) ≡ transcripts.called_by s (item.Called t n c) → More s above (item.Called t n c)
more_at s t n c above true e h f = one n c (sym f) (h (equal s t e))
more_at s t n c above false e h f = none (sym f)

more : (s : ℕ) (above : List Item) (x : Item) → IsNumberedCall s above x → More s above x
more s above (item.Called t n c) h = more_at s t n c above (nat_eq s t) refl h refl
more s above (item.Leader k t) h = none refl
more s above (item.Commit p) h = none refl
more s above (item.Reach k t a r m) h = none refl
more s above (item.Halted k) h = none refl
more s above (item.Opened r c) h = none refl
more s above (item.Event r p prev es) h = none refl
more s above (item.Watched c kind r p e) h = none refl
more s above (item.Reply r m p q) h = none refl
more s above (item.Read r m l p reach q) h = none refl
more s above (item.Ended r p how) h = none refl
more s above (item.Doubt r m) h = none refl
more s above (item.Lost r m) h = none refl
more s above (item.Unsent r m) h = none refl
more s above (item.Unanswered r m) h = none refl
more s above (item.Listed count) h = none refl
more s above (item.Pending m from to kind) h = none refl
more s above (item.Skip reason) h = none refl

numbered_call : (s : ℕ) (above : List Item) (x : Item) → outcome_order.IsNumbered s above x → IsNumberedCall s above x
numbered_call s above (item.Called t n c) h = λ e. (h e).0
numbered_call s above (item.Leader k t) h = tt
numbered_call s above (item.Commit p) h = tt
numbered_call s above (item.Reach k t a r m) h = tt
numbered_call s above (item.Halted k) h = tt
numbered_call s above (item.Opened r c) h = tt
numbered_call s above (item.Event r p prev es) h = tt
numbered_call s above (item.Watched c kind r p e) h = tt
numbered_call s above (item.Reply r m p q) h = tt
numbered_call s above (item.Read r m l p reach q) h = tt
numbered_call s above (item.Ended r p how) h = tt
numbered_call s above (item.Doubt r m) h = tt
numbered_call s above (item.Lost r m) h = tt
numbered_call s above (item.Unsent r m) h = tt
numbered_call s above (item.Unanswered r m) h = tt
numbered_call s above (item.Listed count) h = tt
numbered_call s above (item.Pending m from to kind) h = tt
numbered_call s above (item.Skip reason) h = tt

-- how often a number stands among the calls: not again once it was passed, and once at the most
count_with : (s n : ℕ) (above : List Item) (x : Item) (xs : List Item) → More s above x
    → (count_by (is_number n) (transcripts.calls s (x ∷ xs)) ≡ count_by (is_number n) (transcripts.calls s xs)) × (length (transcripts.calls s (x ∷ above)) ≡ length (transcripts.calls s above))
    ⊎ (m : ℕ) × (m ≡ length (transcripts.calls s above) + 1) × (count_by (is_number n) (transcripts.calls s (x ∷ xs)) ≡ cond (nat_eq n m) 1 0 + count_by (is_number n) (transcripts.calls s xs))
    × (length (transcripts.calls s (x ∷ above)) ≡ suc (length (transcripts.calls s above)))
count_with s n above x xs (none e) =
    inl (ap (λ cs. count_by (is_number n) (cs ++ transcripts.calls s xs)) e, ap (λ cs. length (cs ++ transcripts.calls s above)) e)
count_with s n above x xs (one m c e f) =
    inr (
      m,
      f,
      ap (λ cs. count_by (is_number n) (cs ++ transcripts.calls s xs)) e ∙ count_cons (is_number n) (m, c) (transcripts.calls s xs),
      ap (λ cs. length (cs ++ transcripts.calls s above)) e,
    )

abbrev AreNumbered : ℕ → List Item → List Item → Type 0
AreNumbered s above xs = transcripts.EachBelow (outcome_order.IsNumbered s) above xs

not_again : (s n : ℕ) (above xs : List Item) → AreNumbered s above xs → n ≤ length (transcripts.calls s above) → count_by (is_number n) (transcripts.calls s xs) ≡ 0
not_again s n above [] a l = refl
not_again s n above (x ∷ xs) a l =
    ⊎_elim
    (λ k. k.0 ∙ not_again s n (x ∷ above) xs a.1 (omega (arith, l, k.1)))
    (λ k. k.2 ∙ ap₂ (λ i j. i + j) (ap (λ b. cond b 1 0) (unequal n k.0 (omega (arith, l, k.1)))) (not_again s n (x ∷ above) xs a.1 (omega (arith, l, k.3))))
    (count_with s n above x xs (more s above x (numbered_call s above x a.0)))
  where
    unequal : (a b : ℕ) → a < b → nat_eq a b ≡ false
    unequal a b h = grind (arith, nat_tests)

once_more : (s n m : ℕ) (above : List Item) (x : Item) (xs : List Item) (b : Bool) → nat_eq n m ≡ b → m ≡ length (transcripts.calls s above) + 1
    → AreNumbered s (x ∷ above) xs → length (transcripts.calls s (x ∷ above)) ≡ suc (length (transcripts.calls s above))
    → count_by (is_number n) (transcripts.calls s xs) ≤ 1 → cond b 1 0 + count_by (is_number n) (transcripts.calls s xs) ≤ 1
once_more s n m above x xs true e f a l k =
    let z : count_by (is_number n) (transcripts.calls s xs) ≡ 0 = not_again s n (x ∷ above) xs a (omega (arith, equal n m e, f, l)) in omega (arith, z)
once_more s n m above x xs false e f a l k = omega (arith, k)

pub once_at_most : (s n : ℕ) (above xs : List Item) → AreNumbered s above xs → count_by (is_number n) (transcripts.calls s xs) ≤ 1
once_at_most s n above [] a = omega arith
once_at_most s n above (x ∷ xs) a =
    let k : count_by (is_number n) (transcripts.calls s xs) ≤ 1 = once_at_most s n (x ∷ above) xs a.1 in
    ⊎_elim
    (λ c. subst (λ i. i ≤ 1) (sym c.0) k)
    (λ c. subst (λ i. i ≤ 1) (sym c.2) (once_more s n c.0 above x xs (nat_eq n c.0) refl c.1 a.1 c.3 k))
    (count_with s n above x xs (more s above x (numbered_call s above x a.0)))
