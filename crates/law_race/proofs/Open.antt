-- The calls without an outcome come next: by the numbers of a session's calls and of its outcomes.
use Rattle.std.proofs.Common.{◌≡◌, ℕ, suc, ◌+◌, ◌≤◌, ◌<◌, max, Bool, true, false, cond, not, List, [], ◌∷◌, ◌++◌, length, map, filter, refl, ap, sym, ◌∙◌, subst, arith, inl, inr, ⊎_elim}
use Rattle.std.specs.Prelude.{◌⊎◌, ◌||◌, nat_eq, nat_lt, Option, Some, None}
use Rattle.std.specs.List.{AllByRecursion, list_any}
use Rattle.ax_types.specs.declared.items.Item.{Item}
use Rattle.ax_types.specs.declared.items.Item.TheVariants as item
use Rattle.ax_types.specs.declared.ops.WindowCall.{WindowCall}
use Rattle.spec_claims.specs.Transcript as transcripts
use Rattle.spec_claims.specs.OutcomeOrder as outcome_order
use Rattle.law_release.proofs.Tests.{by_test, on_or_off, equal, is_equal, is_unequal, unequal, not_below}
use Rattle.law_told.proofs.Lists.{all_since, all_append}
use Rattle.law_client.proofs.Shown.{outcomes_same, outcomes_more, some_below, below_more}
use Rattle.law_items.proofs.Below.{below}

-- the items of calls without an outcome
abbrev pub open_items : ℕ → List (ℕ × WindowCall) → List Item
open_items s cs = map (λ c. item.Unanswered s c.0) cs

-- outcomes have no gap, so there is one for each number up to their count, and for no other
abbrev FollowsTo : ℕ → List Item → Option ℕ → Type 0
FollowsTo s above None = Unit {0}
FollowsTo s above (Some n) = n ≡ transcripts.outcome_count s above + 1

pub follows : (s m : ℕ) (above : List Item) (x : Item) → transcripts.outcome_of s x ≡ Some m → outcome_order.IsGapless s above x → m ≡ transcripts.outcome_count s above + 1
follows s m above x e g = let f : FollowsTo s above (transcripts.outcome_of s x) = g in subst (FollowsTo s above) e f

is_none : (s n : ℕ) (x : Item) → transcripts.outcome_of s x ≡ None → transcripts.is_outcome s n x ≡ false
is_none s n x e = rw e refl

is_some_of : (s n m : ℕ) (x : Item) → transcripts.outcome_of s x ≡ Some m → transcripts.is_outcome s n x ≡ nat_eq n m
is_some_of s n m x e = rw e refl

pub if_some : {X : Type 0} (o : Option X) → (o ≡ None) ⊎ ((x : X) × (o ≡ Some x))
if_some None = inl refl
if_some (Some x) = inr (x, refl)

-- whether call n + 1 has an outcome among the items, of which so many stand above them
pub record AreAnswered (s n a : ℕ) (xs : List Item) : Type 0 where
  pub hit : a ≤ n → n < a + transcripts.outcome_count s xs → list_any (transcripts.is_outcome s (suc n)) xs ≡ true
  pub miss : a + transcripts.outcome_count s xs ≤ n → list_any (transcripts.is_outcome s (suc n)) xs ≡ false

pub answered : (s n : ℕ) (above xs : List Item) → transcripts.EachBelow (outcome_order.IsGapless s) above xs → AreAnswered s n (transcripts.outcome_count s above) xs
answered s n above [] g = record { hit = λ l m. absurd (let z : transcripts.outcome_count s [] ≡ 0 = refl in omega (arith, l, m, z)); miss = λ l. refl }
answered s n above (x ∷ xs) g =
    let rest : AreAnswered s n (transcripts.outcome_count s (x ∷ above)) xs = answered s n (x ∷ above) xs g.1 in
    let rest_any : Bool = list_any (transcripts.is_outcome s (suc n)) xs in
    ⊎_elim
    (λ e.
    let up = outcomes_same s x above e in
    let own = outcomes_same s x xs e in
    let not_it = is_none s (suc n) x e in
    record {
      hit = λ l m. ap (λ b. b || rest_any) not_it ∙ rest.hit (omega (arith, l, up)) (omega (arith, m, up, own));
      miss = λ l. ap (λ b. b || rest_any) not_it ∙ rest.miss (omega (arith, l, up, own));
    })
    (λ e.
    let m : ℕ = e.0 in
    let up = outcomes_more s m x above e.1 in
    let own = outcomes_more s m x xs e.1 in
    let number : m ≡ transcripts.outcome_count s above + 1 = follows s m above x e.1 g.0 in
    let it = is_some_of s (suc n) m x e.1 in
    record {
      hit = λ l k. ⊎_elim
          (λ f. ap (λ b. b || rest_any) (it ∙ f))
          (λ f. ap (λ b. b || rest_any) (it ∙ f) ∙ (let other : suc n ≡ m → ⊥ = unequal (suc n) m f in rest.hit (beyond n m (transcripts.outcome_count s above) (transcripts.outcome_count s (x ∷ above)) other l number up) (omega (arith, k, up, own))))
          (on_or_off (nat_eq (suc n) m));
      miss = λ l. ap (λ b. b || rest_any) (it ∙ is_unequal (suc n) m (λ f. omega (arith, f, l, own, number))) ∙ rest.miss (omega (arith, l, up, own));
    })
    (if_some (transcripts.outcome_of s x))
  where
    beyond : (n m a b : ℕ) → (suc n ≡ m → ⊥) → a ≤ n → m ≡ a + 1 → b ≡ suc a → b ≤ n
    beyond n m a b other l e f = grind (arith, other, l, e, f)

-- calls are numbered from the first
abbrev pub NumberedFrom : ℕ → List (ℕ × WindowCall) → Type 0
NumberedFrom a [] = Unit {0}
NumberedFrom a (c ∷ cs) = (c.0 ≡ suc a) × NumberedFrom (suc a) cs

calls_snoc : (s : ℕ) (early xs : List Item) → transcripts.calls s (early ++ xs) ≡ transcripts.calls s early ++ transcripts.calls s xs
calls_snoc s early xs = Rattle.std.proofs.lemmas.Grind.flat_map-append (transcripts.called_by s) early xs

pub numbered : (s : ℕ) (above xs : List Item) → transcripts.EachBelow (outcome_order.IsNumbered s) above xs → NumberedFrom (length (transcripts.calls s above)) (transcripts.calls s xs)
numbered s above [] k = tt
numbered s above (x ∷ xs) k = one x k.0 (numbered s (x ∷ above) xs k.1)
  where
    call : (b : Bool) (t n : ℕ) (c : WindowCall) → nat_eq s t ≡ b → outcome_order.IsNumbered s above (item.Called t n c) → NumberedFrom (length (cond b ((n, c) ∷ []) [] ++ transcripts.calls s above)) (transcripts.calls s xs)
        → NumberedFrom (length (transcripts.calls s above)) (cond b ((n, c) ∷ []) [] ++ transcripts.calls s xs)
    call true t n c e is rest = let z = (is (equal s t e)).0 in (omega (arith, z), rest)
    call false t n c e is rest = rest

    one : (x : Item) → outcome_order.IsNumbered s above x → NumberedFrom (length (transcripts.calls s (x ∷ above))) (transcripts.calls s xs) → NumberedFrom (length (transcripts.calls s above)) (transcripts.calls s (x ∷ xs))
    one (item.Called t n c) is rest = call (nat_eq s t) t n c refl is rest
    one x is rest = rest

-- each call stands among the items
abbrev pub StandAbove : ℕ → List Item → List (ℕ × WindowCall) → Type 0
StandAbove s above cs = AllByRecursion (λ c. transcripts.StandsIn (item.Called s c.0 c.1) above) cs

stands_below : (x : Item) (above xs : List Item) → transcripts.StandsIn x above → transcripts.StandsIn x (below above xs)
stands_below x above [] k = k
stands_below x above (y ∷ xs) k = stands_below x (y ∷ above) xs (inr k)

pub calls_stand : (s : ℕ) (above xs : List Item) → StandAbove s (below above xs) (transcripts.calls s xs)
calls_stand s above [] = tt
calls_stand s above (x ∷ xs) = all_append (λ c. transcripts.StandsIn (item.Called s c.0 c.1) (below (x ∷ above) xs)) (transcripts.called_by s x) (transcripts.calls s xs) (one x) (calls_stand s (x ∷ above) xs)
  where
    one : (x : Item) → StandAbove s (below (x ∷ above) xs) (transcripts.called_by s x)
    one (item.Called t n c) = by_test (StandAbove s (below (item.Called t n c ∷ above) xs)) (nat_eq s t) ((n, c) ∷ []) []
        (λ e. (stands_below (item.Called s n c) (item.Called t n c ∷ above) xs (inl (ap (λ u. item.Called u n c) (sym (equal s t e)))), tt)) (λ e. tt)
    one x = tt

-- an outcome of session s with a number, asked of session t
rises_for : (t s n : ℕ) (above : List Item) → AllByRecursion (outcome_order.IsBelowNumber s n) above → outcome_order.IsRising t above (item.Unanswered s n)
rises_for t s n above a = ⊎_elim (λ f. rw f (subst (λ u. AllByRecursion (outcome_order.IsBelowNumber u n) above) (sym (equal t s f)) a)) (λ f. rw f tt) (on_or_off (nat_eq t s))

gapless_for : (t s n : ℕ) (above : List Item) → n ≡ transcripts.outcome_count s above + 1 → outcome_order.IsGapless t above (item.Unanswered s n)
gapless_for t s n above a = ⊎_elim (λ f. rw f (subst (λ u. n ≡ transcripts.outcome_count u above + 1) (sym (equal t s f)) a)) (λ f. rw f tt) (on_or_off (nat_eq t s))

-- of the calls from number a + 1 on, those above the k that are answered are told in order
pub open_outcomes : (s k : ℕ) (items : List Item) → ((n : ℕ) → AreAnswered s n 0 items) → k ≡ transcripts.outcome_count s items → (a : ℕ) (above : List Item) (cs : List (ℕ × WindowCall))
    → transcripts.outcome_count s above ≡ max k a → AllByRecursion (outcome_order.IsBelowNumber s (suc (max k a))) above → NumberedFrom a cs → StandAbove s above cs
    → (t : ℕ) → transcripts.EachBelow (outcome_order.IsOutcome t) above (open_items s (filter (λ c. not (list_any (transcripts.is_outcome s c.0) items)) cs))
open_outcomes s k items answer is a above [] count low number stand t = tt
open_outcomes s k items answer is a above (c ∷ cs) count low number stand t =
    by_test (λ ys. transcripts.EachBelow (outcome_order.IsOutcome t) above (open_items s ys)) (not (list_any (transcripts.is_outcome s c.0) items)) (c ∷ rest) rest
    (λ e.
    let x : Item = item.Unanswered s c.0 in
    let le : k ≤ a = is_open e in
    let out : transcripts.outcome_of s x ≡ Some c.0 = rw (is_equal s s refl) refl in
    let n = number.0 in
    let more = outcomes_more s c.0 x above out in
    let same : suc (max k a) ≡ c.0 = omega (arith, le, n) in (
      (tt, rises_for t s c.0 above (subst (λ m. AllByRecursion (outcome_order.IsBelowNumber s m) above) same low), gapless_for t s c.0 above (omega (arith, count, le, n)), λ f. (c.1, subst (λ u. transcripts.StandsIn (item.Called u c.0 c.1) above) (sym f) stand.0)),
      open_outcomes s k items answer is (suc a) (x ∷ above) cs (omega (arith, count, le, more))
          (some_below s c.0 (suc (max k (suc a))) x out (omega (arith, le, n)), below_more s (suc (max k a)) (suc (max k (suc a))) (omega arith) above low) number.1
          (all_since (λ d. transcripts.StandsIn (item.Called s d.0 d.1) above) (λ d. transcripts.StandsIn (item.Called s d.0 d.1) (x ∷ above)) (λ d i. inr i) cs stand.1) t,
    ))
    (λ e.
    let lt : a < k = is_answered e in
    let same : max k a ≡ max k (suc a) = omega (arith, lt) in
    open_outcomes s k items answer is (suc a) above cs (count ∙ same) (subst (λ m. AllByRecursion (outcome_order.IsBelowNumber s (suc m)) above) same low) number.1 stand.1 t)
  where
    rest : List (ℕ × WindowCall)
    rest = filter (λ c. not (list_any (transcripts.is_outcome s c.0) items)) cs

    is_at : list_any (transcripts.is_outcome s c.0) items ≡ list_any (transcripts.is_outcome s (suc a)) items
    is_at = ap (λ n. list_any (transcripts.is_outcome s n) items) number.0

    is_open : not (list_any (transcripts.is_outcome s c.0) items) ≡ true → k ≤ a
    is_open e = ⊎_elim (λ f. let h : list_any (transcripts.is_outcome s (suc a)) items ≡ true = (answer a).hit (omega arith) (let l : a < k = Rattle.law_refinement.proofs.Tests.is_above a k f in omega (arith, l, is)) in absurd (grind (arith, e, h, is_at))) (λ f. not_below a k f) (on_or_off (nat_lt a k))

    is_answered : not (list_any (transcripts.is_outcome s c.0) items) ≡ false → a < k
    is_answered e = ⊎_elim (λ f. Rattle.law_refinement.proofs.Tests.is_above a k f) (λ f. let h : list_any (transcripts.is_outcome s (suc a)) items ≡ false = (answer a).miss (let l : k ≤ a = not_below a k f in omega (arith, l, is)) in absurd (grind (arith, e, h, is_at))) (on_or_off (nat_lt a k))
