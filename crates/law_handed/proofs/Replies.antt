-- No two replies have one place.
use Rattle.std.proofs.Common.{◌≡◌, ℕ, ◌+◌, ◌<◌, Bool, true, false, cond, nat_eq, nat_lt, List, [], ◌∷◌, Option, Some, None, refl, sym, ap, ap₂, ◌∙◌, subst, arith, count_by}
use Rattle.std.specs.Prelude.{option_map, if◌then◌else◌}
use Rattle.std.specs.List.{AllByRecursion}
use Rattle.std.proofs.lemmas.List.Sums.{sum_by-cons}
use Rattle.std.proofs.lemmas.Bool.Decides.{nat_tests}
use Rattle.ax_types.specs.Places as lists
use Rattle.ax_types.specs.declared.items.Item.{Item}
use Rattle.ax_types.specs.declared.items.Item.TheVariants as item
use Rattle.spec_book.specs.History as histories
use Rattle.spec_claims.specs.Transcript as transcripts
use Rattle.spec_claims.specs.Right as claims_right
use Rattle.spec_claims.specs.OutcomeOrder as outcome_order
use Rattle.spec_claims.specs.Handed as handed
use Rattle.law_history.proofs.Queues.{hand_in_order, find_none}
use Rattle.law_release.proofs.Tests.{is_equal}
use Rattle.law_handed.specs.HandedOnce as laws
use Rattle.law_handed.proofs.Acts.{Done, acts_rise, acts_are_own}
use Rattle.law_handed.proofs.Ranks.{upto_above, more_upto}

-- what holds of each item above
abbrev AllAbove : (List Item → Item → Type 0) → List Item → Type 0
AllAbove P [] = Unit {0}
AllAbove P (x ∷ above) = P above x × AllAbove P above

-- the place of a session's k-th act
abbrev place_of : histories.History → ℕ → ℕ → Option ℕ
place_of h s k = option_map (λ (d : Done). d.0) (lists.at_place (histories.dos h s) k)

record Placed (h : histories.History) (s k p : ℕ) : Type 0 where
  done : Done
  is : lists.at_place (histories.dos h s) k ≡ Some done
  place : done.0 ≡ p

placed : (h : histories.History) (s k p : ℕ) (d : Option Done)
    → lists.at_place (histories.dos h s) k ≡ d → option_map (λ (x : Done). x.0) d ≡ Some p → Placed h s k p
placed h s k p None i e = absurd (cc)
placed h s k p (Some d) i e = record { done = d; is = i; place = cc (e) }

same_session : (h : histories.History) (s t j k p : ℕ) → place_of h s j ≡ Some p → place_of h t k ≡ Some p → s ≡ t
same_session h s t j k p a b =
    let x = placed h s j p _ refl a in
    let y = placed h t k p _ refl b in
    acts_are_own h s t j k x.done y.done x.is y.is (x.place ∙ sym y.place)

rising_places : (h : histories.History) (s j k p q : ℕ) → j < k → place_of h s j ≡ Some p → place_of h s k ≡ Some q → p < q
rising_places h s j k p q l a b =
    let x = placed h s j p _ refl a in
    let y = placed h s k q _ refl b in
    let r = acts_rise h s j k x.done y.done l x.is y.is in
    omega (arith, r, x.place, y.place)

-- a smaller number
abbrev Below : ℕ → Option ℕ → Type 0
Below n None = Unit {0}
Below n (Some m) = m < n

not_at : (p q : ℕ) → (p ≡ q → ⊥) → (if nat_lt p q then false else (if nat_lt q p then false else true)) ≡ false
not_at p q ne = on (nat_lt p q) (nat_lt q p) (λ e f. ne (grind (arith, nat_tests, e, f)))
  where
    on : (b c : Bool) → (b ≡ false → c ≡ false → ⊥) → (if b then false else (if c then false else true)) ≡ false
    on true c k = refl
    on false true k = refl
    on false false k = absurd (k refl refl)

-- a reply of session s with number n at place p, its session's k-th act; up to smaller numbers fewer commands are called above
record IsReplied (h : histories.History) (s n k p : ℕ) (above : List Item) : Type 0 where
  place : place_of h s k ≡ Some p
  fewer : (m : ℕ) → m < n → transcripts.commands_upto s m above < k

other_place : (h : histories.History) (s n k p : ℕ) (above : List Item) (t m q : ℕ) → IsReplied h s n k p above
    → place_of h t (transcripts.commands_upto t m above) ≡ Some q → Below n (if nat_eq s t then Some m else None) → p ≡ q → ⊥
other_place h s n k p above t m q is at below same =
    let one : s ≡ t = same_session h s t k (transcripts.commands_upto t m above) p is.place (at ∙ ap (λ x. Some x) (sym same)) in
    let l : m < n = subst (λ b. Below n (if b then Some m else None)) (is_equal s t one) below in
    let there : place_of h s (transcripts.commands_upto s m above) ≡ Some q =
    subst (λ u. place_of h u (transcripts.commands_upto u m above) ≡ Some q) (sym one) at in
    let r : q < p = rising_places h s (transcripts.commands_upto s m above) k q p (is.fewer m l) there is.place in
    absurd (omega (arith, r, same))

not_here : (h : histories.History) (s n k p : ℕ) (above : List Item) (y : Item) → IsReplied h s n k p above
    → claims_right.IsRight h above y → outcome_order.IsBelowNumber s n y
    → handed.is_reply_at p y ≡ false
not_here h s n k p above (item.Reply t m q r) is right below = not_at p q (other_place h s n k p above t m q is right.0 below)
not_here h s n k p above (item.Leader j t) is right below = refl
not_here h s n k p above (item.Commit c) is right below = refl
not_here h s n k p above (item.Reach j t a r m) is right below = refl
not_here h s n k p above (item.Halted j) is right below = refl
not_here h s n k p above (item.Opened r c) is right below = refl
not_here h s n k p above (item.Called t m c) is right below = refl
not_here h s n k p above (item.Event t q prev es) is right below = refl
not_here h s n k p above (item.Watched c kind r q e) is right below = refl
not_here h s n k p above (item.Read t m l q reach r) is right below = refl
not_here h s n k p above (item.Ended t q how) is right below = refl
not_here h s n k p above (item.Doubt t m) is right below = refl
not_here h s n k p above (item.Lost t m) is right below = refl
not_here h s n k p above (item.Unsent t m) is right below = refl
not_here h s n k p above (item.Unanswered t m) is right below = refl
not_here h s n k p above (item.Listed count) is right below = refl
not_here h s n k p above (item.Pending m from to kind) is right below = refl
not_here h s n k p above (item.Skip reason) is right below = refl

further_up : (h : histories.History) (s n k p : ℕ) (y : Item) (above : List Item) → IsReplied h s n k p (y ∷ above) → IsReplied h s n k p above
further_up h s n k p y above is = record {
  place = is.place;
  fewer = λ m l. let a = upto_above s m y above in let b = is.fewer m l in omega (arith, a, b);
}

none_above : (h : histories.History) (s n k p : ℕ) (above : List Item) → IsReplied h s n k p above → AllAbove (claims_right.IsRight h) above
    → AllByRecursion (outcome_order.IsBelowNumber s n) above → count_by (handed.is_reply_at p) above ≡ 0
none_above h s n k p [] is right below = refl
none_above h s n k p (y ∷ above) is right below =
    let up = further_up h s n k p y above is in
    sum_by-cons (λ x. cond (handed.is_reply_at p x) 1 0) y above
    ∙ ap₂ (λ b i. cond b 1 0 + i) (not_here h s n k p above y up right.0 below.0) (none_above h s n k p above up right.1 below.1)

abbrev Rises : ℕ → List Item → Option ℕ → Type 0
Rises s above None = Unit {0}
Rises s above (Some n) = AllByRecursion (outcome_order.IsBelowNumber s n) above

own_place_at : (h : histories.History) (above : List Item) (x : Item) → AllAbove (claims_right.IsRight h) above → claims_right.IsRight h above x
    → ((s : ℕ) → outcome_order.IsOutcome s above x) → handed.IsOfItsOwn above x
own_place_at h above (item.Reply s n p r) up right outcome =
    let o = outcome s in
    let below : AllByRecursion (outcome_order.IsBelowNumber s n) above =
    subst (λ b. Rises s above (if b then Some n else None)) (is_equal s s refl) o.1 in
    let c = (o.3 refl).0 in
    none_above h s n (transcripts.commands_upto s n above) p above
    (record { place = right.0; fewer = λ m l. more_upto s m n c.0 c.1 above l c.2 }) up below
own_place_at h above (item.Leader j t) up right outcome = tt
own_place_at h above (item.Commit c) up right outcome = tt
own_place_at h above (item.Reach j t a r m) up right outcome = tt
own_place_at h above (item.Halted j) up right outcome = tt
own_place_at h above (item.Opened r c) up right outcome = tt
own_place_at h above (item.Called t m c) up right outcome = tt
own_place_at h above (item.Event t q prev es) up right outcome = tt
own_place_at h above (item.Watched c kind r q e) up right outcome = tt
own_place_at h above (item.Read t m l q reach r) up right outcome = tt
own_place_at h above (item.Ended t q how) up right outcome = tt
own_place_at h above (item.Doubt t m) up right outcome = tt
own_place_at h above (item.Lost t m) up right outcome = tt
own_place_at h above (item.Unsent t m) up right outcome = tt
own_place_at h above (item.Unanswered t m) up right outcome = tt
own_place_at h above (item.Listed count) up right outcome = tt
own_place_at h above (item.Pending m from to kind) up right outcome = tt
own_place_at h above (item.Skip reason) up right outcome = tt

own_places : (h : histories.History) (above xs : List Item) → AllAbove (claims_right.IsRight h) above
    → transcripts.EachBelow (claims_right.IsRight h) above xs
    → ((s : ℕ) → transcripts.EachBelow (outcome_order.IsOutcome s) above xs) → transcripts.EachBelow handed.IsOfItsOwn above xs
own_places h above [] up right outcomes = tt
own_places h above (x ∷ xs) up right outcomes =
    (own_place_at h above x up right.0 (λ s. (outcomes s).0), own_places h (x ∷ above) xs (right.0, up) right.1 (λ s. (outcomes s).1))

pub hand_once : laws.FaithfulRunsHandOnce
hand_once timeout shown h f = record {
  in_order = hand_in_order h;
  empty = find_none h;
  own_place = own_places h [] (transcripts.transcript shown) tt f.right (λ s. (f.sessions s).outcomes);
}
