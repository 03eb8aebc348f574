-- What items show of a session, item by item: the nearest is the first.
use Rattle.std.proofs.Common.{◌≡◌, ℕ, suc, ◌<◌, ◌≤◌, cond, List, [], ◌∷◌, ◌++◌, reverse, refl, ap, sym, ◌∙◌, subst, inl, inr, ⊎_elim, arith, count_by, filter, append-nil}
use Rattle.std.specs.Prelude.{Bool, true, false, ◌&&◌, ◌||◌, not, nat_eq, nat_le, nat_lt, is_some, Option, Some, None, if◌then◌else◌}
use Rattle.std.specs.List.{AllByRecursion, list_any}
use Rattle.std.proofs.lemmas.List.Elements.{filter-append}
use Rattle.std.proofs.lemmas.Grind.{flat_map-append}
use Rattle.ax_types.specs.declared.items.Item.{Item}
use Rattle.ax_types.specs.declared.items.Item.TheVariants as item
use Rattle.ax_types.specs.declared.ops.WindowCall.{WindowCall}
use Rattle.spec_book.specs.History as histories
use Rattle.spec_claims.specs.Transcript as transcripts
use Rattle.spec_claims.specs.Right as claims_right
use Rattle.spec_claims.specs.FreshReads as fresh_reads
use Rattle.spec_claims.specs.Heard as claims_heard
use Rattle.spec_claims.specs.OutcomeOrder as outcome_order
use Rattle.spec_claims.specs.Payloads.{IsHeardIn}
use Rattle.law_client.specs.Inputs as inputs
use Rattle.law_release.proofs.Tests.{on_or_off, equal, is_equal, is_unequal}
use Rattle.law_client.proofs.Lists.{all_each, count_no, count_yes, reverse_more, flat_more, filter_twice, filter_same, filter_all, any_more, no_either, all_since}
use Rattle.law_client.proofs.Chain.{in_either, alone}

-- an item of no session, or of another one
abbrev pub IsAside : ℕ → Option ℕ → Type 0
IsAside s None = Unit {0}
IsAside s (Some t) = s ≡ t → ⊥

-- it shows nothing of the session
pub record ShowsNone (s : ℕ) (x : Item) : Type 0 where
  pub called : transcripts.called_by s x ≡ []
  pub outcome : transcripts.outcome_of s x ≡ None
  pub unsent : outcome_order.is_unsent s x ≡ false
  pub unanswered : outcome_order.is_unanswered s x ≡ false
  pub opened : claims_right.is_opened s x ≡ false
  pub heard : claims_heard.heard_by s x ≡ []
  pub upto : (p : ℕ) → fresh_reads.IsUpto s p x

pub aside : (s : ℕ) (x : Item) → IsAside s (inputs.session_in x) → ShowsNone s x
aside s (item.Opened t c) a = record { called = refl; outcome = refl; unsent = refl; unanswered = refl; opened = is_unequal s t a; heard = refl; upto = λ p. tt }
aside s (item.Called t n w) a = record { called = rw (is_unequal s t a) refl; outcome = refl; unsent = refl; unanswered = refl; opened = refl; heard = refl; upto = λ p. tt }
aside s (item.Event t p prev es) a = record { called = refl; outcome = refl; unsent = refl; unanswered = refl; opened = refl; heard = rw (is_unequal s t a) refl; upto = λ q. tt }
aside s (item.Reply t n p r) a = record { called = refl; outcome = rw (is_unequal s t a) refl; unsent = refl; unanswered = refl; opened = refl; heard = refl; upto = λ q. tt }
aside s (item.Read t n l p reach r) a = record { called = refl; outcome = rw (is_unequal s t a) refl; unsent = refl; unanswered = refl; opened = refl; heard = refl; upto = λ q e. absurd (a e) }
aside s (item.Ended t p h) a = record { called = refl; outcome = refl; unsent = refl; unanswered = refl; opened = refl; heard = refl; upto = λ q. tt }
aside s (item.Doubt t n) a = record { called = refl; outcome = rw (is_unequal s t a) refl; unsent = refl; unanswered = refl; opened = refl; heard = refl; upto = λ q. tt }
aside s (item.Lost t n) a = record { called = refl; outcome = rw (is_unequal s t a) refl; unsent = refl; unanswered = refl; opened = refl; heard = refl; upto = λ q. tt }
aside s (item.Unsent t n) a = record { called = refl; outcome = rw (is_unequal s t a) refl; unsent = is_unequal s t a; unanswered = refl; opened = refl; heard = refl; upto = λ q. tt }
aside s (item.Unanswered t n) a = record { called = refl; outcome = rw (is_unequal s t a) refl; unsent = refl; unanswered = is_unequal s t a; opened = refl; heard = refl; upto = λ q. tt }
aside s x a = record { called = refl; outcome = refl; unsent = refl; unanswered = refl; opened = refl; heard = refl; upto = λ q. tt }

pub ended_aside : (s : ℕ) (x : Item) → IsAside s (inputs.session_in x) → outcome_order.is_ended s x ≡ false
ended_aside s (item.Ended t p h) a = is_unequal s t a
ended_aside s x a = refl

pub and_true : (b : Bool) → (b && true) ≡ b
and_true true = refl
and_true false = refl

pub and_false : (b : Bool) → (b && false) ≡ false
and_false true = refl
and_false false = refl

-- calls
pub called_first : (s n : ℕ) (w : WindowCall) (xs : List Item) → transcripts.calls s (item.Called s n w ∷ xs) ≡ (n, w) ∷ transcripts.calls s xs
called_first s n w xs = rw (is_equal s s refl) refl

pub calls_same : (s : ℕ) (x : Item) (xs : List Item) → transcripts.called_by s x ≡ [] → transcripts.calls s (x ∷ xs) ≡ transcripts.calls s xs
calls_same s x xs e = ap (λ cs. cs ++ transcripts.calls s xs) e

pub upto_same : (s n : ℕ) (x : Item) (xs : List Item) → transcripts.called_by s x ≡ [] → transcripts.commands_upto s n (x ∷ xs) ≡ transcripts.commands_upto s n xs
upto_same s n x xs e = ap (λ cs. count_by (λ c. transcripts.is_command c.1 && nat_le c.0 n) cs) (calls_same s x xs e)

pub below_same : (s n : ℕ) (x : Item) (xs : List Item) → transcripts.called_by s x ≡ [] → transcripts.commands_below s n (x ∷ xs) ≡ transcripts.commands_below s n xs
below_same s n x xs e = ap (λ cs. count_by (λ c. transcripts.is_command c.1 && nat_lt c.0 n) cs) (calls_same s x xs e)

-- outcomes
pub outcomes_same : (s : ℕ) (x : Item) (xs : List Item) → transcripts.outcome_of s x ≡ None → transcripts.outcome_count s (x ∷ xs) ≡ transcripts.outcome_count s xs
outcomes_same s x xs e = count_no (λ y. is_some (transcripts.outcome_of s y)) x xs (ap (λ o. is_some o) e)

pub outcomes_more : (s n : ℕ) (x : Item) (xs : List Item) → transcripts.outcome_of s x ≡ Some n → transcripts.outcome_count s (x ∷ xs) ≡ suc (transcripts.outcome_count s xs)
outcomes_more s n x xs e = count_yes (λ y. is_some (transcripts.outcome_of s y)) x xs (ap (λ o. is_some o) e)

pub none_below : (s n : ℕ) (x : Item) → transcripts.outcome_of s x ≡ None → outcome_order.IsBelowNumber s n x
none_below s n x e = rw e tt

pub some_below : (s m n : ℕ) (x : Item) → transcripts.outcome_of s x ≡ Some m → m < n → outcome_order.IsBelowNumber s n x
some_below s m n x e l = rw e l

abbrev IsBelow : ℕ → Option ℕ → Type 0
IsBelow n None = Unit {0}
IsBelow n (Some m) = m < n

is_below_more : (n m : ℕ) (o : Option ℕ) → n ≤ m → IsBelow n o → IsBelow m o
is_below_more n m None l b = tt
is_below_more n m (Some k) l b = omega (arith, l, b)

pub below_more : (s n m : ℕ) → n ≤ m → (xs : List Item) → AllByRecursion (outcome_order.IsBelowNumber s n) xs → AllByRecursion (outcome_order.IsBelowNumber s m) xs
below_more s n m l xs a = all_since (outcome_order.IsBelowNumber s n) (outcome_order.IsBelowNumber s m) (λ x b. is_below_more n m (transcripts.outcome_of s x) l b) xs a

-- what was heard
pub heard_more : (s : ℕ) (x : Item) (xs : List Item) → claims_heard.heard s (reverse (x ∷ xs)) ≡ claims_heard.heard s (reverse xs) ++ claims_heard.heard_by s x
heard_more s x xs = flat_more (claims_heard.heard_by s) x xs

pub heard_same : (s : ℕ) (x : Item) (xs : List Item) → claims_heard.heard_by s x ≡ [] → claims_heard.heard s (reverse (x ∷ xs)) ≡ claims_heard.heard s (reverse xs)
heard_same s x xs e = heard_more s x xs ∙ ap (λ ys. claims_heard.heard s (reverse xs) ++ ys) e ∙ append-nil (claims_heard.heard s (reverse xs))

event_of : ℕ → histories.Heard → Item
event_of s e = item.Event s e.place e.prev e.events

heard_by_it : (s : ℕ) (e : histories.Heard) (y : Item) → IsHeardIn e (claims_heard.heard_by s y) → y ≡ item.Event s e.place e.prev e.events
heard_by_it s e (item.Event t p prev es) a =
    ⊎_elim
    (λ f.
    let g : histories.Heard = record { place = p; prev = prev; events = es } in
    let b : IsHeardIn e (g ∷ []) = subst (λ b. IsHeardIn e (if b then g ∷ [] else [])) f a in
    let same : g ≡ e = alone e g b in
    ap (λ u. item.Event u p prev es) (sym (equal s t f)) ∙ ap (λ (k : histories.Heard). item.Event s k.place k.prev k.events) same)
    (λ f. absurd (subst (λ b. IsHeardIn e (if b then (record { place = p; prev = prev; events = es }) ∷ [] else [])) f a))
    (on_or_off (nat_eq s t))
heard_by_it s e y a = absurd a

pub told_stands : (s : ℕ) (e : histories.Heard) (xs : List Item) → IsHeardIn e (claims_heard.heard s (reverse xs)) → transcripts.StandsIn (item.Event s e.place e.prev e.events) xs
told_stands s e [] a = absurd a
told_stands s e (x ∷ xs) a =
    ⊎_elim (λ b. inr (told_stands s e xs b)) (λ b. inl (heard_by_it s e x b))
    (in_either e (claims_heard.heard s (reverse xs)) (claims_heard.heard_by s x) (subst (λ ys. IsHeardIn e ys) (heard_more s x xs) a))

-- calls without an outcome
open_calls : (s : ℕ) (x : Item) (items : List Item)
    → transcripts.unanswered s (items ++ x ∷ []) ≡ filter (λ c. not (transcripts.is_outcome s c.0 x)) (filter (λ c. not (list_any (transcripts.is_outcome s c.0) items)) (transcripts.calls s (items ++ x ∷ [])))
open_calls s x items =
    filter_same (λ c. not (list_any (transcripts.is_outcome s c.0) (items ++ x ∷ []))) (λ c. not (transcripts.is_outcome s c.0 x) && not (list_any (transcripts.is_outcome s c.0) items)) (transcripts.calls s (items ++ x ∷ []))
    (λ c. ap (λ b. not b) (any_more (transcripts.is_outcome s c.0) x items) ∙ no_either (list_any (transcripts.is_outcome s c.0) items) (transcripts.is_outcome s c.0 x))
    ∙ filter_twice (λ c. not (list_any (transcripts.is_outcome s c.0) items)) (λ c. not (transcripts.is_outcome s c.0 x)) (transcripts.calls s (items ++ x ∷ []))

calls_more : (s : ℕ) (x : Item) (items : List Item) → transcripts.calls s (items ++ x ∷ []) ≡ transcripts.calls s items ++ transcripts.called_by s x
calls_more s x items = flat_map-append (transcripts.called_by s) items (x ∷ []) ∙ ap (λ cs. transcripts.calls s items ++ cs) (append-nil (transcripts.called_by s x))

abbrev lacks : ℕ → List Item → ℕ × WindowCall → Bool
lacks s items c = not (list_any (transcripts.is_outcome s c.0) items)

-- an item that calls nothing takes its outcome from those that lack one
pub waiting_less : (s : ℕ) (x : Item) (xs : List Item) → transcripts.called_by s x ≡ []
    → transcripts.unanswered s (reverse (x ∷ xs)) ≡ filter (λ c. not (transcripts.is_outcome s c.0 x)) (transcripts.unanswered s (reverse xs))
waiting_less s x xs e =
    let items = reverse xs in
    ap (λ ys. transcripts.unanswered s ys) (reverse_more x xs) ∙ open_calls s x items
    ∙ ap (λ cs. filter (λ c. not (transcripts.is_outcome s c.0 x)) (filter (lacks s items) cs)) (calls_more s x items ∙ ap (λ cs. transcripts.calls s items ++ cs) e ∙ append-nil (transcripts.calls s items))

pub waiting_same : (s : ℕ) (x : Item) (xs : List Item) → transcripts.called_by s x ≡ [] → transcripts.outcome_of s x ≡ None
    → transcripts.unanswered s (reverse (x ∷ xs)) ≡ transcripts.unanswered s (reverse xs)
waiting_same s x xs e o =
    waiting_less s x xs e
    ∙ filter_all (λ c. not (transcripts.is_outcome s c.0 x)) (transcripts.unanswered s (reverse xs))
    (all_each (λ c. not (transcripts.is_outcome s c.0 x) ≡ true) (transcripts.unanswered s (reverse xs)) (λ c. rw o refl))

pub waiting_outcome : (s n : ℕ) (w : WindowCall) (cs : List (ℕ × WindowCall)) (x : Item) (xs : List Item) → transcripts.called_by s x ≡ [] → transcripts.outcome_of s x ≡ Some n
    → transcripts.unanswered s (reverse xs) ≡ (n, w) ∷ cs → AllByRecursion (λ c. c.0 ≡ n → ⊥) cs
    → transcripts.unanswered s (reverse (x ∷ xs)) ≡ cs
waiting_outcome s n w cs x xs e o is apart =
    let test : ℕ × WindowCall → Bool = λ c. not (transcripts.is_outcome s c.0 x) in
    let first : test (n, w) ≡ false = rw (o, is_equal n n refl) refl in
    waiting_less s x xs e ∙ ap (λ ds. filter test ds) is
    ∙ ap (λ b. cond b ((n, w) ∷ filter test cs) (filter test cs)) first
    ∙ filter_all test cs (all_since (λ c. c.0 ≡ n → ⊥) (λ c. test c ≡ true) (λ c a. rw (o, is_unequal c.0 n a) refl) cs apart)

-- what has an outcome above has a number below n
none_any : (s n : ℕ) (xs : List Item) → AllByRecursion (outcome_order.IsBelowNumber s n) xs → list_any (transcripts.is_outcome s n) (reverse xs) ≡ false
none_any s n [] a = refl
none_any s n (x ∷ xs) a =
    ap (λ ys. list_any (transcripts.is_outcome s n) ys) (reverse_more x xs) ∙ any_more (transcripts.is_outcome s n) x (reverse xs)
    ∙ ap (λ b. b || transcripts.is_outcome s n x) (none_any s n xs a.1) ∙ not_it (transcripts.outcome_of s x) refl a.0
  where
    not_it : (o : Option ℕ) → transcripts.outcome_of s x ≡ o → IsBelow n o → transcripts.is_outcome s n x ≡ false
    not_it None e b = rw e refl
    not_it (Some m) e b = rw e (is_unequal n m (λ f. omega (arith, f, b)))

pub waiting_called : (s n : ℕ) (w : WindowCall) (x : Item) (xs : List Item) → transcripts.called_by s x ≡ (n, w) ∷ [] → transcripts.outcome_of s x ≡ None
    → AllByRecursion (outcome_order.IsBelowNumber s n) xs
    → transcripts.unanswered s (reverse (x ∷ xs)) ≡ transcripts.unanswered s (reverse xs) ++ (n, w) ∷ []
waiting_called s n w x xs e o below =
    let items = reverse xs in
    let test : ℕ × WindowCall → Bool = λ c. not (transcripts.is_outcome s c.0 x) in
    ap (λ ys. transcripts.unanswered s ys) (reverse_more x xs) ∙ open_calls s x items
    ∙ filter_all test (filter (lacks s items) (transcripts.calls s (items ++ x ∷ []))) (all_each (λ c. test c ≡ true) (filter (lacks s items) (transcripts.calls s (items ++ x ∷ []))) (λ c. rw o refl))
    ∙ ap (λ cs. filter (lacks s items) cs) (calls_more s x items ∙ ap (λ cs. transcripts.calls s items ++ cs) e)
    ∙ filter-append (lacks s items) (transcripts.calls s items) ((n, w) ∷ [])
    ∙ ap (λ b. transcripts.unanswered s items ++ cond b ((n, w) ∷ []) []) (ap (λ b. not b) (none_any s n xs below))

-- a session of which nothing stands
pub record IsBlank (s : ℕ) (xs : List Item) : Type 0 where
  pub calls : transcripts.calls s xs ≡ []
  pub outcomes : transcripts.outcome_count s xs ≡ 0
  pub unsent : count_by (outcome_order.is_unsent s) xs ≡ 0
  pub unanswered : count_by (outcome_order.is_unanswered s) xs ≡ 0
  pub ended : count_by (outcome_order.is_ended s) xs ≡ 0
  pub opened : count_by (claims_right.is_opened s) xs ≡ 0
  pub heard : claims_heard.heard s (reverse xs) ≡ []
  pub waiting : transcripts.unanswered s (reverse xs) ≡ []
  pub below : AllByRecursion (outcome_order.IsBelowNumber s 1) xs
  pub reads : AllByRecursion (fresh_reads.IsUpto s 0) xs

pub blank : (s : ℕ) (xs : List Item) → AllByRecursion (λ x. IsAside s (inputs.session_in x)) xs → IsBlank s xs
blank s [] a = record { calls = refl; outcomes = refl; unsent = refl; unanswered = refl; ended = refl; opened = refl; heard = refl; waiting = refl; below = tt; reads = tt }
blank s (x ∷ xs) a =
    let n : ShowsNone s x = aside s x a.0 in
    let b : IsBlank s xs = blank s xs a.1 in
    record {
      calls = calls_same s x xs n.called ∙ b.calls;
      outcomes = outcomes_same s x xs n.outcome ∙ b.outcomes;
      unsent = count_no (outcome_order.is_unsent s) x xs n.unsent ∙ b.unsent;
      unanswered = count_no (outcome_order.is_unanswered s) x xs n.unanswered ∙ b.unanswered;
      ended = count_no (outcome_order.is_ended s) x xs (ended_aside s x a.0) ∙ b.ended;
      opened = count_no (claims_right.is_opened s) x xs n.opened ∙ b.opened;
      heard = heard_same s x xs n.heard ∙ b.heard;
      waiting = waiting_same s x xs n.called n.outcome ∙ b.waiting;
      below = (none_below s 1 x n.outcome, b.below);
      reads = (n.upto 0, b.reads);
    }
