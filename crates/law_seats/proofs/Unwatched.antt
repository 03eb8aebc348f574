-- What watches show changes no claim: what holds below the other items holds below all.
use Rattle.std.proofs.Common.{◌≡◌, ℕ, ◌+◌, ◌≤◌, cond, List, [], ◌∷◌, ◌++◌, map, reverse, length, filter, flat_map, count_by, append-nil, max, refl, ap, sym, ◌∙◌, subst, inl, inr, ⊎_elim}
use Rattle.std.specs.Prelude.{Bool, true, false, not, ◌&&◌, ◌||◌, nat_lt, nat_le, is_some, Option, Some, None, option_map}
use Rattle.std.specs.List.{AllByRecursion, list_any}
use Rattle.std.proofs.lemmas.List.Elements.{filter-append}
use Rattle.ax_types.specs.Places as lists
use Rattle.ax_types.specs.declared.items.Item.{Item}
use Rattle.ax_types.specs.declared.items.Item.TheVariants as item
use Rattle.ax_types.specs.declared.ops.Level.{Level}
use Rattle.ax_types.specs.declared.ops.Level.TheVariants as level
use Rattle.ax_types.specs.declared.ops.WindowCall.{WindowCall}
use Rattle.ax_types.specs.declared.ops.WindowCall.TheVariants as call
use Rattle.ax_types.specs.declared.packets.Payload.{Payload}
use Rattle.ax_types.specs.declared.packets.Payload.TheVariants as payload
use Rattle.ax_types.specs.declared.replies.Event.{Event}
use Rattle.ax_types.specs.declared.replies.How.TheVariants as how
use Rattle.ax_types.specs.declared.steps.WatchKind.{WatchKind}
use Rattle.spec_book.specs.History as histories
use Rattle.spec_claims.specs.Transcript as transcripts
use Rattle.spec_claims.specs.Once as claims_once
use Rattle.spec_claims.specs.Right as claims_right
use Rattle.spec_claims.specs.FreshReads as fresh_reads
use Rattle.spec_claims.specs.Heard as claims_heard
use Rattle.spec_claims.specs.OutcomeOrder as outcome_order
use Rattle.spec_claims.specs.Payloads as payloads
use Rattle.spec_world.specs.Moves as moves
use Rattle.law_release.proofs.Tests.{by_test, on, off, on_or_off}
use Rattle.law_client.specs.Inputs as inputs
use Rattle.law_client.specs.Standing as standing
use Rattle.law_client.specs.Promises as promises
use Rattle.law_client.proofs.Lists.{count_more, count_no, filter_same, filter_none, reverse_more, reverse_onto, all_since, all_append}
use Rattle.law_client.proofs.Shown.{ShowsNone, aside, none_below}
use Rattle.law_seats.specs.Seats.{unwatched}

-- an item that a watch shows is of no session
pub none_in : (x : Item) → claims_heard.is_watched x ≡ true → inputs.session_in x ≡ None
none_in (item.Watched c kind s p e) is = refl
none_in x is = absurd (on is)

pub some_none : {A : Type 0} (a : A) → Some a ≡ None → ⊥
some_none a e = cc

shows_nothing : (s : ℕ) (x : Item) → claims_heard.is_watched x ≡ true → ShowsNone s x
shows_nothing s (item.Watched c kind t p e) is = aside s (item.Watched c kind t p e) tt
shows_nothing s x is = absurd (on is)

-- one more item: it stays, or a watch shows it
keeps_it : (x : Item) (xs : List Item) → claims_heard.is_watched x ≡ false → unwatched (x ∷ xs) ≡ x ∷ unwatched xs
keeps_it x xs e = ap (λ b. cond (not b) (x ∷ unwatched xs) (unwatched xs)) e

drops_it : (x : Item) (xs : List Item) → claims_heard.is_watched x ≡ true → unwatched (x ∷ xs) ≡ unwatched xs
drops_it x xs e = ap (λ b. cond (not b) (x ∷ unwatched xs) (unwatched xs)) e

pub unwatched_reverse : (xs : List Item) → unwatched (reverse xs) ≡ reverse (unwatched xs)
unwatched_reverse [] = refl
unwatched_reverse (x ∷ xs) =
    ap unwatched (reverse_more x xs) ∙ filter-append (λ y. not (claims_heard.is_watched y)) (reverse xs) (x ∷ []) ∙ ap (λ ys. ys ++ unwatched (x ∷ [])) (unwatched_reverse xs) ∙ ⊎_elim
    (λ e. ap (λ b. reverse (unwatched xs) ++ cond (not b) (x ∷ []) []) e ∙ append-nil (reverse (unwatched xs)) ∙ ap reverse (sym (drops_it x xs e)))
    (λ e. ap (λ b. reverse (unwatched xs) ++ cond (not b) (x ∷ []) []) e ∙ sym (reverse_more x (unwatched xs)) ∙ ap reverse (sym (keeps_it x xs e)))
    (on_or_off (claims_heard.is_watched x))

-- counts of what no watch shows
count_same : (p : Item → Bool) → ((x : Item) → claims_heard.is_watched x ≡ true → p x ≡ false) → (xs : List Item) → count_by p (unwatched xs) ≡ count_by p xs
count_same p f [] = refl
count_same p f (x ∷ xs) = ⊎_elim
    (λ e. ap (λ ys. count_by p ys) (drops_it x xs e) ∙ count_same p f xs ∙ sym (count_no p x xs (f x e)))
    (λ e. ap (λ ys. count_by p ys) (keeps_it x xs e) ∙ count_more p x (unwatched xs) ∙ ap (λ k. cond (p x) 1 0 + k) (count_same p f xs) ∙ sym (count_more p x xs))
    (on_or_off (claims_heard.is_watched x))

flat_same : {Y : Type 0} (f : Item → List Y) → ((x : Item) → claims_heard.is_watched x ≡ true → f x ≡ []) → (xs : List Item) → flat_map f (unwatched xs) ≡ flat_map f xs
flat_same f g [] = refl
flat_same f g (x ∷ xs) = ⊎_elim
    (λ e. ap (λ ys. flat_map f ys) (drops_it x xs e) ∙ flat_same f g xs ∙ sym (ap (λ ys. ys ++ flat_map f xs) (g x e)))
    (λ e. ap (λ ys. flat_map f ys) (keeps_it x xs e) ∙ ap (λ ys. f x ++ ys) (flat_same f g xs))
    (on_or_off (claims_heard.is_watched x))

any_same : (p : Item → Bool) → ((x : Item) → claims_heard.is_watched x ≡ true → p x ≡ false) → (xs : List Item) → list_any p (unwatched xs) ≡ list_any p xs
any_same p f [] = refl
any_same p f (x ∷ xs) = ⊎_elim
    (λ e. ap (λ ys. list_any p ys) (drops_it x xs e) ∙ any_same p f xs ∙ sym (ap (λ b. b || list_any p xs) (f x e)))
    (λ e. ap (λ ys. list_any p ys) (keeps_it x xs e) ∙ ap (λ b. p x || b) (any_same p f xs))
    (on_or_off (claims_heard.is_watched x))

all_same : (P : Item → Type 0) → ((x : Item) → claims_heard.is_watched x ≡ true → P x) → (xs : List Item) → AllByRecursion P (unwatched xs) → AllByRecursion P xs
all_same P f [] a = tt
all_same P f (x ∷ xs) a = ⊎_elim
    (λ e. (f x e, all_same P f xs (subst (AllByRecursion P) (drops_it x xs e) a)))
    (λ e. let b : AllByRecursion P (x ∷ unwatched xs) = subst (AllByRecursion P) (keeps_it x xs e) a in (b.0, all_same P f xs b.1))
    (on_or_off (claims_heard.is_watched x))

pub all_unwatched : (P : Item → Type 0) (xs : List Item) → AllByRecursion P xs → AllByRecursion P (unwatched xs)
all_unwatched P [] a = tt
all_unwatched P (x ∷ xs) a = ⊎_elim
    (λ e. subst (AllByRecursion P) (sym (drops_it x xs e)) (all_unwatched P xs a.1))
    (λ e. subst (AllByRecursion P) (sym (keeps_it x xs e)) (a.0, all_unwatched P xs a.1))
    (on_or_off (claims_heard.is_watched x))

pub stands_up : (x : Item) (xs : List Item) → transcripts.StandsIn x (unwatched xs) → transcripts.StandsIn x xs
stands_up x [] a = absurd a
stands_up x (y ∷ ys) a = ⊎_elim
    (λ e. inr (stands_up x ys (subst (transcripts.StandsIn x) (drops_it y ys e) a)))
    (λ e. ⊎_elim (λ f. inl f) (λ b. inr (stands_up x ys b)) (subst (transcripts.StandsIn x) (keeps_it y ys e) a))
    (on_or_off (claims_heard.is_watched y))

stands_down : (x : Item) (xs : List Item) → claims_heard.is_watched x ≡ false → transcripts.StandsIn x xs → transcripts.StandsIn x (unwatched xs)
stands_down x [] is a = absurd a
stands_down x (y ∷ ys) is (inl e) = subst (transcripts.StandsIn x) (sym (keeps_it y ys (ap (λ z. claims_heard.is_watched z) e ∙ is))) (inl e)
stands_down x (y ∷ ys) is (inr a) = ⊎_elim
    (λ e. subst (transcripts.StandsIn x) (sym (drops_it y ys e)) (stands_down x ys is a))
    (λ e. subst (transcripts.StandsIn x) (sym (keeps_it y ys e)) (inr (stands_down x ys is a)))
    (on_or_off (claims_heard.is_watched y))

commit_same : (xs : List Item) → transcripts.greatest_commit (unwatched xs) ≡ transcripts.greatest_commit xs
commit_same [] = refl
commit_same (item.Commit p ∷ xs) = ap (λ k. max p k) (commit_same xs)
commit_same (x ∷ xs) = commit_same xs

pub calls_same : (s : ℕ) (xs : List Item) → transcripts.calls s (unwatched xs) ≡ transcripts.calls s xs
calls_same s xs = flat_same (transcripts.called_by s) (λ x e. (shows_nothing s x e).called) xs

pub heard_same : (s : ℕ) (xs : List Item) → claims_heard.heard s (unwatched xs) ≡ claims_heard.heard s xs
heard_same s xs = flat_same (claims_heard.heard_by s) (λ x e. (shows_nothing s x e).heard) xs

unanswered_same : (s : ℕ) (xs : List Item) → transcripts.unanswered s (unwatched xs) ≡ transcripts.unanswered s xs
unanswered_same s xs =
    ap (λ cs. filter (λ c. not (list_any (transcripts.is_outcome s c.0) (unwatched xs))) cs) (calls_same s xs)
    ∙ filter_same (λ c. not (list_any (transcripts.is_outcome s c.0) (unwatched xs))) (λ c. not (list_any (transcripts.is_outcome s c.0) xs)) (transcripts.calls s xs)
    (λ c. ap (λ b. not b) (any_same (transcripts.is_outcome s c.0) (λ x e. no_outcome s c.0 x (shows_nothing s x e).outcome) xs))
  where
    no_outcome : (t n : ℕ) (x : Item) → transcripts.outcome_of t x ≡ None → transcripts.is_outcome t n x ≡ false
    no_outcome t n x e = rw e refl

one_up : (x : Item) (above : List Item) (s n p t a : ℕ) → payloads.IsReached (x ∷ unwatched above) s n p t a → (payloads.IsReached (unwatched above) s n p t a → payloads.IsReached above s n p t a)
    → payloads.IsReached (x ∷ above) s n p t a
one_up x above s n p t a r f = by_later r.later r.there
  where
    by_later : (later : List Item) → x ∷ unwatched above ≡ later ++ item.Reach r.node t a s n ∷ r.earlier → payloads.IsReached (x ∷ above) s n p t a
    by_later [] e =
        let same : x ≡ item.Reach r.node t a s n = cc in
        let rest : unwatched above ≡ r.earlier = cc in
        record { node = r.node; later = []; earlier = above; there = ap (λ y. y ∷ above) same; covers = subst (λ k. k ≤ p) (ap transcripts.greatest_commit (sym rest) ∙ commit_same above) r.covers }
    by_later (y ∷ later) e =
        let rest : unwatched above ≡ later ++ item.Reach r.node t a s n ∷ r.earlier = cc in
        let b : payloads.IsReached above s n p t a = f (record { node = r.node; later = later; earlier = r.earlier; there = rest; covers = r.covers }) in
        record { node = b.node; later = x ∷ b.later; earlier = b.earlier; there = ap (λ ys. x ∷ ys) b.there; covers = b.covers }

-- an arrival stands in both
arrives_up : (above : List Item) (s n p t a : ℕ) → payloads.IsReached (unwatched above) s n p t a → payloads.IsReached above s n p t a
arrives_up [] s n p t a r = record { node = r.node; later = r.later; earlier = r.earlier; there = r.there; covers = r.covers }
arrives_up (x ∷ above) s n p t a r = ⊎_elim
    (λ e.
    let b : payloads.IsReached above s n p t a = arrives_up above s n p t a (subst (λ ys. payloads.IsReached ys s n p t a) (drops_it x above e) r) in
    record { node = b.node; later = x ∷ b.later; earlier = b.earlier; there = ap (λ ys. x ∷ ys) b.there; covers = b.covers })
    (λ e. one_up x above s n p t a (subst (λ ys. payloads.IsReached ys s n p t a) (keeps_it x above e) r) (λ q. arrives_up above s n p t a q))
    (on_or_off (claims_heard.is_watched x))

arrives_down : (above : List Item) (s n p t a : ℕ) → payloads.IsReached above s n p t a → payloads.IsReached (unwatched above) s n p t a
arrives_down above s n p t a r = record {
  node = r.node;
  later = unwatched r.later;
  earlier = unwatched r.earlier;
  there = ap unwatched r.there ∙ filter-append (λ y. not (claims_heard.is_watched y)) r.later (item.Reach r.node t a s n ∷ r.earlier);
  covers = subst (λ k. k ≤ p) (sym (commit_same r.earlier)) r.covers;
}

reached_up : (l : Level) (above : List Item) (s n p : ℕ) (reach : Option (ℕ × ℕ)) → standing.IsReachedBy l (unwatched above) s n p reach → standing.IsReachedBy l above s n p reach
reached_up level.Lin above s n p (Some (t, a)) r = arrives_up above s n p t a r
reached_up level.Lin above s n p None r = r
reached_up level.Seq above s n p (Some ta) r = r
reached_up level.Seq above s n p None r = r

reached_down : (l : Level) (above : List Item) (s n p t a : ℕ) → payloads.IsReachedAt l above s n p t a → payloads.IsReachedAt l (unwatched above) s n p t a
reached_down level.Lin above s n p t a r = arrives_down above s n p t a r
reached_down level.Seq above s n p t a r = r

pub below_same : (s n : ℕ) (xs : List Item) → transcripts.commands_below s n (unwatched xs) ≡ transcripts.commands_below s n xs
below_same s n xs = ap (λ cs. count_by (λ c. transcripts.is_command c.1 && nat_lt c.0 n) cs) (calls_same s xs)

upto_same : (s n : ℕ) (xs : List Item) → transcripts.commands_upto s n (unwatched xs) ≡ transcripts.commands_upto s n xs
upto_same s n xs = ap (λ cs. count_by (λ c. transcripts.is_command c.1 && nat_le c.0 n) cs) (calls_same s xs)

-- a payload that is true of all items is true of the others
pub true_down : (h : histories.History) (above : List Item) (c : ℕ) (p : Payload) → payloads.IsTruePayload above h c p → payloads.IsTruePayload (unwatched above) h c p
true_down h above c (payload.Answer s n l p named term arrival r) t = record {
  name = t.name;
  query = t.query;
  called = stands_down (item.Called s n (call.Query l t.name t.query)) above refl t.called;
  within = t.within;
  live = t.live;
  behind = subst (λ k. k ≤ claims_once.dos_upto h s p) (sym (below_same s n above)) t.behind;
  last_event = t.last_event;
  answer = t.answer;
  reached = reached_down l above s n p term arrival t.reached;
}
true_down h above c (payload.Opened opening s) t = t
true_down h above c (payload.Reply s seq p named r) t = t
true_down h above c (payload.Gap s last) t = t
true_down h above c (payload.Batch s p prev es) t = t
true_down h above c (payload.Ended s p way) t = t
true_down h above c p t = tt

-- counts of a session's items
unsent_same : (s : ℕ) (xs : List Item) → count_by (outcome_order.is_unsent s) (unwatched xs) ≡ count_by (outcome_order.is_unsent s) xs
unsent_same s xs = count_same (outcome_order.is_unsent s) (λ x e. (shows_nothing s x e).unsent) xs

unanswered_count : (s : ℕ) (xs : List Item) → count_by (outcome_order.is_unanswered s) (unwatched xs) ≡ count_by (outcome_order.is_unanswered s) xs
unanswered_count s xs = count_same (outcome_order.is_unanswered s) (λ x e. (shows_nothing s x e).unanswered) xs

opened_same : (s : ℕ) (xs : List Item) → count_by (claims_right.is_opened s) (unwatched xs) ≡ count_by (claims_right.is_opened s) xs
opened_same s xs = count_same (claims_right.is_opened s) (λ x e. (shows_nothing s x e).opened) xs

ended_same : (s : ℕ) (xs : List Item) → count_by (outcome_order.is_ended s) (unwatched xs) ≡ count_by (outcome_order.is_ended s) xs
ended_same s xs = count_same (outcome_order.is_ended s) (λ x e. not_end s x e) xs
  where
    not_end : (t : ℕ) (x : Item) → claims_heard.is_watched x ≡ true → outcome_order.is_ended t x ≡ false
    not_end t (item.Watched c kind u p e) is = refl
    not_end t x is = absurd (on is)

outcomes_same : (s : ℕ) (xs : List Item) → transcripts.outcome_count s (unwatched xs) ≡ transcripts.outcome_count s xs
outcomes_same s xs = count_same (λ x. is_some (transcripts.outcome_of s x)) (λ x e. ap (λ o. is_some o) (shows_nothing s x e).outcome) xs

open_up : (s : ℕ) (above : List Item) → outcome_order.IsOpenFor s (unwatched above) → outcome_order.IsOpenFor s above
open_up s above o = (sym (opened_same s above) ∙ o.0, sym (ended_same s above) ∙ o.1)

-- the parts of a claim
abbrev RisesTo : ℕ → List Item → Option ℕ → Type 0
RisesTo s above None = Unit {0}
RisesTo s above (Some n) = AllByRecursion (outcome_order.IsBelowNumber s n) above

rises_up : (s : ℕ) (above : List Item) (o : Option ℕ) → RisesTo s (unwatched above) o → RisesTo s above o
rises_up s above None r = tt
rises_up s above (Some n) r = all_same (outcome_order.IsBelowNumber s n) (λ y is. none_below s n y (shows_nothing s y is).outcome) above r

abbrev FollowsTo : ℕ → List Item → Option ℕ → Type 0
FollowsTo s above None = Unit {0}
FollowsTo s above (Some n) = n ≡ transcripts.outcome_count s above + 1

follows_up : (s : ℕ) (above : List Item) (o : Option ℕ) → FollowsTo s (unwatched above) o → FollowsTo s above o
follows_up s above None r = tt
follows_up s above (Some n) r = r ∙ ap (λ k. k + 1) (outcomes_same s above)

numbered_up : (s : ℕ) (above : List Item) (x : Item) → outcome_order.IsNumbered s (unwatched above) x → outcome_order.IsNumbered s above x
numbered_up s above (item.Called t n w) is = λ e. ((is e).0 ∙ ap (λ cs. length cs + 1) (calls_same s above), sym (unsent_same s above) ∙ (is e).1)
numbered_up s above (item.Unsent t n) is =
    λ e. is e ∙ ap (λ cs. length cs + count_by (outcome_order.is_unsent s) (unwatched above) + 1) (calls_same s above) ∙ ap (λ k. length (transcripts.calls s above) + k + 1) (unsent_same s above)
numbered_up s above x is = tt

for_call_up : (s : ℕ) (above : List Item) (x : Item) → outcome_order.IsForItsCall s (unwatched above) x → outcome_order.IsForItsCall s above x
for_call_up s above (item.Reply t n p r) is = λ e. let q = is e in ((q.0.0, q.0.1, stands_up (item.Called s n (call.Command q.0.0 q.0.1)) above q.0.2), sym (unanswered_count s above) ∙ q.1)
for_call_up s above (item.Read t n l p reach r) is = λ e. let q = is e in ((q.0.0, q.0.1, stands_up (item.Called s n (call.Query l q.0.0 q.0.1)) above q.0.2), sym (unanswered_count s above) ∙ q.1)
for_call_up s above (item.Doubt t n) is = λ e. sym (unanswered_count s above) ∙ is e
for_call_up s above (item.Lost t n) is = λ e. sym (unanswered_count s above) ∙ is e
for_call_up s above (item.Unsent t n) is = λ e. sym (unanswered_count s above) ∙ is e
for_call_up s above (item.Unanswered t n) is = λ e. let q = is e in (q.0, stands_up (item.Called s n q.0) above q.1)
for_call_up s above x is = tt

session_up : (h : histories.History) (s : ℕ) (above : List Item) (x : Item) → outcome_order.IsInSession h s (unwatched above) x → outcome_order.IsInSession h s above x
session_up h s above (item.Called t n c) is = λ e. open_up s above (is e)
session_up h s above (item.Reply t n p r) is = λ e. open_up s above (is e)
session_up h s above (item.Read t n l p reach r) is = λ e. open_up s above (is e)
session_up h s above (item.Event t p prev events) is = λ e. open_up s above (is e)
session_up h s above (item.Ended t p way) is = λ e. (open_up s above (is e).0, (is e).1)
session_up h s above (item.Unsent t n) is = λ e. sym (ended_same s above) ∙ is e
session_up h s above x is = tt

growing_up : (h : histories.History) (s : ℕ) (above : List Item) (x : Item) → fresh_reads.IsGrowing h s (unwatched above) x → fresh_reads.IsGrowing h s above x
growing_up h s above (item.Read t n l p reach r) is = λ e.
    let q = is e in (
      all_same (fresh_reads.IsUpto s p) (λ y w. (shows_nothing s y w).upto p) above q.0,
      subst (λ k. k ≤ claims_once.dos_upto h s p) (below_same s n above) q.1,
    )
growing_up h s above x is = tt

heard_up : (h : histories.History) (s p : ℕ) (above : List Item) → claims_heard.AreHeardUpto h s p (unwatched above) → claims_heard.AreHeardUpto h s p above
heard_up h s p above a =
    all_since (λ e. e.place ≤ p → transcripts.StandsIn (item.Event s e.place e.prev e.events) (unwatched above)) (λ e. e.place ≤ p → transcripts.StandsIn (item.Event s e.place e.prev e.events) above)
    (λ e f l. stands_up (item.Event s e.place e.prev e.events) above (f l)) (histories.events h s) a

after_up : (h : histories.History) (s : ℕ) (above : List Item) (x : Item) → claims_heard.IsAfterEvents h s (unwatched above) x → claims_heard.IsAfterEvents h s above x
after_up h s above (item.Reply t n p r) is = λ e. heard_up h s p above (is e)
after_up h s above (item.Read t n l p reach r) is = λ e. heard_up h s p above (is e)
after_up h s above x is = tt

right_up : (h : histories.History) (above : List Item) (x : Item) → claims_right.IsRight h (unwatched above) x → claims_right.IsRight h above x
right_up h above (item.Opened s c) is = (is.0, sym (opened_same s above) ∙ is.1)
right_up h above (item.Reply s n p r) is = (ap (λ k. option_map (λ d. d.0) (lists.at_place (histories.dos h s) k)) (sym (upto_same s n above)) ∙ is.0, is.1)
right_up h above (item.Read s n l p reach r) is = ((is.0.0, is.0.1, stands_up (item.Called s n (call.Query l is.0.0 is.0.1)) above is.0.2, is.0.3), is.1)
right_up h above x is = tt

names_up : (above : List Item) (x : Item) → promises.NamesReach (unwatched above) x → promises.NamesReach above x
names_up above (item.Read s n l p reach r) is = reached_up l above s n p reach is
names_up above x is = tt

pub claim_up : (h : histories.History) (above : List Item) (x : Item) → promises.IsClaimed h (unwatched above) x → promises.IsClaimed h above x
claim_up h above x c = record {
  outcome = λ s. let o = c.outcome s in
      (numbered_up s above x o.0, rises_up s above (transcripts.outcome_of s x) o.1, follows_up s above (transcripts.outcome_of s x) o.2, for_call_up s above x o.3);
  in_session = λ s. session_up h s above x (c.in_session s);
  growing = λ s. growing_up h s above x (c.growing s);
  after_events = λ s. after_up h s above x (c.after_events s);
  right = right_up h above x c.right;
  reached = names_up above x c.reached;
  within = c.within;
}

-- what is of no session is claimed nothing
pub aside_claimed : (h : histories.History) (above : List Item) (x : Item) → inputs.session_in x ≡ None → promises.IsClaimed h above x
aside_claimed h above (item.Leader k t) e = record { outcome = λ s. (tt, tt, tt, tt); in_session = λ s. tt; growing = λ s. tt; after_events = λ s. tt; right = tt; reached = tt; within = tt }
aside_claimed h above (item.Commit p) e = record { outcome = λ s. (tt, tt, tt, tt); in_session = λ s. tt; growing = λ s. tt; after_events = λ s. tt; right = tt; reached = tt; within = tt }
aside_claimed h above (item.Reach k t a s n) e = record { outcome = λ u. (tt, tt, tt, tt); in_session = λ u. tt; growing = λ u. tt; after_events = λ u. tt; right = tt; reached = tt; within = tt }
aside_claimed h above (item.Halted k) e = record { outcome = λ s. (tt, tt, tt, tt); in_session = λ s. tt; growing = λ s. tt; after_events = λ s. tt; right = tt; reached = tt; within = tt }
aside_claimed h above (item.Watched c kind t p v) e = record { outcome = λ s. (tt, tt, tt, tt); in_session = λ s. tt; growing = λ s. tt; after_events = λ s. tt; right = tt; reached = tt; within = tt }
aside_claimed h above (item.Listed n) e = record { outcome = λ s. (tt, tt, tt, tt); in_session = λ s. tt; growing = λ s. tt; after_events = λ s. tt; right = tt; reached = tt; within = tt }
aside_claimed h above (item.Pending n f t k) e = record { outcome = λ s. (tt, tt, tt, tt); in_session = λ s. tt; growing = λ s. tt; after_events = λ s. tt; right = tt; reached = tt; within = tt }
aside_claimed h above (item.Skip r) e = record { outcome = λ s. (tt, tt, tt, tt); in_session = λ s. tt; growing = λ s. tt; after_events = λ s. tt; right = tt; reached = tt; within = tt }
aside_claimed h above (item.Opened s c) e = absurd (some_none s e)
aside_claimed h above (item.Called s n w) e = absurd (some_none s e)
aside_claimed h above (item.Event s p prev es) e = absurd (some_none s e)
aside_claimed h above (item.Reply s n p r) e = absurd (some_none s e)
aside_claimed h above (item.Read s n l p reach r) e = absurd (some_none s e)
aside_claimed h above (item.Ended s p way) e = absurd (some_none s e)
aside_claimed h above (item.Doubt s n) e = absurd (some_none s e)
aside_claimed h above (item.Lost s n) e = absurd (some_none s e)
aside_claimed h above (item.Unsent s n) e = absurd (some_none s e)
aside_claimed h above (item.Unanswered s n) e = absurd (some_none s e)

one_aside : (x : Item) (above rest : List Item) → inputs.session_in x ≡ None → outcome_order.EndsStep (x ∷ above) rest → outcome_order.EndsStep above (x ∷ rest)
one_aside (item.Leader k t) above rest e s = s
one_aside (item.Commit p) above rest e s = s
one_aside (item.Reach k t a u n) above rest e s = s
one_aside (item.Halted k) above rest e s = s
one_aside (item.Watched c kind t p v) above rest e s = s
one_aside (item.Listed n) above rest e s = s
one_aside (item.Pending n f t k) above rest e s = s
one_aside (item.Skip r) above rest e s = s
one_aside (item.Opened u c) above rest e s = s
one_aside (item.Called u n w) above rest e s = s
one_aside (item.Event u p prev es) above rest e s = s
one_aside (item.Reply u n p r) above rest e s = s
one_aside (item.Read u n l p reach r) above rest e s = s
one_aside (item.Unsent u n) above rest e s = s
one_aside (item.Unanswered u n) above rest e s = s
one_aside (item.Ended u p way) above rest e s = absurd (some_none u e)
one_aside (item.Doubt u n) above rest e s = absurd (some_none u e)
one_aside (item.Lost u n) above rest e s = absurd (some_none u e)

-- items of no session end nothing
pub aside_ends : (above items rest : List Item) → AllByRecursion (λ x. inputs.session_in x ≡ None) items → outcome_order.EndsStep (reverse items ++ above) rest → outcome_order.EndsStep above (items ++ rest)
aside_ends above [] rest a e = e
aside_ends above (x ∷ items) rest a e =
    one_aside x above (items ++ rest) a.0 (aside_ends (x ∷ above) items rest a.1 (subst (λ ys. outcome_order.EndsStep ys rest) (reverse_onto x items above) e))

-- the items of a client with what its watches show
pub watched_aside : (c : ℕ) (watches : List WatchKind) (x : Item) → AllByRecursion (λ y. claims_heard.is_watched y ≡ true) (moves.shown_below c watches x)
watched_aside c watches (item.Event s p prev es) = all_kinds watches
  where
    one_kind : (kind : WatchKind) (events : List Event) → AllByRecursion (λ y. claims_heard.is_watched y ≡ true) (map (λ e. item.Watched c kind s p e) events)
    one_kind kind [] = tt
    one_kind kind (e ∷ events) = (refl, one_kind kind events)

    all_kinds : (ws : List WatchKind) → AllByRecursion (λ y. claims_heard.is_watched y ≡ true) (flat_map (claims_heard.watched_by c s p es) ws)
    all_kinds [] = tt
    all_kinds (w ∷ ws) = all_append (λ y. claims_heard.is_watched y ≡ true) (claims_heard.watched_by c s p es w) (flat_map (claims_heard.watched_by c s p es) ws) (one_kind w (filter (claims_heard.holds w) es)) (all_kinds ws)
watched_aside c watches x = tt

none_left : (xs : List Item) → AllByRecursion (λ y. claims_heard.is_watched y ≡ true) xs → unwatched xs ≡ []
none_left xs a = filter_none (λ x. not (claims_heard.is_watched x)) xs (all_since (λ y. claims_heard.is_watched y ≡ true) (λ y. not (claims_heard.is_watched y) ≡ false) (λ y e. ap (λ b. not b) e) xs a)

pub unwatched_shown : (c : ℕ) (watches : List WatchKind) (items : List Item) → AllByRecursion (λ x. claims_heard.is_watched x ≡ false) items → unwatched (moves.with_shown c watches items) ≡ items
unwatched_shown c watches [] a = refl
unwatched_shown c watches (x ∷ items) a =
    let below = moves.shown_below c watches x in
    let rest = moves.with_shown c watches items in
    keeps_it x (below ++ rest) a.0 ∙ ap (λ ys. x ∷ ys) (filter-append (λ y. not (claims_heard.is_watched y)) below rest ∙ ap (λ ys. ys ++ unwatched rest) (none_left below (watched_aside c watches x)) ∙ unwatched_shown c watches items a.1)

below_more : (h : histories.History) (above below rest : List Item) → AllByRecursion (λ y. claims_heard.is_watched y ≡ true) below → transcripts.EachBelow (promises.IsClaimed h) (reverse below ++ above) rest
    → transcripts.EachBelow (promises.IsClaimed h) above (below ++ rest)
below_more h above [] rest a e = e
below_more h above (y ∷ below) rest a e =
    (aside_claimed h above y (none_in y a.0), below_more h (y ∷ above) below rest a.1 (subst (λ ys. transcripts.EachBelow (promises.IsClaimed h) ys rest) (reverse_onto y below above) e))

-- claims below all items, of a client's items with what is shown below them
pub shown_claimed : (h : histories.History) (c : ℕ) (watches : List WatchKind) (above items : List Item) → AllByRecursion (λ x. claims_heard.is_watched x ≡ false) items
    → transcripts.EachBelow (promises.IsClaimed h) (unwatched above) items → transcripts.EachBelow (promises.IsClaimed h) above (moves.with_shown c watches items)
shown_claimed h c watches above [] a e = tt
shown_claimed h c watches above (x ∷ items) a e =
    let below = moves.shown_below c watches x in
    let w : AllByRecursion (λ y. claims_heard.is_watched y ≡ true) below = watched_aside c watches x in
    let up : unwatched (reverse below ++ x ∷ above) ≡ x ∷ unwatched above =
    filter-append (λ y. not (claims_heard.is_watched y)) (reverse below) (x ∷ above) ∙ ap (λ ys. ys ++ unwatched (x ∷ above)) (unwatched_reverse below ∙ ap reverse (none_left below w)) ∙ keeps_it x above a.0 in
    (claim_up h above x e.0, below_more h (x ∷ above) below (moves.with_shown c watches items) w (shown_claimed h c watches (reverse below ++ x ∷ above) items a.1 (subst (λ ys. transcripts.EachBelow (promises.IsClaimed h) ys items) (sym up) e.1)))

-- so are ends
unshown : (s c : ℕ) (watches : List WatchKind) (cs : List (ℕ × WindowCall)) → moves.with_shown c watches (map (outcome_order.doubted s) cs) ≡ map (outcome_order.doubted s) cs
unshown s c watches [] = refl
unshown s c watches (d ∷ cs) =
    ap (λ ys. outcome_order.doubted s d ∷ ys ++ moves.with_shown c watches (map (outcome_order.doubted s) cs)) (by_test (λ y. moves.shown_below c watches y ≡ []) (transcripts.is_command d.1) (item.Doubt s d.0) (item.Lost s d.0) (λ e. refl) (λ e. refl))
    ∙ ap (λ ys. outcome_order.doubted s d ∷ ys) (unshown s c watches cs)

pub shown_ends : (c : ℕ) (watches : List WatchKind) (above items : List Item) → AllByRecursion (λ x. claims_heard.is_watched x ≡ false) items
    → outcome_order.EndsStep (unwatched above) items → outcome_order.EndsStep above (moves.with_shown c watches items)
shown_ends c watches above [] a e = tt
shown_ends c watches above (item.Ended s p how.Expired ∷ items) a e =
    ap (moves.with_shown c watches) e ∙ unshown s c watches (transcripts.unanswered s (reverse (unwatched above)))
    ∙ ap (λ cs. map (outcome_order.doubted s) cs) (ap (λ ys. transcripts.unanswered s ys) (sym (unwatched_reverse above)) ∙ unanswered_same s (reverse above))
shown_ends c watches above (item.Ended s p how.Closed ∷ items) a e =
    let up : unwatched (item.Ended s p how.Closed ∷ above) ≡ item.Ended s p how.Closed ∷ unwatched above = refl in (
      sym (unanswered_same s (reverse above)) ∙ ap (λ ys. transcripts.unanswered s ys) (unwatched_reverse above) ∙ e.0,
      shown_ends c watches (item.Ended s p how.Closed ∷ above) items a.1 e.1,
    )
shown_ends c watches above (item.Event s p prev es ∷ items) a e =
    let x = item.Event s p prev es in
    let below = moves.shown_below c watches x in
    let w : AllByRecursion (λ y. claims_heard.is_watched y ≡ true) below = watched_aside c watches x in
    let up : unwatched (reverse below ++ x ∷ above) ≡ x ∷ unwatched above =
    filter-append (λ y. not (claims_heard.is_watched y)) (reverse below) (x ∷ above) ∙ ap (λ ys. ys ++ unwatched (x ∷ above)) (unwatched_reverse below ∙ ap reverse (none_left below w)) in
    aside_ends (x ∷ above) below (moves.with_shown c watches items) (all_since (λ y. claims_heard.is_watched y ≡ true) (λ y. inputs.session_in y ≡ None) (λ y is. none_in y is) below w)
    (shown_ends c watches (reverse below ++ x ∷ above) items a.1 (subst (λ ys. outcome_order.EndsStep ys items) (sym up) e))
shown_ends c watches above (item.Doubt s n ∷ items) a e = absurd e
shown_ends c watches above (item.Lost s n ∷ items) a e = absurd e
shown_ends c watches above (item.Opened s d ∷ items) a e = shown_ends c watches (item.Opened s d ∷ above) items a.1 e
shown_ends c watches above (item.Called s n w ∷ items) a e = shown_ends c watches (item.Called s n w ∷ above) items a.1 e
shown_ends c watches above (item.Reply s n p r ∷ items) a e = shown_ends c watches (item.Reply s n p r ∷ above) items a.1 e
shown_ends c watches above (item.Read s n l p reach r ∷ items) a e = shown_ends c watches (item.Read s n l p reach r ∷ above) items a.1 e
shown_ends c watches above (item.Unsent s n ∷ items) a e = shown_ends c watches (item.Unsent s n ∷ above) items a.1 e
shown_ends c watches above (item.Unanswered s n ∷ items) a e = shown_ends c watches (item.Unanswered s n ∷ above) items a.1 e
shown_ends c watches above (item.Leader k t ∷ items) a e = shown_ends c watches (item.Leader k t ∷ above) items a.1 e
shown_ends c watches above (item.Commit p ∷ items) a e = shown_ends c watches (item.Commit p ∷ above) items a.1 e
shown_ends c watches above (item.Reach k t b s n ∷ items) a e = shown_ends c watches (item.Reach k t b s n ∷ above) items a.1 e
shown_ends c watches above (item.Halted k ∷ items) a e = shown_ends c watches (item.Halted k ∷ above) items a.1 e
shown_ends c watches above (item.Listed n ∷ items) a e = shown_ends c watches (item.Listed n ∷ above) items a.1 e
shown_ends c watches above (item.Pending n f t k ∷ items) a e = shown_ends c watches (item.Pending n f t k ∷ above) items a.1 e
shown_ends c watches above (item.Skip r ∷ items) a e = shown_ends c watches (item.Skip r ∷ above) items a.1 e
shown_ends c watches above (item.Watched d kind s p v ∷ items) a e = absurd (off a.0)
