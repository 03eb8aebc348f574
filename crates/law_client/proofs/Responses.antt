-- Answers: a call gets one, and release gives out those that may go, in order.
use Rattle.std.proofs.Common.{◌≡◌, ℕ, suc, ◌+◌, ◌<◌, ◌≤◌, cond, List, [], ◌∷◌, ◌++◌, map, reverse, length, refl, ap, sym, ◌∙◌, subst, inl, inr, ⊎_elim, arith, filter, find, append_assoc}
use Rattle.std.specs.Prelude.{Bool, true, false, ◌||◌, not, is_some, nat_eq, Option, Some, None, if◌then◌else◌}
use Rattle.std.specs.List.{AllByRecursion}
use Rattle.std.proofs.lemmas.List.{length-map}
use Rattle.std.proofs.lemmas.List.Elements.{filter-append}
use Rattle.ax_types.specs.declared.items.Item.{Item}
use Rattle.ax_types.specs.declared.items.Item.TheVariants as item
use Rattle.ax_types.specs.declared.ops.WindowCall.{WindowCall}
use Rattle.ax_types.specs.declared.ops.WindowCall.TheVariants as call
use Rattle.ax_types.specs.declared.sessions.Got.{Got}
use Rattle.spec_book.specs.History as histories
use Rattle.spec_claims.specs.Transcript as transcripts
use Rattle.spec_claims.specs.OutcomeOrder as outcome_order
use Rattle.spec_sequencer.specs.Sequencers as sequencers
use Rattle.spec_client.specs.Clients as clients
use Rattle.spec_client.specs.Receipts as receipts
use Rattle.law_release.specs.Releases as releases
use Rattle.law_release.proofs.Releases.{keeps}
use Rattle.law_release.proofs.Tests.{by_test, on_or_off, equal, is_equal, is_unequal}
use Rattle.law_client.specs.Standing as standing
use Rattle.law_client.specs.Promises as promises
use Rattle.law_client.proofs.Lists.{IsAmong, among_behind, some_same, all_since, all_append, reverse_onto, count_no, filter_all, filter_none}
use Rattle.law_client.proofs.Shown.{called_first, outcomes_more}
use Rattle.law_client.proofs.Own.{client_at, own_outcome, IsOutcomeOf}
use Rattle.law_client.proofs.Claims.{answer_claimed}

-- an answer that a client of the session gives out
abbrev pub IsResponse : ℕ → Item → Type 0
IsResponse s (item.Reply t n p r) = t ≡ s
IsResponse s (item.Read t n l p reach r) = t ≡ s
IsResponse s x = ⊥

answer_is : (s : ℕ) (g : Got) (r : clients.Request) (w : WindowCall) → IsResponse s (receipts.answer_item s g r w)
answer_is s g r (call.Command name o) = refl
answer_is s g r (call.Query l name q) = refl

pub response_unended : (s t : ℕ) (x : Item) → IsResponse s x → outcome_order.is_ended t x ≡ false
response_unended s t (item.Reply u n p r) e = refl
response_unended s t (item.Read u n l p reach r) e = refl
response_unended s t x e = absurd e

pub response_sent : (s t : ℕ) (x : Item) → IsResponse s x → outcome_order.is_unsent t x ≡ false
response_sent s t (item.Reply u n p r) e = refl
response_sent s t (item.Read u n l p reach r) e = refl
response_sent s t x e = absurd e

-- where an answer is given out, it is the outcome of its call
answer_outcome : (above : List Item) (s read : ℕ) (u : sequencers.Unanswered) (r : clients.Request) (g : Got) (w : WindowCall) → standing.IsAskedSo above s u r w
    → IsOutcomeOf s r.number (releases.read_after_giving read u g) (receipts.answer_item s g r w)
answer_outcome above s read u r g (call.Command name o) a =
    record { called = refl; outcome = rw (is_equal s s refl) refl; unsent = refl; unanswered = refl; opened = refl; heard = refl; upto = tt }
answer_outcome above s read u r g (call.Query l name q) a =
    let is : sequencers.is_query u ≡ true = ap (λ o. not (is_some o)) a.0 in
    record {
      called = refl;
      outcome = rw (is_equal s s refl) refl;
      unsent = refl;
      unanswered = refl;
      opened = refl;
      heard = refl;
      upto = λ e. subst (λ b. g.place ≤ (if b then g.place else read)) (sym is) (omega arith);
    }

-- what is left where answers were given out
pub record GaveOut (h : histories.History) (c : clients.Client) (above : List Item) (s read : ℕ) (kept : List sequencers.Unanswered) (rs : List clients.Request) (items : List Item) : Type 0 where
  pub before : List clients.Request
  pub requests : List clients.Request
  pub whole : rs ≡ before ++ requests
  pub own : standing.IsOwn h (client_at c kept requests read) (reverse items ++ above) s
  pub ends : standing.EndsAbove s (reverse items ++ above) 0
  pub unsent : standing.UnsentAbove s (reverse items ++ above) 0
  pub claimed : transcripts.EachBelow (promises.IsClaimed h) above items
  pub responses : AllByRecursion (IsResponse s) items
  pub later : transcripts.outcome_count s above ≤ transcripts.outcome_count s (reverse items ++ above)
  pub low : AllByRecursion (λ b. b.number ≤ transcripts.outcome_count s (reverse items ++ above)) before

gave_more : (h : histories.History) (c : clients.Client) (above : List Item) (s read : ℕ) (kept : List sequencers.Unanswered) (r : clients.Request) (rs : List clients.Request) (y : Item) (items : List Item)
    → r.number ≡ suc (transcripts.outcome_count s above) → transcripts.outcome_of s y ≡ Some r.number → promises.IsClaimed h above y → IsResponse s y
    → GaveOut h c (y ∷ above) s read kept rs items → GaveOut h c above s read kept (r ∷ rs) (y ∷ items)
gave_more h c above s read kept r rs y items number out claimed is g =
    let onto : reverse (y ∷ items) ++ above ≡ reverse items ++ y ∷ above = reverse_onto y items above in
    let back : reverse items ++ y ∷ above ≡ reverse (y ∷ items) ++ above = sym onto in
    let one : transcripts.outcome_count s (y ∷ above) ≡ suc (transcripts.outcome_count s above) = outcomes_more s r.number y above out in
    let later : transcripts.outcome_count s (y ∷ above) ≤ transcripts.outcome_count s (reverse (y ∷ items) ++ above) = subst (λ ys. transcripts.outcome_count s (y ∷ above) ≤ transcripts.outcome_count s ys) back g.later in
    record {
      before = r ∷ g.before;
      requests = g.requests;
      whole = ap (λ qs. r ∷ qs) g.whole;
      own = subst (λ ys. standing.IsOwn h (client_at c kept g.requests read) ys s) back g.own;
      ends = subst (λ ys. standing.EndsAbove s ys 0) back g.ends;
      unsent = subst (λ ys. standing.UnsentAbove s ys 0) back g.unsent;
      claimed = (claimed, g.claimed);
      responses = (is, g.responses);
      later = omega (arith, later, one);
      low = (omega (arith, later, one, number), subst (λ ys. AllByRecursion (λ b. b.number ≤ transcripts.outcome_count s ys) g.before) back g.low);
    }

not_earlier : (b : Bool) (read place : ℕ) → (b ≡ true → read ≤ place) → read ≤ (if b then place else read)
not_earlier true read place f = f refl
not_earlier false read place f = omega arith

pub gives_out : (h : histories.History) (c : clients.Client) (s read : ℕ) (given kept : List sequencers.Unanswered) (rs : List clients.Request) (xs : List (ℕ × Got)) (above : List Item)
    → clients.own_session c.state ≡ s → AllByRecursion (λ r. receipts.request c.requests r.number ≡ Some r) rs
    → standing.IsOwn h (client_at c (given ++ kept) rs read) above s → standing.EndsAbove s above 0 → standing.UnsentAbove s above 0
    → releases.AreGivenOut c.sequencer.heard read given xs
    → GaveOut h c above s (releases.last_read read given xs) kept rs (receipts.items_of c xs)
gives_out h c s read [] kept rs [] above mine found o ends unsent a =
    record { before = []; requests = rs; whole = refl; own = o; ends = ends; unsent = unsent; claimed = tt; responses = tt; later = omega arith; low = tt }
gives_out h c s read [] kept rs (x ∷ xs) above mine found o ends unsent a = absurd a
gives_out h c s read (u ∷ given) kept rs [] above mine found o ends unsent a = absurd a
gives_out h c s read (u ∷ given) kept [] (x ∷ xs) above mine found o ends unsent a = absurd o.asked
gives_out h c s read (u ∷ given) kept (r ∷ rs) (x ∷ xs) above mine found o ends unsent a =
    let g = x.1 in
    let y = receipts.answer_item s g r r.call in
    let now = releases.read_after_giving read u g in
    let asked : (r.number ≡ suc o.done) × standing.IsOpenCall h above s u r × standing.AreOpenCalls h above s (suc o.done) (given ++ kept) rs = o.asked in
    let i : standing.IsOpenCall h above s u r = asked.1 in
    let is : releases.IsGiven c.sequencer.heard read u g = a.1 in
    let out : IsOutcomeOf s r.number now y = answer_outcome above s read u r g r.call i.asked_so in
    let le : read ≤ now = not_earlier (sequencers.is_query u) read g.place is.place in
    let claimed : promises.IsClaimed h above y = answer_claimed h c above s read u (given ++ kept) r rs g o ends is.got is.events is.place in
    let same : receipts.items_of c (x ∷ xs) ≡ y ∷ receipts.items_of c xs =
    ap (λ n. receipts.item_for (clients.own_session c.state) g (receipts.request c.requests n) ++ receipts.items_of c xs) (a.0 ∙ i.number)
    ∙ ap (λ q. receipts.item_for (clients.own_session c.state) g q ++ receipts.items_of c xs) found.0
    ∙ ap (λ t. receipts.answer_item t g r r.call ∷ receipts.items_of c xs) mine in
    let more = gives_out h c s now given kept rs xs (y ∷ above) mine found.1 (own_outcome h c above s y u (given ++ kept) r rs read now out le o)
    (count_no (outcome_order.is_ended s) y above (response_unended s s y (answer_is s g r r.call)) ∙ ends)
    (count_no (outcome_order.is_unsent s) y above (response_sent s s y (answer_is s g r r.call)) ∙ unsent)
    a.2 in
    subst (GaveOut h c above s (releases.last_read now given xs) kept (r ∷ rs)) (sym same)
    (gave_more h c above s (releases.last_read now given xs) kept r rs y (receipts.items_of c xs) (asked.0 ∙ ap (λ k. suc k) (sym o.outcomes)) out.outcome claimed (answer_is s g r r.call) more)

-- each request is found by its number
find_past : (n : ℕ) (r : clients.Request) (before rs : List clients.Request) → AllByRecursion (λ b. b.number < n) before → r.number ≡ n → receipts.request (before ++ r ∷ rs) n ≡ Some r
find_past n r [] rs a e = ap (λ b. cond b (Some r) (receipts.request rs n)) (is_equal r.number n e)
find_past n r (b ∷ before) rs a e = ap (λ t. cond t (Some b) (receipts.request (before ++ r ∷ rs) n)) (is_unequal b.number n (λ f. omega (arith, f, a.0))) ∙ find_past n r before rs a.1 e

found_all : (h : histories.History) (above : List Item) (s done : ℕ) (us : List sequencers.Unanswered) (before rs : List clients.Request) → standing.AreOpenCalls h above s done us rs
    → AllByRecursion (λ b. b.number ≤ done) before → AllByRecursion (λ r. receipts.request (before ++ rs) r.number ≡ Some r) rs
found_all h above s done [] before [] a l = tt
found_all h above s done [] before (r ∷ rs) a l = absurd a
found_all h above s done (u ∷ us) before [] a l = absurd a
found_all h above s done (u ∷ us) before (r ∷ rs) a l =
    let e : r.number ≡ suc done = a.0 in
    let first : receipts.request (before ++ r ∷ rs) r.number ≡ Some r = find_past r.number r before rs (all_since (λ b. b.number ≤ done) (λ b. b.number < r.number) (λ b m. omega (arith, m, e)) before l) refl in
    let low : AllByRecursion (λ b. b.number ≤ suc done) (before ++ r ∷ []) = all_append (λ b. b.number ≤ suc done) before (r ∷ []) (all_since (λ b. b.number ≤ done) (λ b. b.number ≤ suc done) (λ b m. omega (arith, m)) before l) (omega (arith, e), tt) in
    let more = found_all h above s (suc done) us (before ++ r ∷ []) rs a.2 low in
    (first, subst (λ all. AllByRecursion (λ q. receipts.request all q.number ≡ Some q) rs) (append_assoc before (r ∷ []) rs) more)

-- the requests that are left are those of the calls that are left
lacking : (h : histories.History) (above : List Item) (s done : ℕ) (us : List sequencers.Unanswered) (rs : List clients.Request) → standing.AreOpenCalls h above s done us rs
    → AllByRecursion (λ r. receipts.lacks_outcome us r.number ≡ true) rs
lacking h above s done [] [] a = tt
lacking h above s done [] (r ∷ rs) a = absurd a
lacking h above s done (u ∷ us) [] a = absurd a
lacking h above s done (u ∷ us) (r ∷ rs) a =
    let i : standing.IsOpenCall h above s u r = a.1 in (
      ap (λ b. b || receipts.lacks_outcome us r.number) (is_equal u.number r.number i.number),
      all_since (λ q. receipts.lacks_outcome us q.number ≡ true) (λ q. receipts.lacks_outcome (u ∷ us) q.number ≡ true) (λ q e. ap (λ b. nat_eq u.number q.number || b) e ∙ or_true (nat_eq u.number q.number)) rs
          (lacking h above s (suc done) us rs a.2),
    )
  where
    or_true : (b : Bool) → (b || true) ≡ true
    or_true true = refl
    or_true false = refl

none_lacking : (h : histories.History) (above : List Item) (s done n : ℕ) (us : List sequencers.Unanswered) (rs : List clients.Request) → standing.AreOpenCalls h above s done us rs → n ≤ done
    → receipts.lacks_outcome us n ≡ false
none_lacking h above s done n [] rs a l = refl
none_lacking h above s done n (u ∷ us) [] a l = absurd a
none_lacking h above s done n (u ∷ us) (r ∷ rs) a l =
    let i : standing.IsOpenCall h above s u r = a.1 in
    let e : r.number ≡ suc done = a.0 in
    let f : u.number ≡ r.number = i.number in
    ap (λ b. b || receipts.lacks_outcome us n) (is_unequal u.number n (λ g. omega (arith, e, f, g, l))) ∙ none_lacking h above s (suc done) n us rs a.2 (omega (arith, l))

left_requests : (h : histories.History) (above : List Item) (s done : ℕ) (us : List sequencers.Unanswered) (before rs : List clients.Request) → standing.AreOpenCalls h above s done us rs
    → AllByRecursion (λ b. b.number ≤ done) before → receipts.requests_left (before ++ rs) us ≡ rs
left_requests h above s done us before rs a low =
    let test : clients.Request → Bool = λ r. receipts.lacks_outcome us r.number in
    filter-append test before rs
    ∙ ap (λ qs. qs ++ filter test rs) (filter_none test before (all_since (λ b. b.number ≤ done) (λ b. test b ≡ false) (λ b l. none_lacking h above s done b.number us rs a l) before low))
    ∙ filter_all test rs (lacking h above s done us rs a)

-- a call that lost its answer is asked as before
forgot : (h : histories.History) (above : List Item) (s done : ℕ) (u : sequencers.Unanswered) (us : List sequencers.Unanswered) (rs : List clients.Request) → standing.AreOpenCalls h above s done (u ∷ us) rs
    → standing.AreOpenCalls h above s done (record u { got = None } ∷ us) rs
forgot h above s done u us [] a = a
forgot h above s done u us (r ∷ rs) a =
    let i : standing.IsOpenCall h above s u r = a.1 in
    (a.0, record { number = i.number; called = i.called; asked_so = so r.call i.asked_so; got = tt }, a.2)
  where
    so : (w : WindowCall) → standing.IsAskedSo above s u r w → standing.IsAskedSo above s (record u { got = None }) r w
    so (call.Command name o) b = b
    so (call.Query l name q) b = b

left_asked : (h : histories.History) (above : List Item) (s done heard read : ℕ) (kept : List sequencers.Unanswered) (again : Option ℕ) (calls : List sequencers.Unanswered) (rs : List clients.Request)
    → releases.IsKeptBack heard read kept again calls → standing.AreOpenCalls h above s done kept rs → standing.AreOpenCalls h above s done calls rs
left_asked h above s done heard read kept None calls rs l a = subst (λ us. standing.AreOpenCalls h above s done us rs) (sym l.0) a
left_asked h above s done heard read [] (Some n) calls rs l a = absurd l
left_asked h above s done heard read (u ∷ us) (Some n) calls rs l a = subst (λ vs. standing.AreOpenCalls h above s done vs rs) (sym l.2) (forgot h above s done u us rs a)

left_many : (heard read : ℕ) (kept : List sequencers.Unanswered) (again : Option ℕ) (calls : List sequencers.Unanswered) → releases.IsKeptBack heard read kept again calls → length calls ≡ length kept
left_many heard read kept None calls l = ap (λ us. length us) l.0
left_many heard read [] (Some n) calls l = absurd l
left_many heard read (u ∷ us) (Some n) calls l = ap (λ vs. length vs) l.2

-- how a session stands speaks of some fields of a client alone
pub own_with : (h : histories.History) (c : clients.Client) (above : List Item) (s read seen : ℕ) (us vs : List sequencers.Unanswered) (rs : List clients.Request)
    → length vs ≡ length us → ((done : ℕ) → standing.AreOpenCalls h above s done us rs → standing.AreOpenCalls h above s done vs rs)
    → standing.IsOwn h (client_at c us rs read) above s
    → standing.IsOwn h (record c { sequencer = record c.sequencer { calls = vs; seen = seen; read = read }; requests = rs }) above s
own_with h c above s read seen us vs rs many asked o = record {
  opening = o.opening;
  opened = o.opened;
  there = o.there;
  unanswered = o.unanswered;
  called = o.called;
  commands = o.commands;
  numbers = o.numbers;
  done = o.done;
  outcomes = o.outcomes;
  still = ap (λ k. o.done + k) many ∙ o.still;
  below = o.below;
  asked = asked o.done o.asked;
  waiting = o.waiting;
  told = o.told;
  rest = o.rest;
  is_told = o.is_told;
  whole = o.whole;
  last = o.last;
  reads = o.reads;
}

-- what a release gives
pub record Released (h : histories.History) (above : List Item) (s : ℕ) (next : clients.Client) (items : List Item) : Type 0 where
  pub own : standing.IsOwn h next (reverse items ++ above) s
  pub ends : standing.EndsAbove s (reverse items ++ above) 0
  pub unsent : standing.UnsentAbove s (reverse items ++ above) 0
  pub claimed : transcripts.EachBelow (promises.IsClaimed h) above items
  pub responses : AllByRecursion (IsResponse s) items

-- a client after release
abbrev pub after_release : clients.Client → clients.Client
after_release c = record c { sequencer = sequencers.released c.sequencer; requests = receipts.requests_left c.requests (sequencers.release_of c.sequencer).calls }

pub release_keeps : (h : histories.History) (c : clients.Client) (above : List Item) (s : ℕ) → clients.own_session c.state ≡ s → standing.IsOwn h c above s → standing.EndsAbove s above 0 → standing.UnsentAbove s above 0
    → Released h above s (after_release c) (receipts.items_of c (sequencers.release_of c.sequencer).items)
release_keeps h c above s mine o ends unsent =
    let q = c.sequencer in
    let r = sequencers.release_of q in
    let k : releases.KeepsClaims q.heard q.read q.calls r = keeps q.heard q.seen q.read q.calls in
    let items = receipts.items_of c r.items in
    let found = found_all h above s o.done q.calls [] c.requests o.asked tt in
    let whole : standing.IsOwn h (client_at c (k.given ++ k.kept) c.requests q.read) above s = subst (λ us. standing.IsOwn h (client_at c us c.requests q.read) above s) k.whole o in
    let g : GaveOut h c above s (releases.last_read q.read k.given r.items) k.kept c.requests items = gives_out h c s q.read k.given k.kept c.requests r.items above mine found whole ends unsent k.items in
    let own : standing.IsOwn h (client_at c k.kept g.requests r.read) (reverse items ++ above) s =
    subst (λ read. standing.IsOwn h (client_at c k.kept g.requests read) (reverse items ++ above) s) (sym k.read_at) g.own in
    let now : standing.IsOwn h (record c { sequencer = sequencers.released q; requests = g.requests }) (reverse items ++ above) s =
    own_with h c (reverse items ++ above) s r.read r.seen k.kept r.calls g.requests (left_many q.heard r.read k.kept r.again r.calls k.left)
    (λ done a. left_asked h (reverse items ++ above) s done q.heard r.read k.kept r.again r.calls g.requests k.left a) own in
    let low : AllByRecursion (λ b. b.number ≤ now.done) g.before = subst (λ d. AllByRecursion (λ b. b.number ≤ d) g.before) now.outcomes g.low in
    let left : receipts.requests_left c.requests r.calls ≡ g.requests =
    ap (λ qs. receipts.requests_left qs r.calls) g.whole ∙ left_requests h (reverse items ++ above) s now.done r.calls g.before g.requests now.asked low in
    record {
      own = subst (λ qs. standing.IsOwn h (record c { sequencer = sequencers.released q; requests = qs }) (reverse items ++ above) s) (sym left) now;
      ends = g.ends;
      unsent = g.unsent;
      claimed = g.claimed;
      responses = g.responses;
    }

-- calls by their numbers
pub stands_called : (s n : ℕ) (w : WindowCall) (xs : List Item) → transcripts.StandsIn (item.Called s n w) xs → IsAmong (n, w) (transcripts.calls s xs)
stands_called s n w [] a = absurd a
stands_called s n w (x ∷ xs) (inl e) = subst (λ y. IsAmong (n, w) (transcripts.calls s (y ∷ xs))) (sym e) (subst (IsAmong (n, w)) (sym (called_first s n w xs)) (inl refl))
stands_called s n w (x ∷ xs) (inr a) = among_behind (n, w) (transcripts.called_by s x) (transcripts.calls s xs) (stands_called s n w xs a)

pub among_low : (n : ℕ) (w : WindowCall) (cs : List (ℕ × WindowCall)) → standing.AreNumberedDown cs → IsAmong (n, w) cs → n ≤ length cs
among_low n w [] a b = absurd b
among_low n w (c ∷ cs) a (inl e) = let f : c.0 ≡ n = ap (λ x. x.0) e in omega (arith, f, a.0)
among_low n w (c ∷ cs) a (inr b) = let l : n ≤ length cs = among_low n w cs a.1 b in omega (arith, l)

one_call : (n : ℕ) (v w : WindowCall) (cs : List (ℕ × WindowCall)) → standing.AreNumberedDown cs → IsAmong (n, v) cs → IsAmong (n, w) cs → v ≡ w
one_call n v w [] a b d = absurd b
one_call n v w (c ∷ cs) a (inl e) (inl f) = ap (λ x. x.1) (sym e ∙ f)
one_call n v w (c ∷ cs) a (inl e) (inr d) = let f : c.0 ≡ n = ap (λ x. x.0) e in let l : n ≤ length cs = among_low n w cs a.1 d in absurd (omega (arith, f, l, a.0))
one_call n v w (c ∷ cs) a (inr b) (inl e) = let f : c.0 ≡ n = ap (λ x. x.0) e in let l : n ≤ length cs = among_low n v cs a.1 b in absurd (omega (arith, f, l, a.0))
one_call n v w (c ∷ cs) a (inr b) (inr d) = one_call n v w cs a.1 b d

-- a number has one call
pub same_call : (h : histories.History) (c : clients.Client) (above : List Item) (s n : ℕ) (v w : WindowCall) → standing.IsOwn h c above s
    → transcripts.StandsIn (item.Called s n v) above → transcripts.StandsIn (item.Called s n w) above → v ≡ w
same_call h c above s n v w o a b = one_call n v w (transcripts.calls s above) o.numbers (stands_called s n v above a) (stands_called s n w above b)

-- an answer for the calls of a number
first_answer : (h : histories.History) (above : List Item) (s : ℕ) (r : clients.Request) (w : WindowCall) (old : Option Got) (g : Got) → standing.IsTrueGot h above s r w old → standing.IsTrueGot h above s r w (Some g)
    → standing.IsTrueGot h above s r w (Some (sequencers.first_got old g))
first_answer h above s r w None g a b = b
first_answer h above s r w (Some old) g a b = a

gets_answer : (h : histories.History) (above : List Item) (s n : ℕ) (g : Got) (u : sequencers.Unanswered) (r : clients.Request) → standing.IsOpenCall h above s u r
    → (u.number ≡ n → standing.IsTrueGot h above s r r.call (Some g)) → standing.IsOpenCall h above s (sequencers.get_answer n g u) r
gets_answer h above s n g u r i f =
    by_test (λ v. standing.IsOpenCall h above s v r) (nat_eq u.number n) (record u { got = Some (sequencers.first_got u.got g) }) u
    (λ e. record { number = i.number; called = i.called; asked_so = so r.call i.asked_so; got = first_answer h above s r r.call u.got g i.got (f (equal u.number n e)) })
    (λ e. i)
  where
    so : (w : WindowCall) → standing.IsAskedSo above s u r w → standing.IsAskedSo above s (record u { got = Some (sequencers.first_got u.got g) }) r w
    so (call.Command name o) b = b
    so (call.Query l name q) b = b

answered : (h : histories.History) (above : List Item) (s n done : ℕ) (g : Got) (us : List sequencers.Unanswered) (rs : List clients.Request) → standing.AreOpenCalls h above s done us rs
    → ((u : sequencers.Unanswered) (r : clients.Request) → standing.IsOpenCall h above s u r → u.number ≡ n → standing.IsTrueGot h above s r r.call (Some g))
    → standing.AreOpenCalls h above s done (map (sequencers.get_answer n g) us) rs
answered h above s n done g [] [] a f = tt
answered h above s n done g [] (r ∷ rs) a f = absurd a
answered h above s n done g (u ∷ us) [] a f = absurd a
answered h above s n done g (u ∷ us) (r ∷ rs) a f = (a.0, gets_answer h above s n g u r a.1 (f u r a.1), answered h above s n (suc done) g us rs a.2 f)

pub own_answered : (h : histories.History) (c : clients.Client) (above : List Item) (s n : ℕ) (g : Got) → standing.IsOwn h c above s
    → ((u : sequencers.Unanswered) (r : clients.Request) → standing.IsOpenCall h above s u r → u.number ≡ n → standing.IsTrueGot h above s r r.call (Some g))
    → standing.IsOwn h (record c { sequencer = sequencers.with_answer c.sequencer n g }) above s
own_answered h c above s n g o f =
    own_with h c above s c.sequencer.read c.sequencer.seen c.sequencer.calls (map (sequencers.get_answer n g) c.sequencer.calls) c.requests (length-map c.sequencer.calls (sequencers.get_answer n g))
    (λ done a. answered h above s n done g c.sequencer.calls c.requests a f) o

-- the call that is found by a test, with its request
pub record Found (h : histories.History) (above : List Item) (s : ℕ) (test : sequencers.Unanswered → Bool) (u : sequencers.Unanswered) : Type 0 where
  pub request : clients.Request
  pub asked : standing.IsOpenCall h above s u request
  pub passes : test u ≡ true

pub found_pair : (h : histories.History) (above : List Item) (s done : ℕ) (test : sequencers.Unanswered → Bool) (us : List sequencers.Unanswered) (rs : List clients.Request) (u : sequencers.Unanswered) → standing.AreOpenCalls h above s done us rs
    → find test us ≡ Some u → Found h above s test u
found_pair h above s done test [] rs u a e = absurd (cc)
found_pair h above s done test (v ∷ us) [] u a e = absurd a
found_pair h above s done test (v ∷ us) (r ∷ rs) u a e =
    ⊎_elim
    (λ f.
    let g : v ≡ u = some_same v u (sym (ap (λ b. cond b (Some v) (find test us)) f) ∙ e) in
    record { request = r; asked = subst (λ x. standing.IsOpenCall h above s x r) g a.1; passes = ap (λ x. test x) (sym g) ∙ f })
    (λ f. found_pair h above s (suc done) test us rs u a.2 (sym (ap (λ b. cond b (Some v) (find test us)) f) ∙ e))
    (on_or_off (test v))
