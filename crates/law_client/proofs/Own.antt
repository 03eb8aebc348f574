-- The client's own session, one item more above.
use Rattle.std.proofs.Common.{◌≡◌, ℕ, suc, ◌+◌, ◌≤◌, cond, List, [], ◌∷◌, ◌++◌, map, reverse, length, refl, ap, sym, ◌∙◌, subst, inl, inr, arith, count_by, filter, append_assoc, length-append}
use Rattle.std.specs.Prelude.{Bool, false, not, ◌&&◌, nat_le, nat_lt, Option, Some, None, if◌then◌else◌}
use Rattle.std.specs.List.{AllByRecursion}
use Rattle.std.proofs.lemmas.List.{map-append}
use Rattle.ax_types.specs.Places as lists
use Rattle.ax_types.specs.declared.items.Item.{Item}
use Rattle.ax_types.specs.declared.items.Item.TheVariants as item
use Rattle.ax_types.specs.declared.ops.Level.{Level}
use Rattle.ax_types.specs.declared.ops.Level.TheVariants as level
use Rattle.ax_types.specs.declared.ops.WindowCall.{WindowCall}
use Rattle.ax_types.specs.declared.ops.WindowCall.TheVariants as call
use Rattle.ax_types.specs.declared.replies.Event.{Event}
use Rattle.ax_types.specs.declared.sessions.Got.{Got}
use Rattle.spec_book.specs.History as histories
use Rattle.spec_claims.specs.Transcript as transcripts
use Rattle.spec_claims.specs.Once as claims_once
use Rattle.spec_claims.specs.Right as claims_right
use Rattle.spec_claims.specs.FreshReads as fresh_reads
use Rattle.spec_claims.specs.Heard as claims_heard
use Rattle.spec_claims.specs.OutcomeOrder as outcome_order
use Rattle.spec_claims.specs.Payloads as payloads
use Rattle.spec_sequencer.specs.Sequencers as sequencers
use Rattle.spec_client.specs.Clients as clients
use Rattle.law_client.specs.Standing as standing
use Rattle.law_release.proofs.Tests.{is_equal, is_at_most, is_above, is_below, is_not_below}
use Rattle.law_client.proofs.Lists.{count_more, count_no, count_yes, all_since}
use Rattle.law_client.proofs.Chain.{last_end, end_more}
use Rattle.law_client.proofs.Shown.{ShowsNone, IsBlank, called_first, and_true, and_false, calls_same, upto_same, below_same, outcomes_same, outcomes_more, none_below, some_below, below_more, heard_more, heard_same, waiting_same, waiting_less, waiting_outcome, waiting_called}

-- the commands counted up to and below a number, where the calls that are counted have numbers up to k
pub record SameRanks (s k : ℕ) (x : Item) (above : List Item) : Type 0 where
  pub upto : (n : ℕ) → n ≤ k → transcripts.commands_upto s n (x ∷ above) ≡ transcripts.commands_upto s n above
  pub below : (n : ℕ) → n ≤ k → transcripts.commands_below s n (x ∷ above) ≡ transcripts.commands_below s n above

pub calls_none : (s k : ℕ) (x : Item) (above : List Item) → transcripts.called_by s x ≡ [] → SameRanks s k x above
calls_none s k x above e = record { upto = λ n l. upto_same s n x above e; below = λ n l. below_same s n x above e }

-- an arrival that stands above still does
reached_more : (l : Level) (above : List Item) (x : Item) (s n p : ℕ) (reach : Option (ℕ × ℕ)) → standing.IsReachedBy l above s n p reach → standing.IsReachedBy l (x ∷ above) s n p reach
reached_more level.Lin above x s n p (Some (t, a)) r = record { node = r.node; later = x ∷ r.later; earlier = r.earlier; there = ap (λ ys. x ∷ ys) r.there; covers = r.covers }
reached_more level.Lin above x s n p None r = r
reached_more level.Seq above x s n p (Some ta) r = r
reached_more level.Seq above x s n p None r = r

got_more : (h : histories.History) (above : List Item) (x : Item) (s k : ℕ) (r : clients.Request) (w : WindowCall) (got : Option Got) → SameRanks s k x above → r.number ≤ k
    → standing.IsTrueGot h above s r w got → standing.IsTrueGot h (x ∷ above) s r w got
got_more h above x s k r w None same l g = tt
got_more h above x s k r (call.Command name o) (Some g) same l t = t
got_more h above x s k r (call.Query lev name q) (Some g) same l t = record {
  behind = subst (λ m. m ≤ claims_once.dos_upto h s g.place) (sym (same.below r.number l)) t.behind;
  within = t.within;
  live = t.live;
  last_event = t.last_event;
  answer = t.answer;
  reached = reached_more lev above x s r.number g.place g.reach t.reached;
}

asked_so_more : (above : List Item) (x : Item) (s k : ℕ) (u : sequencers.Unanswered) (r : clients.Request) (w : WindowCall) → SameRanks s k x above → r.number ≤ k
    → standing.IsAskedSo above s u r w → standing.IsAskedSo (x ∷ above) s u r w
asked_so_more above x s k u r (call.Command name o) same l a = (a.0, a.1, a.2 ∙ sym (same.upto r.number l))
asked_so_more above x s k u r (call.Query lev name q) same l a = (a.0, a.1, a.2 ∙ sym (same.below r.number l))

pub asked_more : (h : histories.History) (above : List Item) (x : Item) (s k done : ℕ) (us : List sequencers.Unanswered) (rs : List clients.Request) → SameRanks s k x above → done + length us ≤ k
    → standing.AreOpenCalls h above s done us rs → standing.AreOpenCalls h (x ∷ above) s done us rs
asked_more h above x s k done [] [] same l a = tt
asked_more h above x s k done [] (r ∷ rs) same l a = absurd a
asked_more h above x s k done (u ∷ us) [] same l a = absurd a
asked_more h above x s k done (u ∷ us) (r ∷ rs) same l a =
    let m : r.number ≤ k = omega (arith, l, a.0) in
    let i : standing.IsOpenCall h above s u r = a.1 in
    let j : standing.IsOpenCall h (x ∷ above) s u r = record {
      number = i.number;
      called = inr i.called;
      asked_so = asked_so_more above x s k u r r.call same m i.asked_so;
      got = got_more h above x s k r r.call u.got same m i.got;
    } in
    (a.0, j, asked_more h above x s k (suc done) us rs same (omega (arith, l)) a.2)

-- one more that is asked
pub asked_push : (h : histories.History) (above : List Item) (s done : ℕ) (us : List sequencers.Unanswered) (rs : List clients.Request) (u : sequencers.Unanswered) (r : clients.Request)
    → standing.AreOpenCalls h above s done us rs → r.number ≡ suc (done + length us) → standing.IsOpenCall h above s u r
    → standing.AreOpenCalls h above s done (us ++ u ∷ []) (rs ++ r ∷ [])
asked_push h above s done [] [] u r a e i = (omega (arith, e), i, tt)
asked_push h above s done [] (q ∷ rs) u r a e i = absurd a
asked_push h above s done (v ∷ us) [] u r a e i = absurd a
asked_push h above s done (v ∷ us) (q ∷ rs) u r a e i = (a.0, a.1, asked_push h above s (suc done) us rs u r a.2 (omega (arith, e)) i)

-- the calls behind the first have other numbers
pub rest_apart : (h : histories.History) (above : List Item) (s done n : ℕ) (us : List sequencers.Unanswered) (rs : List clients.Request) → n ≤ done → standing.AreOpenCalls h above s done us rs
    → AllByRecursion (λ c. c.0 ≡ n → ⊥) (map standing.asked_call rs)
rest_apart h above s done n [] [] l a = tt
rest_apart h above s done n [] (r ∷ rs) l a = absurd a
rest_apart h above s done n (u ∷ us) [] l a = absurd a
rest_apart h above s done n (u ∷ us) (r ∷ rs) l a = (λ e. omega (arith, e, l, a.0), rest_apart h above s (suc done) n us rs (omega (arith, l)) a.2)

-- a client whose calls, requests and last read are these
abbrev pub client_at : clients.Client → List sequencers.Unanswered → List clients.Request → ℕ → clients.Client
client_at c us rs read = record c { sequencer = record c.sequencer { calls = us; read = read }; requests = rs }

-- an item that shows nothing of the session
pub own_aside : (h : histories.History) (c : clients.Client) (above : List Item) (s : ℕ) (x : Item) → ShowsNone s x → standing.IsOwn h c above s → standing.IsOwn h c (x ∷ above) s
own_aside h c above s x n o =
    let calls : transcripts.calls s (x ∷ above) ≡ transcripts.calls s above = calls_same s x above n.called in
    let many : length (transcripts.calls s (x ∷ above)) ≡ length (transcripts.calls s above) = ap (λ cs. length cs) calls in
    record {
      opening = o.opening;
      opened = count_no (claims_right.is_opened s) x above n.opened ∙ o.opened;
      there = inr o.there;
      unanswered = count_no (outcome_order.is_unanswered s) x above n.unanswered ∙ o.unanswered;
      called = ap (λ k. k + count_by (outcome_order.is_unsent s) (x ∷ above)) many ∙ ap (λ k. length (transcripts.calls s above) + k) (count_no (outcome_order.is_unsent s) x above n.unsent) ∙ o.called;
      commands = ap (λ cs. count_by (λ w. transcripts.is_command w.1) cs) calls ∙ o.commands;
      numbers = subst standing.AreNumberedDown (sym calls) o.numbers;
      done = o.done;
      outcomes = outcomes_same s x above n.outcome ∙ o.outcomes;
      still = o.still;
      below = (none_below s (suc o.done) x n.outcome, o.below);
      asked = asked_more h above x s c.calls o.done c.sequencer.calls c.requests (calls_none s c.calls x above n.called) (omega (arith, o.still)) o.asked;
      waiting = waiting_same s x above n.called n.outcome ∙ o.waiting;
      told = o.told;
      rest = o.rest;
      is_told = heard_same s x above n.heard ∙ o.is_told;
      whole = o.whole;
      last = o.last;
      reads = (n.upto c.sequencer.read, o.reads);
    }

-- an item that is the outcome of the first call without one
pub record IsOutcomeOf (s n read : ℕ) (x : Item) : Type 0 where
  pub called : transcripts.called_by s x ≡ []
  pub outcome : transcripts.outcome_of s x ≡ Some n
  pub unsent : outcome_order.is_unsent s x ≡ false
  pub unanswered : outcome_order.is_unanswered s x ≡ false
  pub opened : claims_right.is_opened s x ≡ false
  pub heard : claims_heard.heard_by s x ≡ []
  pub upto : fresh_reads.IsUpto s read x

upto_since : (s p q : ℕ) (x : Item) → p ≤ q → fresh_reads.IsUpto s p x → fresh_reads.IsUpto s q x
upto_since s p q (item.Read t n l place reach r) le u = λ e. let v : place ≤ p = u e in omega (arith, le, v)
upto_since s p q (item.Leader k t) le u = tt
upto_since s p q (item.Commit k) le u = tt
upto_since s p q (item.Reach k t a d n) le u = tt
upto_since s p q (item.Halted k) le u = tt
upto_since s p q (item.Opened t k) le u = tt
upto_since s p q (item.Called t n w) le u = tt
upto_since s p q (item.Event t k prev es) le u = tt
upto_since s p q (item.Watched k kind t place e) le u = tt
upto_since s p q (item.Reply t n place r) le u = tt
upto_since s p q (item.Ended t place how) le u = tt
upto_since s p q (item.Doubt t n) le u = tt
upto_since s p q (item.Lost t n) le u = tt
upto_since s p q (item.Unsent t n) le u = tt
upto_since s p q (item.Unanswered t n) le u = tt
upto_since s p q (item.Listed k) le u = tt
upto_since s p q (item.Pending n f t kind) le u = tt
upto_since s p q (item.Skip r) le u = tt

pub reads_since : (s p q : ℕ) (above : List Item) → p ≤ q → AllByRecursion (fresh_reads.IsUpto s p) above → AllByRecursion (fresh_reads.IsUpto s q) above
reads_since s p q above le a = all_since (fresh_reads.IsUpto s p) (fresh_reads.IsUpto s q) (λ x u. upto_since s p q x le u) above a

pub own_outcome : (h : histories.History) (c : clients.Client) (above : List Item) (s : ℕ) (x : Item) (u : sequencers.Unanswered) (us : List sequencers.Unanswered) (r : clients.Request) (rs : List clients.Request) (read now : ℕ)
    → IsOutcomeOf s r.number now x → read ≤ now → standing.IsOwn h (client_at c (u ∷ us) (r ∷ rs) read) above s → standing.IsOwn h (client_at c us rs now) (x ∷ above) s
own_outcome h c above s x u us r rs read now n le o =
    let calls : transcripts.calls s (x ∷ above) ≡ transcripts.calls s above = calls_same s x above n.called in
    let many : length (transcripts.calls s (x ∷ above)) ≡ length (transcripts.calls s above) = ap (λ cs. length cs) calls in
    let a : (r.number ≡ suc o.done) × standing.IsOpenCall h above s u r × standing.AreOpenCalls h above s (suc o.done) us rs = o.asked in
    let still : o.done + suc (length us) ≡ c.calls = o.still in
    let first : r.number ≡ suc o.done = a.0 in
    record {
      opening = o.opening;
      opened = count_no (claims_right.is_opened s) x above n.opened ∙ o.opened;
      there = inr o.there;
      unanswered = count_no (outcome_order.is_unanswered s) x above n.unanswered ∙ o.unanswered;
      called = ap (λ k. k + count_by (outcome_order.is_unsent s) (x ∷ above)) many ∙ ap (λ k. length (transcripts.calls s above) + k) (count_no (outcome_order.is_unsent s) x above n.unsent) ∙ o.called;
      commands = ap (λ cs. count_by (λ w. transcripts.is_command w.1) cs) calls ∙ o.commands;
      numbers = subst standing.AreNumberedDown (sym calls) o.numbers;
      done = suc o.done;
      outcomes = outcomes_more s r.number x above n.outcome ∙ ap (λ k. suc k) o.outcomes;
      still = omega (arith, still);
      below = (some_below s r.number (suc (suc o.done)) x n.outcome (omega (arith, first)), below_more s (suc o.done) (suc (suc o.done)) (omega arith) above o.below);
      asked = asked_more h above x s c.calls (suc o.done) us rs (calls_none s c.calls x above n.called) (omega (arith, still)) a.2;
      waiting = waiting_outcome s r.number r.call (map standing.asked_call rs) x above n.called n.outcome o.waiting (rest_apart h above s (suc o.done) r.number us rs (omega (arith, first)) a.2);
      told = o.told;
      rest = o.rest;
      is_told = heard_same s x above n.heard ∙ o.is_told;
      whole = o.whole;
      last = o.last;
      reads = (n.upto, reads_since s read now above le o.reads);
    }

-- the next batch of events
pub own_event : (h : histories.History) (c : clients.Client) (above : List Item) (s p prev : ℕ) (es : List Event) (more : List histories.Heard) → (o : standing.IsOwn h c above s)
    → o.rest ≡ (record { place = p; prev = prev; events = es }) ∷ more
    → standing.IsOwn h (record c { sequencer = record c.sequencer { heard = p } }) (item.Event s p prev es ∷ above) s
own_event h c above s p prev es more o is =
    let x = item.Event s p prev es in
    let e : histories.Heard = record { place = p; prev = prev; events = es } in
    record {
      opening = o.opening;
      opened = o.opened;
      there = inr o.there;
      unanswered = o.unanswered;
      called = o.called;
      commands = o.commands;
      numbers = o.numbers;
      done = o.done;
      outcomes = o.outcomes;
      still = o.still;
      below = (tt, o.below);
      asked = asked_more h above x s c.calls o.done c.sequencer.calls c.requests (calls_none s c.calls x above refl) (omega (arith, o.still)) o.asked;
      waiting = waiting_same s x above refl refl ∙ o.waiting;
      told = o.told ++ e ∷ [];
      rest = more;
      is_told = heard_more s x above ∙ ap (λ b. claims_heard.heard s (reverse above) ++ (if b then e ∷ [] else [])) (is_equal s s refl) ∙ ap (λ ys. ys ++ e ∷ []) o.is_told;
      whole = o.whole ∙ ap (λ ys. o.told ++ ys) is ∙ sym (append_assoc o.told (e ∷ []) more);
      last = last_end (o.told ++ e ∷ []) ∙ end_more 0 o.told e;
      reads = (tt, o.reads);
    }

-- a number that is used up below the end
pub own_unsent : (h : histories.History) (c : clients.Client) (above : List Item) (s : ℕ) → standing.IsOwn h c above s → c.requests ≡ [] → c.sequencer.calls ≡ []
    → standing.IsOwn h (clients.unsent c) (item.Unsent s (suc c.calls) ∷ above) s
own_unsent h c above s o none none_too =
    let x = item.Unsent s (suc c.calls) in
    let out : transcripts.outcome_of s x ≡ Some (suc c.calls) = rw (is_equal s s refl) refl in
    let still : o.done + length c.sequencer.calls ≡ c.calls = o.still in
    let zero_left : length c.sequencer.calls ≡ 0 = ap (λ us. length us) none_too in
    let one : count_by (outcome_order.is_unsent s) (x ∷ above) ≡ suc (count_by (outcome_order.is_unsent s) above) = count_yes (outcome_order.is_unsent s) x above (is_equal s s refl) in
    record {
      opening = o.opening;
      opened = o.opened;
      there = inr o.there;
      unanswered = o.unanswered;
      called = omega (arith, one, o.called);
      commands = o.commands;
      numbers = o.numbers;
      done = suc o.done;
      outcomes = outcomes_more s (suc c.calls) x above out ∙ ap (λ k. suc k) o.outcomes;
      still = omega (arith, still);
      below = (some_below s (suc c.calls) (suc (suc o.done)) x out (omega (arith, still, zero_left)), below_more s (suc o.done) (suc (suc o.done)) (omega arith) above o.below);
      asked = subst (λ us. standing.AreOpenCalls h (x ∷ above) s (suc o.done) us c.requests) (sym none_too) (subst (λ rs. standing.AreOpenCalls h (x ∷ above) s (suc o.done) [] rs) (sym none) tt);
      waiting = waiting_less s x above refl ∙ ap (λ cs. filter (λ c. not (transcripts.is_outcome s c.0 x)) cs) (o.waiting ∙ ap (λ rs. map standing.asked_call rs) none) ∙ ap (λ rs. map standing.asked_call rs) (sym none);
      told = o.told;
      rest = o.rest;
      is_told = heard_same s x above refl ∙ o.is_told;
      whole = o.whole;
      last = o.last;
      reads = (tt, o.reads);
    }

pub all_low : (k : ℕ) (cs : List (ℕ × WindowCall)) → length cs ≤ k → standing.AreNumberedDown cs → AllByRecursion (λ w. w.0 ≤ k) cs
all_low k [] l a = tt
all_low k (c ∷ cs) l a = (omega (arith, l, a.0), all_low k cs (omega (arith, l)) a.1)

-- the commands with numbers up to n, where all numbers are at most that
upto_all : (n : ℕ) (cs : List (ℕ × WindowCall)) → AllByRecursion (λ w. w.0 ≤ n) cs → count_by (λ w. transcripts.is_command w.1 && nat_le w.0 n) cs ≡ count_by (λ w. transcripts.is_command w.1) cs
upto_all n [] a = refl
upto_all n (c ∷ cs) a =
    count_more (λ w. transcripts.is_command w.1 && nat_le w.0 n) c cs
    ∙ ap (λ b. cond b 1 0 + count_by (λ w. transcripts.is_command w.1 && nat_le w.0 n) cs) (ap (λ b. transcripts.is_command c.1 && b) (is_at_most c.0 n a.0) ∙ and_true (transcripts.is_command c.1))
    ∙ ap (λ k. cond (transcripts.is_command c.1) 1 0 + k) (upto_all n cs a.1) ∙ sym (count_more (λ w. transcripts.is_command w.1) c cs)

below_all : (n : ℕ) (cs : List (ℕ × WindowCall)) → AllByRecursion (λ w. w.0 ≤ n) cs → count_by (λ w. transcripts.is_command w.1 && nat_lt w.0 (suc n)) cs ≡ count_by (λ w. transcripts.is_command w.1) cs
below_all n [] a = refl
below_all n (c ∷ cs) a =
    count_more (λ w. transcripts.is_command w.1 && nat_lt w.0 (suc n)) c cs
    ∙ ap (λ b. cond b 1 0 + count_by (λ w. transcripts.is_command w.1 && nat_lt w.0 (suc n)) cs) (ap (λ b. transcripts.is_command c.1 && b) (is_below c.0 (suc n) (omega (arith, a.0))) ∙ and_true (transcripts.is_command c.1))
    ∙ ap (λ k. cond (transcripts.is_command c.1) 1 0 + k) (below_all n cs a.1) ∙ sym (count_more (λ w. transcripts.is_command w.1) c cs)

-- the ranks of a new call
pub new_rank : (c above_calls : ℕ) (s : ℕ) (w : WindowCall) (above : List Item) → AllByRecursion (λ v. v.0 ≤ c) (transcripts.calls s above) → count_by (λ v. transcripts.is_command v.1) (transcripts.calls s above) ≡ above_calls
    → transcripts.commands_upto s (suc c) (item.Called s (suc c) w ∷ above) ≡ cond (transcripts.is_command w) 1 0 + above_calls
new_rank c above_calls s w above a e =
    let test : ℕ × WindowCall → Bool = λ v. transcripts.is_command v.1 && nat_le v.0 (suc c) in
    ap (λ cs. count_by test cs) (called_first s (suc c) w above) ∙ count_more test (suc c, w) (transcripts.calls s above)
    ∙ ap (λ b. cond b 1 0 + count_by test (transcripts.calls s above)) (ap (λ b. transcripts.is_command w && b) (is_at_most (suc c) (suc c) (omega arith)) ∙ and_true (transcripts.is_command w))
    ∙ ap (λ k. cond (transcripts.is_command w) 1 0 + k) (upto_all (suc c) (transcripts.calls s above) (all_since (λ v. v.0 ≤ c) (λ v. v.0 ≤ suc c) (λ v l. omega (arith, l)) (transcripts.calls s above) a) ∙ e)

pub new_below : (c above_calls : ℕ) (s : ℕ) (w : WindowCall) (above : List Item) → AllByRecursion (λ v. v.0 ≤ c) (transcripts.calls s above) → count_by (λ v. transcripts.is_command v.1) (transcripts.calls s above) ≡ above_calls
    → transcripts.commands_below s (suc c) (item.Called s (suc c) w ∷ above) ≡ above_calls
new_below c above_calls s w above a e =
    let test : ℕ × WindowCall → Bool = λ v. transcripts.is_command v.1 && nat_lt v.0 (suc c) in
    ap (λ cs. count_by test cs) (called_first s (suc c) w above)
    ∙ count_no test (suc c, w) (transcripts.calls s above) (ap (λ b. transcripts.is_command w && b) (is_not_below (suc c) (suc c) (omega arith)) ∙ and_false (transcripts.is_command w))
    ∙ below_all c (transcripts.calls s above) a ∙ e

-- a new call leaves the ranks of those before it
pub called_ranks : (s k : ℕ) (w : WindowCall) (above : List Item) → SameRanks s k (item.Called s (suc k) w) above
called_ranks s k w above = record {
  upto = λ n l.
      let test : ℕ × WindowCall → Bool = λ v. transcripts.is_command v.1 && nat_le v.0 n in
      ap (λ cs. count_by test cs) (called_first s (suc k) w above)
      ∙ count_no test (suc k, w) (transcripts.calls s above) (ap (λ b. transcripts.is_command w && b) (is_above (suc k) n (omega (arith, l))) ∙ and_false (transcripts.is_command w));
  below = λ n l.
      let test : ℕ × WindowCall → Bool = λ v. transcripts.is_command v.1 && nat_lt v.0 n in
      ap (λ cs. count_by test cs) (called_first s (suc k) w above)
      ∙ count_no test (suc k, w) (transcripts.calls s above) (ap (λ b. transcripts.is_command w && b) (is_not_below (suc k) n (omega (arith, l))) ∙ and_false (transcripts.is_command w));
}

-- the call of a command or of a query, of which the client counts so many commands then
pub own_called : (h : histories.History) (c : clients.Client) (above : List Item) (s : ℕ) (seq : Option ℕ) (l : Option Level) (position m : ℕ) (w : WindowCall) → (o : standing.IsOwn h c above s)
    → count_by (outcome_order.is_unsent s) above ≡ 0 → m ≡ cond (transcripts.is_command w) 1 0 + c.commands
    → standing.IsAskedSo (item.Called s (suc c.calls) w ∷ above) s (record { number = suc c.calls; seq = seq; level = l; got = None }) (record { number = suc c.calls; seq = position; call = w }) w
    → standing.IsOwn h (record (clients.with_request c seq l position w) { commands = m }) (item.Called s (suc c.calls) w ∷ above) s
own_called h c above s seq l position m w o unsent many so =
    let x = item.Called s (suc c.calls) w in
    let u : sequencers.Unanswered = record { number = suc c.calls; seq = seq; level = l; got = None } in
    let r : clients.Request = record { number = suc c.calls; seq = position; call = w } in
    let calls : transcripts.calls s (x ∷ above) ≡ (suc c.calls, w) ∷ transcripts.calls s above = called_first s (suc c.calls) w above in
    let long : length (transcripts.calls s (x ∷ above)) ≡ suc (length (transcripts.calls s above)) = ap (λ cs. length cs) calls in
    let before : length (transcripts.calls s above) + count_by (outcome_order.is_unsent s) above ≡ c.calls = o.called in
    let still : o.done + length c.sequencer.calls ≡ c.calls = o.still in
    let i : standing.IsOpenCall h (x ∷ above) s u r = record { number = refl; called = inl refl; asked_so = so; got = tt } in
    record {
      opening = o.opening;
      opened = o.opened;
      there = inr o.there;
      unanswered = o.unanswered;
      called = ap (λ k. k + count_by (outcome_order.is_unsent s) above) long ∙ omega (arith, before);
      commands = ap (λ cs. count_by (λ v. transcripts.is_command v.1) cs) calls ∙ count_more (λ v. transcripts.is_command v.1) (suc c.calls, w) (transcripts.calls s above)
          ∙ ap (λ k. cond (transcripts.is_command w) 1 0 + k) o.commands ∙ sym many;
      numbers = subst standing.AreNumberedDown (sym calls) (omega (arith, before, unsent), o.numbers);
      done = o.done;
      outcomes = o.outcomes;
      still = ap (λ k. o.done + k) (length-append c.sequencer.calls (u ∷ [])) ∙ omega (arith, still);
      below = (tt, o.below);
      asked = asked_push h (x ∷ above) s o.done c.sequencer.calls c.requests u r (asked_more h above x s c.calls o.done c.sequencer.calls c.requests (called_ranks s c.calls w above) (omega (arith, still)) o.asked)
          (omega (arith, still)) i;
      waiting = waiting_called s (suc c.calls) w x above (rw (is_equal s s refl) refl) refl (below_more s (suc o.done) (suc c.calls) (omega (arith, still)) above o.below)
          ∙ ap (λ cs. cs ++ (suc c.calls, w) ∷ []) o.waiting ∙ sym (map-append standing.asked_call c.requests (r ∷ []));
      told = o.told;
      rest = o.rest;
      is_told = heard_same s x above refl ∙ o.is_told;
      whole = o.whole;
      last = o.last;
      reads = (tt, o.reads);
    }

-- a session that is new: nothing of it stands above its opening
pub own_opened : (h : histories.History) (c : clients.Client) (above : List Item) (s : ℕ) → payloads.IsOpeningOf c.me c.switch.opening (lists.at_place h s) → IsBlank s above
    → c.calls ≡ 0 → c.commands ≡ 0 → c.sequencer ≡ sequencers.new_sequencer s → c.requests ≡ []
    → standing.IsOwn h c (item.Opened s c.me ∷ above) s
own_opened h c above s is b calls commands fresh none =
    let x = item.Opened s c.me in
    record {
      opening = is;
      opened = count_yes (claims_right.is_opened s) x above (is_equal s s refl) ∙ ap (λ k. suc k) b.opened;
      there = inl refl;
      unanswered = b.unanswered;
      called = ap (λ cs. length cs + count_by (outcome_order.is_unsent s) above) b.calls ∙ ap (λ k. 0 + k) b.unsent ∙ sym calls;
      commands = ap (λ cs. count_by (λ w. transcripts.is_command w.1) cs) b.calls ∙ sym commands;
      numbers = subst standing.AreNumberedDown (sym b.calls) tt;
      done = 0;
      outcomes = b.outcomes;
      still = ap (λ (q : sequencers.Sequencer). 0 + length q.calls) fresh ∙ sym calls;
      below = (tt, b.below);
      asked = subst (λ (q : sequencers.Sequencer). standing.AreOpenCalls h (x ∷ above) s 0 q.calls c.requests) (sym fresh) (subst (λ rs. standing.AreOpenCalls h (x ∷ above) s 0 [] rs) (sym none) tt);
      waiting = waiting_same s x above refl refl ∙ b.waiting ∙ ap (λ rs. map standing.asked_call rs) (sym none);
      told = [];
      rest = histories.events h s;
      is_told = heard_same s x above refl ∙ b.heard;
      whole = refl;
      last = ap (λ (q : sequencers.Sequencer). q.heard) (sym fresh);
      reads = subst (λ (q : sequencers.Sequencer). AllByRecursion (fresh_reads.IsUpto s q.read) (x ∷ above)) (sym fresh) (tt, b.reads);
    }
