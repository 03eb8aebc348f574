-- Each condition on sessions, but for what comes at their ends.
use Rattle.std.proofs.Common.{◌≡◌, ℕ, ◌≤◌, ◌<◌, Bool, true, nat_le, List, [], Option, Some, None, refl, sym, subst, count_by, map}
use Rattle.std.specs.Prelude.{if◌then◌else◌}
use Rattle.std.specs.List.{list_all, AllByRecursion}
use Rattle.ax_types.specs.Places as lists
use Rattle.ax_types.specs.declared.entries.Act.{Act}
use Rattle.ax_types.specs.declared.entries.Act.TheVariants as act
use Rattle.ax_types.specs.declared.ops.WindowCall.TheVariants as call
use Rattle.ax_types.specs.declared.replies.How.{How}
use Rattle.ax_types.specs.declared.replies.How.TheVariants as how
use Rattle.ax_types.specs.declared.items.Item.{Item}
use Rattle.ax_types.specs.declared.items.Item.TheVariants as item
use Rattle.spec_book.specs.History as histories
use Rattle.spec_claims.specs.Transcript as transcripts
use Rattle.spec_claims.specs.Once as once
use Rattle.spec_claims.specs.FreshReads as fresh_reads
use Rattle.spec_claims.specs.Heard as heard
use Rattle.spec_claims.specs.OutcomeOrder as outcome_order
use Rattle.spec_audit.specs.SameValues as same_values
use Rattle.spec_audit.specs.ItemConditions as item_conditions
use Rattle.spec_audit.specs.SessionConditions as session_conditions
use Rattle.law_audit.proofs.Tests.{both, nat_same, at_most, is_below, same_number, where_same, where_at_most, none_counted, some_counted, negated, all_pass}
use Rattle.law_audit.proofs.Same as same
use Rattle.law_audit.proofs.Calls as calls
use Rattle.law_audit.proofs.Walks as walks

-- once
called_before : (h : histories.History) (s : ℕ) (above : List Item) (x : Item) → once.IsCalledBefore h s above x → session_conditions.is_called_before h s above x ≡ true
called_before h s above (item.Commit p) k = at_most _ _ k
called_before h s above (item.Leader j t) k = refl
called_before h s above (item.Reach j t a r m) k = refl
called_before h s above (item.Halted j) k = refl
called_before h s above (item.Opened r c) k = refl
called_before h s above (item.Called t m c) k = refl
called_before h s above (item.Event t p prev es) k = refl
called_before h s above (item.Watched c kind r p e) k = refl
called_before h s above (item.Reply t m p r) k = refl
called_before h s above (item.Read t m l p reach r) k = refl
called_before h s above (item.Ended t p way) k = refl
called_before h s above (item.Doubt t m) k = refl
called_before h s above (item.Lost t m) k = refl
called_before h s above (item.Unsent t m) k = refl
called_before h s above (item.Unanswered t m) k = refl
called_before h s above (item.Listed count) k = refl
called_before h s above (item.Pending m from to kind) k = refl
called_before h s above (item.Skip reason) k = refl

begins : {A : Type 0} (test : A → A → Bool) → ((x : A) → test x x ≡ true) → (xs ys : List A) → once.Begins xs ys → same_values.begins test xs ys ≡ true
begins test r xs ys b = subst (λ zs. same_values.begins test xs zs ≡ true) (sym b.1) (same.begins test r xs b.0)

pub takes_effect_once : (items : List Item) (h : histories.History) (s : ℕ) → once.IsOnce items h s → session_conditions.takes_effect_once items h s ≡ true
takes_effect_once items h s k =
    both _ _ (begins _ same.command (map (λ d. d.1) (histories.dos h s)) (once.commands s items) k.in_order)
    (walks.tested (once.IsCalledBefore h s) (session_conditions.is_called_before h s) (called_before h s) [] items k.called_before)

-- growing
read_upto : (s p : ℕ) (x : Item) → fresh_reads.IsUpto s p x → session_conditions.is_read_upto s p x ≡ true
read_upto s p (item.Read t m l q reach r) k = where_same s t _ (λ e. at_most q p (k e))
read_upto s p (item.Leader j t) k = refl
read_upto s p (item.Commit q) k = refl
read_upto s p (item.Reach j t a r m) k = refl
read_upto s p (item.Halted j) k = refl
read_upto s p (item.Opened r c) k = refl
read_upto s p (item.Called t m c) k = refl
read_upto s p (item.Event t q prev es) k = refl
read_upto s p (item.Watched c kind r q e) k = refl
read_upto s p (item.Reply t m q r) k = refl
read_upto s p (item.Ended t q way) k = refl
read_upto s p (item.Doubt t m) k = refl
read_upto s p (item.Lost t m) k = refl
read_upto s p (item.Unsent t m) k = refl
read_upto s p (item.Unanswered t m) k = refl
read_upto s p (item.Listed count) k = refl
read_upto s p (item.Pending m from to kind) k = refl
read_upto s p (item.Skip reason) k = refl

growing_at : (h : histories.History) (s : ℕ) (above : List Item) (x : Item) → fresh_reads.IsGrowing h s above x → session_conditions.is_growing h s above x ≡ true
growing_at h s above (item.Read t m l p reach r) k =
    where_same s t _ (λ e. both _ _ (all_pass (fresh_reads.IsUpto s p) (session_conditions.is_read_upto s p) (read_upto s p) above (k e).0) (at_most _ _ (k e).1))
growing_at h s above (item.Leader j t) k = refl
growing_at h s above (item.Commit p) k = refl
growing_at h s above (item.Reach j t a r m) k = refl
growing_at h s above (item.Halted j) k = refl
growing_at h s above (item.Opened r c) k = refl
growing_at h s above (item.Called t m c) k = refl
growing_at h s above (item.Event t p prev es) k = refl
growing_at h s above (item.Watched c kind r p e) k = refl
growing_at h s above (item.Reply t m p r) k = refl
growing_at h s above (item.Ended t p way) k = refl
growing_at h s above (item.Doubt t m) k = refl
growing_at h s above (item.Lost t m) k = refl
growing_at h s above (item.Unsent t m) k = refl
growing_at h s above (item.Unanswered t m) k = refl
growing_at h s above (item.Listed count) k = refl
growing_at h s above (item.Pending m from to kind) k = refl
growing_at h s above (item.Skip reason) k = refl

pub grows : (items : List Item) (h : histories.History) (s : ℕ) → transcripts.EachItem (fresh_reads.IsGrowing h s) items
    → item_conditions.each_shown (session_conditions.is_growing h s) items ≡ true
grows items h s k = walks.tested (fresh_reads.IsGrowing h s) (session_conditions.is_growing h s) (growing_at h s) [] items k

-- heard
heard_upto : (h : histories.History) (s p : ℕ) (above : List Item) → heard.AreHeardUpto h s p above → session_conditions.are_heard_upto h s p above ≡ true
heard_upto h s p above k =
    all_pass (λ e. e.place ≤ p → transcripts.StandsIn (item.Event s e.place e.prev e.events) above)
    (λ e. if nat_le e.place p then session_conditions.is_heard_in above s e else true)
    (λ e f. where_at_most e.place p _ (λ l. calls.stands_heard (same_values.is_same_heard e) s e above (same.heard_same e) (f l)))
    (histories.events h s) k

after_events : (h : histories.History) (s : ℕ) (above : List Item) (x : Item) → heard.IsAfterEvents h s above x → session_conditions.is_after_events h s above x ≡ true
after_events h s above (item.Reply t m p r) k = where_same s t _ (λ e. heard_upto h s p above (k e))
after_events h s above (item.Read t m l p reach r) k = where_same s t _ (λ e. heard_upto h s p above (k e))
after_events h s above (item.Leader j t) k = refl
after_events h s above (item.Commit p) k = refl
after_events h s above (item.Reach j t a r m) k = refl
after_events h s above (item.Halted j) k = refl
after_events h s above (item.Opened r c) k = refl
after_events h s above (item.Called t m c) k = refl
after_events h s above (item.Event t p prev es) k = refl
after_events h s above (item.Watched c kind r p e) k = refl
after_events h s above (item.Ended t p way) k = refl
after_events h s above (item.Doubt t m) k = refl
after_events h s above (item.Lost t m) k = refl
after_events h s above (item.Unsent t m) k = refl
after_events h s above (item.Unanswered t m) k = refl
after_events h s above (item.Listed count) k = refl
after_events h s above (item.Pending m from to kind) k = refl
after_events h s above (item.Skip reason) k = refl

pub hears_in_order : (items : List Item) (h : histories.History) (s : ℕ) → heard.IsHeard items h s → session_conditions.hears_in_order items h s ≡ true
hears_in_order items h s k =
    both _ _ (begins _ same.heard_same (heard.heard s items) (histories.events h s) k.in_order)
    (walks.tested (heard.IsAfterEvents h s) (session_conditions.is_after_events h s) (after_events h s) [] items k.before_responses)

-- outcomes
numbered : (s : ℕ) (above : List Item) (x : Item) → outcome_order.IsNumbered s above x → session_conditions.is_numbered s above x ≡ true
numbered s above (item.Called t m c) k = where_same s t _ (λ e. both _ _ (same_number _ _ (k e).0) (same_number _ _ (k e).1))
numbered s above (item.Unsent t m) k = where_same s t _ (λ e. same_number _ _ (k e))
numbered s above (item.Leader j t) k = refl
numbered s above (item.Commit p) k = refl
numbered s above (item.Reach j t a r m) k = refl
numbered s above (item.Halted j) k = refl
numbered s above (item.Opened r c) k = refl
numbered s above (item.Event t p prev es) k = refl
numbered s above (item.Watched c kind r p e) k = refl
numbered s above (item.Reply t m p r) k = refl
numbered s above (item.Read t m l p reach r) k = refl
numbered s above (item.Ended t p way) k = refl
numbered s above (item.Doubt t m) k = refl
numbered s above (item.Lost t m) k = refl
numbered s above (item.Unanswered t m) k = refl
numbered s above (item.Listed count) k = refl
numbered s above (item.Pending m from to kind) k = refl
numbered s above (item.Skip reason) k = refl

abbrev Below : ℕ → Option ℕ → Type 0
Below n None = Unit {0}
Below n (Some m) = m < n

below_of : (n : ℕ) (m : Option ℕ) → Below n m → session_conditions.is_below_number n m ≡ true
below_of n None k = refl
below_of n (Some m) k = is_below m n k

abbrev Rises : ℕ → List Item → Option ℕ → Type 0
Rises s above None = Unit {0}
Rises s above (Some n) = AllByRecursion (outcome_order.IsBelowNumber s n) above

abbrev rises : ℕ → List Item → Option ℕ → Bool
rises s above None = true
rises s above (Some n) = list_all (λ y. session_conditions.is_below_number n (transcripts.outcome_of s y)) above

rises_of : (s : ℕ) (above : List Item) (n : Option ℕ) → Rises s above n → rises s above n ≡ true
rises_of s above None k = refl
rises_of s above (Some n) k =
    all_pass (outcome_order.IsBelowNumber s n) (λ y. session_conditions.is_below_number n (transcripts.outcome_of s y))
    (λ x b. below_of n (transcripts.outcome_of s x) b) above k

rising : (s : ℕ) (above : List Item) (x : Item) → outcome_order.IsRising s above x → session_conditions.is_rising s above x ≡ true
rising s above x k = rises_of s above (transcripts.outcome_of s x) k

none_left : (s : ℕ) (above : List Item) → count_by (outcome_order.is_unanswered s) above ≡ 0 → session_conditions.none_left_open s above ≡ true
none_left s above e = negated _ (none_counted _ above e)

for_its_call : (s : ℕ) (above : List Item) (x : Item) → outcome_order.IsForItsCall s above x → session_conditions.is_for_its_call s above x ≡ true
for_its_call s above (item.Reply t m p r) k =
    where_same s t _ (λ e. let c = (k e).0 in
    both _ _ (calls.stands_called (item_conditions.is_command_numbered m) s m (call.Command c.0 c.1) above (both _ _ (nat_same m) refl) c.2) (none_left s above (k e).1))
for_its_call s above (item.Read t m l p reach r) k =
    where_same s t _ (λ e. let c = (k e).0 in
    both _ _ (calls.stands_called (session_conditions.is_query_numbered m) s m (call.Query l c.0 c.1) above (both _ _ (nat_same m) refl) c.2) (none_left s above (k e).1))
for_its_call s above (item.Doubt t m) k = where_same s t _ (λ e. none_left s above (k e))
for_its_call s above (item.Lost t m) k = where_same s t _ (λ e. none_left s above (k e))
for_its_call s above (item.Unsent t m) k = where_same s t _ (λ e. none_left s above (k e))
for_its_call s above (item.Leader j t) k = refl
for_its_call s above (item.Commit p) k = refl
for_its_call s above (item.Reach j t a r m) k = refl
for_its_call s above (item.Halted j) k = refl
for_its_call s above (item.Opened r c) k = refl
for_its_call s above (item.Called t m c) k = refl
for_its_call s above (item.Event t p prev es) k = refl
for_its_call s above (item.Watched c kind r p e) k = refl
for_its_call s above (item.Ended t p way) k = refl
for_its_call s above (item.Unanswered t m) k = refl
for_its_call s above (item.Listed count) k = refl
for_its_call s above (item.Pending m from to kind) k = refl
for_its_call s above (item.Skip reason) k = refl

in_order_at : (s : ℕ) (above : List Item) (x : Item) → outcome_order.IsOutcome s above x → session_conditions.is_in_order s above x ≡ true
in_order_at s above x k = both _ _ (both _ _ (numbered s above x k.0) (rising s above x k.1)) (for_its_call s above x k.3)

pub in_order : (items : List Item) (s : ℕ) → transcripts.EachItem (outcome_order.IsOutcome s) items → item_conditions.each_shown (session_conditions.is_in_order s) items ≡ true
in_order items s k = walks.tested (outcome_order.IsOutcome s) (session_conditions.is_in_order s) (in_order_at s) [] items k

-- ends
open_for : (s : ℕ) (above : List Item) → outcome_order.IsOpenFor s above → session_conditions.is_open_for s above ≡ true
open_for s above k = both _ _ (some_counted _ above 0 k.0) (negated _ (none_counted _ above k.1))

end_of : (s : ℕ) (way : How) (a : Option (ℕ × Act)) → outcome_order.IsEndOf s way a → session_conditions.is_end_of s way a ≡ true
end_of s way None k = absurd k
end_of s how.Closed (Some (time, act.Close t)) k = same_number s t k
end_of s how.Expired (Some (time, act.Expire t)) k = same_number s t k
end_of s how.Expired (Some (time, act.Close t)) k = absurd k
end_of s how.Closed (Some (time, act.Expire t)) k = absurd k
end_of s way (Some (time, act.Nothing)) k = absurd k
end_of s way (Some (time, act.Open c o)) k = absurd k
end_of s way (Some (time, act.Keep t)) k = absurd k
end_of s way (Some (time, act.Do t name o)) k = absurd k

in_session_at : (h : histories.History) (s : ℕ) (above : List Item) (x : Item) → outcome_order.IsInSession h s above x → session_conditions.is_in_session h s above x ≡ true
in_session_at h s above (item.Called t m c) k = where_same s t _ (λ e. open_for s above (k e))
in_session_at h s above (item.Reply t m p r) k = where_same s t _ (λ e. open_for s above (k e))
in_session_at h s above (item.Read t m l p reach r) k = where_same s t _ (λ e. open_for s above (k e))
in_session_at h s above (item.Event t p prev es) k = where_same s t _ (λ e. open_for s above (k e))
in_session_at h s above (item.Ended t p way) k = where_same s t _ (λ e. both _ _ (open_for s above (k e).0) (end_of s way (lists.at_place h p) (k e).1))
in_session_at h s above (item.Unsent t m) k = where_same s t _ (λ e. some_counted _ above 0 (k e))
in_session_at h s above (item.Leader j t) k = refl
in_session_at h s above (item.Commit p) k = refl
in_session_at h s above (item.Reach j t a r m) k = refl
in_session_at h s above (item.Halted j) k = refl
in_session_at h s above (item.Opened r c) k = refl
in_session_at h s above (item.Watched c kind r p e) k = refl
in_session_at h s above (item.Doubt t m) k = refl
in_session_at h s above (item.Lost t m) k = refl
in_session_at h s above (item.Unanswered t m) k = refl
in_session_at h s above (item.Listed count) k = refl
in_session_at h s above (item.Pending m from to kind) k = refl
in_session_at h s above (item.Skip reason) k = refl

pub in_session : (items : List Item) (h : histories.History) (s : ℕ) → transcripts.EachItem (outcome_order.IsInSession h s) items
    → item_conditions.each_shown (session_conditions.is_in_session h s) items ≡ true
in_session items h s k = walks.tested (outcome_order.IsInSession h s) (session_conditions.is_in_session h s) (in_session_at h s) [] items k
