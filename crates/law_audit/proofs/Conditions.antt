-- Each condition on single items and on sessions, but for the ends.
use Rattle.std.proofs.Common.{◌≡◌, ℕ, ◌≤◌, true, not, nat_eq, List, [], ◌∷◌, ◌++◌, Option, Some, None, refl, sym, subst, arith, length, count_by}
use Rattle.std.proofs.lemmas.Bool.Decides.{nat_tests}
use Rattle.ax_types.specs.Places as lists
use Rattle.ax_types.specs.declared.entries.Act.{Act}
use Rattle.ax_types.specs.declared.entries.Act.TheVariants as act
use Rattle.ax_types.specs.declared.ops.Level.{Level}
use Rattle.ax_types.specs.declared.ops.Level.TheVariants as level
use Rattle.ax_types.specs.declared.ops.WindowCall.{WindowCall}
use Rattle.ax_types.specs.declared.ops.WindowCall.TheVariants as call
use Rattle.ax_types.specs.declared.replies.Reply.{Reply}
use Rattle.ax_types.specs.declared.items.Item.{Item}
use Rattle.ax_types.specs.declared.items.Item.TheVariants as item
use Rattle.spec_book.specs.History as histories
use Rattle.spec_claims.specs.Transcript as transcripts
use Rattle.spec_claims.specs.Right as right
use Rattle.spec_claims.specs.FreshReads as fresh_reads
use Rattle.spec_claims.specs.OutcomeOrder as outcome_order
use Rattle.spec_audit.specs.SameValues as same_values
use Rattle.spec_audit.specs.ItemConditions as item_conditions
use Rattle.law_audit.proofs.Tests.{both, nat_same, at_most, same_number, none_counted, negated, or_left, or_right}
use Rattle.law_audit.proofs.Same as same
use Rattle.law_audit.proofs.Calls as calls
use Rattle.law_audit.proofs.Walks as walks

-- right
opening_by : (c : ℕ) (a : Option (ℕ × Act)) → right.IsOpening c a → item_conditions.is_opening_by c a ≡ true
opening_by c None h = absurd h
opening_by c (Some (t, act.Open d o)) h = same_number c d h
opening_by c (Some (t, act.Nothing)) h = absurd h
opening_by c (Some (t, act.Keep s)) h = absurd h
opening_by c (Some (t, act.Do s name o)) h = absurd h
opening_by c (Some (t, act.Close s)) h = absurd h
opening_by c (Some (t, act.Expire s)) h = absurd h

not_twice : (items : List Item) (s n : ℕ) → count_by (calls.is_number n) (transcripts.calls s items) ≤ 1 → not (item_conditions.is_called_twice items s n) ≡ true
not_twice items s n h = grind (arith, nat_tests)

some_place : (p : ℕ) (x : Option ℕ) → x ≡ Some p → item_conditions.is_some_place p x ≡ true
some_place p x e = subst (λ z. item_conditions.is_some_place p z ≡ true) (sym e) (nat_same p)

some_reply : (r : Reply) (x : Option Reply) → x ≡ Some r → item_conditions.is_some_reply r x ≡ true
some_reply r x e = subst (λ z. item_conditions.is_some_reply r z ≡ true) (sym e) (same.reply_same r)

-- what is known of an item: it is right, in the order of its session's outcomes, and its places are committed
abbrev pub IsKnown : List Item → histories.History → List Item → Item → Type 0
IsKnown items h above x = (right.IsRight h above x × right.IsCommitted above x) × (((s : ℕ) → outcome_order.IsOutcome s above x) × walks.IsBounded (length h) above x)

reply_right : (items : List Item) (h : histories.History) → ((s n : ℕ) → count_by (calls.is_number n) (transcripts.calls s items) ≤ 1)
    → (above : List Item) (s n p : ℕ) (r : Reply) → right.IsRight h above (item.Reply s n p r) → outcome_order.IsForItsCall s above (item.Reply s n p r)
    → item_conditions.is_right items h above (item.Reply s n p r) ≡ true
reply_right items h o above s n p r k of =
    let called = (of refl).0 in
    both _ _ (both _ _ (both _ _ (calls.stands_called (item_conditions.is_command_numbered n) s n (call.Command called.0 called.1) above (both _ _ (nat_same n) refl) called.2)
    (not_twice items s n (o s n))) (some_place p _ k.0)) (some_reply r _ k.1)

read_right : (items : List Item) (h : histories.History) → ((s n : ℕ) → count_by (calls.is_number n) (transcripts.calls s items) ≤ 1)
    → (above : List Item) (s n : ℕ) (l : Level) (p : ℕ) (reach : Option (ℕ × ℕ)) (r : Reply) → right.IsRight h above (item.Read s n l p reach r) → p ≤ length h
    → item_conditions.is_right items h above (item.Read s n l p reach r) ≡ true
read_right items h o above s n l p reach r k w =
    let q = k.0 in
    let answered : item_conditions.is_query_answered h n p l r (n, call.Query l q.0 q.1) ≡ true =
    both _ _ (nat_same n) (both _ _ (same.level_same l) (subst (λ z. same_values.is_same_reply r z ≡ true) q.3 (same.reply_same r))) in
    both _ _ (both _ _ (both _ _ (calls.stands_called (item_conditions.is_query_answered h n p l r) s n (call.Query l q.0 q.1) above answered q.2)
    (not_twice items s n (o s n))) k.1) (at_most p (length h) w)

pub is_right : (items : List Item) (h : histories.History) → ((s n : ℕ) → count_by (calls.is_number n) (transcripts.calls s items) ≤ 1)
    → (above : List Item) (x : Item) → IsKnown items h above x → item_conditions.is_right items h above x ≡ true
is_right items h o above (item.Opened s c) k = both _ _ (opening_by c (lists.at_place h s) k.0.0.0) (negated _ (none_counted _ above k.0.0.1))
is_right items h o above (item.Reply s n p r) k = reply_right items h o above s n p r k.0.0 (k.1.0 s).3
is_right items h o above (item.Read s n l p reach r) k =
    let committed : p ≤ transcripts.greatest_commit above = k.0.1 in
    let bounded : transcripts.greatest_commit above ≤ length h = k.1.1 in
    read_right items h o above s n l p reach r k.0.0 (omega (arith, committed, bounded))
is_right items h o above (item.Leader j t) k = refl
is_right items h o above (item.Commit p) k = refl
is_right items h o above (item.Reach j t a s m) k = refl
is_right items h o above (item.Halted j) k = refl
is_right items h o above (item.Called s m c) k = refl
is_right items h o above (item.Event s p prev es) k = refl
is_right items h o above (item.Watched c kind s p e) k = refl
is_right items h o above (item.Ended s p how) k = refl
is_right items h o above (item.Doubt s m) k = refl
is_right items h o above (item.Lost s m) k = refl
is_right items h o above (item.Unsent s m) k = refl
is_right items h o above (item.Unanswered s m) k = refl
is_right items h o above (item.Listed count) k = refl
is_right items h o above (item.Pending m from to kind) k = refl
is_right items h o above (item.Skip reason) k = refl

-- fresh
reached : (s n p t a node : ℕ) (c : WindowCall) (later earlier : List Item) → transcripts.StandsIn (item.Called s n c) earlier → transcripts.greatest_commit earlier ≤ p
    → item_conditions.is_reached_by s n p t a (later ++ item.Reach node t a s n ∷ earlier) ≡ true
reached s n p t a node c [] earlier m g =
    or_left _ _ (both _ _ (both _ _ (both _ _ (both _ _ (both _ _ (nat_same t) (nat_same a)) (nat_same s)) (nat_same n))
    (calls.stands_called (λ x. nat_eq n x.0) s n c earlier (nat_same n) m)) (at_most _ _ g))
reached s n p t a node c (item.Reach j u b r m ∷ later) earlier st g = or_right _ _ (reached s n p t a node c later earlier st g)
reached s n p t a node c (item.Leader j u ∷ later) earlier st g = reached s n p t a node c later earlier st g
reached s n p t a node c (item.Commit q ∷ later) earlier st g = reached s n p t a node c later earlier st g
reached s n p t a node c (item.Halted j ∷ later) earlier st g = reached s n p t a node c later earlier st g
reached s n p t a node c (item.Opened r d ∷ later) earlier st g = reached s n p t a node c later earlier st g
reached s n p t a node c (item.Called r m d ∷ later) earlier st g = reached s n p t a node c later earlier st g
reached s n p t a node c (item.Event r q prev es ∷ later) earlier st g = reached s n p t a node c later earlier st g
reached s n p t a node c (item.Watched d kind r q e ∷ later) earlier st g = reached s n p t a node c later earlier st g
reached s n p t a node c (item.Reply r m q z ∷ later) earlier st g = reached s n p t a node c later earlier st g
reached s n p t a node c (item.Read r m l q reach z ∷ later) earlier st g = reached s n p t a node c later earlier st g
reached s n p t a node c (item.Ended r q how ∷ later) earlier st g = reached s n p t a node c later earlier st g
reached s n p t a node c (item.Doubt r m ∷ later) earlier st g = reached s n p t a node c later earlier st g
reached s n p t a node c (item.Lost r m ∷ later) earlier st g = reached s n p t a node c later earlier st g
reached s n p t a node c (item.Unsent r m ∷ later) earlier st g = reached s n p t a node c later earlier st g
reached s n p t a node c (item.Unanswered r m ∷ later) earlier st g = reached s n p t a node c later earlier st g
reached s n p t a node c (item.Listed count ∷ later) earlier st g = reached s n p t a node c later earlier st g
reached s n p t a node c (item.Pending m from to kind ∷ later) earlier st g = reached s n p t a node c later earlier st g
reached s n p t a node c (item.Skip reason ∷ later) earlier st g = reached s n p t a node c later earlier st g

fresh_at : (s n p : ℕ) (above : List Item) (l : Level) (reach : Option (ℕ × ℕ)) → fresh_reads.IsFreshAt s n p above l reach → item_conditions.is_fresh_at s n p above l reach ≡ true
fresh_at s n p above level.Lin (Some (t, a)) f =
    subst (λ xs. item_conditions.is_reached_by s n p t a xs ≡ true) (sym f.reached) (reached s n p t a f.node f.called f.later f.earlier f.asked f.covers)
fresh_at s n p above level.Lin None f = absurd f
fresh_at s n p above level.Seq (Some (t, a)) f = absurd f
fresh_at s n p above level.Seq None f = refl

pub is_fresh : (above : List Item) (x : Item) → fresh_reads.IsFresh above x → item_conditions.is_fresh above x ≡ true
is_fresh above (item.Read s n l p reach r) f = fresh_at s n p above l reach f
is_fresh above (item.Leader j t) f = refl
is_fresh above (item.Commit p) f = refl
is_fresh above (item.Reach j t a s m) f = refl
is_fresh above (item.Halted j) f = refl
is_fresh above (item.Opened s c) f = refl
is_fresh above (item.Called s m c) f = refl
is_fresh above (item.Event s p prev es) f = refl
is_fresh above (item.Watched c kind s p e) f = refl
is_fresh above (item.Reply s m p r) f = refl
is_fresh above (item.Ended s p how) f = refl
is_fresh above (item.Doubt s m) f = refl
is_fresh above (item.Lost s m) f = refl
is_fresh above (item.Unsent s m) f = refl
is_fresh above (item.Unanswered s m) f = refl
is_fresh above (item.Listed count) f = refl
is_fresh above (item.Pending m from to kind) f = refl
is_fresh above (item.Skip reason) f = refl
