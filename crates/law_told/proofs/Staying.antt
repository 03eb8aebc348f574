-- True payloads stay true, and lie within the history.
use Rattle.std.proofs.Common.{◌≡◌, ℕ, zero, suc, ◌+◌, ◌≤◌, Bool, true, false, cond, ◌&&◌, nat_le, nat_lt, nat_eq, List, [], ◌∷◌, ◌++◌, Option, Some, None, length, count_by, option_map, reverse, refl, sym, ap, ◌∙◌, subst, arith, inl, inr}
use Rattle.std.specs.List.{AllByRecursion}
use mathlib.Core.List.{reverse_aux}
use Rattle.std.proofs.lemmas.Bool.Decides.{nat_tests}
use Rattle.std.proofs.lemmas.List.Sums.{sum_by-cons}
use Rattle.std.proofs.lemmas.List.Concat.{flat_map-cons}
use Rattle.ax_types.specs.Places as lists
use Rattle.ax_types.specs.declared.entries.Act.{Act}
use Rattle.ax_types.specs.declared.entries.Act.TheVariants as act
use Rattle.ax_types.specs.declared.ops.Level.{Level}
use Rattle.ax_types.specs.declared.ops.Level.TheVariants as level
use Rattle.ax_types.specs.declared.ops.WindowCall.{WindowCall}
use Rattle.ax_types.specs.declared.ops.WindowCall.TheVariants as call
use Rattle.ax_types.specs.declared.items.Item.{Item}
use Rattle.ax_types.specs.declared.items.Item.TheVariants as item
use Rattle.ax_types.specs.declared.packets.Payload.{Payload}
use Rattle.ax_types.specs.declared.packets.Payload.TheVariants as payload
use Rattle.ax_types.specs.declared.replies.Event.{Event}
use Rattle.ax_types.specs.declared.replies.How.{How}
use Rattle.ax_types.specs.declared.replies.Reply.{Reply}
use Rattle.spec_book.specs.Book as books
use Rattle.spec_book.specs.History as histories
use Rattle.spec_claims.specs.Transcript as transcripts
use Rattle.spec_claims.specs.Once as once
use Rattle.spec_claims.specs.OutcomeOrder as outcome_order
use Rattle.spec_claims.specs.Payloads as payloads
use Rattle.law_told.specs.Truth as truths
use Rattle.law_told.proofs.Lists.{all_since, all_append, at_within, at_some}
use Rattle.law_told.proofs.Growth.{book_grown, turn_grown, last_grown, events_grown, live_grown}

-- the acts of a session at resources, of a longer history
with_do : {B : Type 0} (b : Bool) (x : B) (xs ys : List B) → cond b (x ∷ (xs ++ ys)) (xs ++ ys) ≡ cond b (x ∷ xs) xs ++ ys
with_do true x xs ys = refl
with_do false x xs ys = refl

pub dos_split : (s done : ℕ) (h r : histories.History) → histories.dos_after s done (h ++ r) ≡ histories.dos_after s done h ++ histories.dos_after s (done + length h) r
dos_split s done [] r = let e : done ≡ done + 0 = omega arith in ap (λ n. histories.dos_after s n r) e
dos_split s done (a ∷ h) r = step a.1 (dos_split s (done + 1) h r ∙ ap (λ n. histories.dos_after s (done + 1) h ++ histories.dos_after s n r) e)
  where
    e : done + 1 + length h ≡ done + suc (length h)
    e = omega arith

    step : (x : Act) → histories.dos_after s (done + 1) (h ++ r) ≡ histories.dos_after s (done + 1) h ++ histories.dos_after s (done + suc (length h)) r
        → histories.dos_after s done ((a.0, x) ∷ (h ++ r)) ≡ histories.dos_after s done ((a.0, x) ∷ h) ++ histories.dos_after s (done + suc (length h)) r
    step (act.Do t name o) i = ap (λ xs. cond (nat_eq s t) ((done + 1, (name, o)) ∷ xs) xs) i ∙ with_do (nat_eq s t) (done + 1, (name, o)) (histories.dos_after s (done + 1) h) (histories.dos_after s (done + suc (length h)) r)
    step (act.Keep t) i = i
    step (act.Open c o) i = i
    step (act.Close t) i = i
    step (act.Expire t) i = i
    step act.Nothing i = i

pub dos_grown : (h r : histories.History) (s : ℕ) → histories.dos (h ++ r) s ≡ histories.dos h s ++ histories.dos_after s (0 + length h) r
dos_grown h r s = dos_split s 0 h r

count_more : {X : Type 0} (p : X → Bool) (xs ys : List X) → count_by p xs ≤ count_by p (xs ++ ys)
count_more p [] ys = omega arith
count_more p (x ∷ xs) ys =
    let a = sum_by-cons (λ y. cond (p y) 1 0) x xs in
    let b = sum_by-cons (λ y. cond (p y) 1 0) x (xs ++ ys) in
    let l = count_more p xs ys in
    omega (arith, a, b, l)

pub upto_grown : (h r : histories.History) (s p : ℕ) → once.dos_upto h s p ≤ once.dos_upto (h ++ r) s p
upto_grown h r s p = subst (λ ds. once.dos_upto h s p ≤ count_by (λ d. nat_le d.0 p) ds) (sym (dos_grown h r s)) (count_more (λ d. nat_le d.0 p) (histories.dos h s) (histories.dos_after s (0 + length h) r))

-- what stands at a place stays there
stays_there : {X : Type 0} (P : Option X → Type 0) → (P None → ⊥) → (xs ys : List X) (p : ℕ) → P (lists.at_place xs p) → P (lists.at_place (xs ++ ys) p)
stays_there {X = X} P none xs ys p h = go (lists.at_place xs p) refl h
  where
    go : (x : Option X) → lists.at_place xs p ≡ x → P x → P (lists.at_place (xs ++ ys) p)
    go None e k = absurd (none k)
    go (Some y) e k = subst P (sym (at_within xs ys p (at_some xs p y e).1 ∙ e)) k

heard_in : (x : histories.Heard) (xs ys : List histories.Heard) → payloads.IsHeardIn x xs → payloads.IsHeardIn x (xs ++ ys)
heard_in x [] ys h = absurd h
heard_in x (y ∷ xs) ys (inl e) = inl e
heard_in x (y ∷ xs) ys (inr h) = inr (heard_in x xs ys h)

there_reply : (h : histories.History) (p : ℕ) (r : Reply) → histories.history_reply h p ≡ Some r → p ≤ length h
there_reply h p r e = go (lists.at_place h p) refl e
  where
    go : (x : Option (ℕ × Act)) → lists.at_place h p ≡ x → option_map (λ t. t.reply) (histories.turn_there h p x) ≡ Some r → p ≤ length h
    go None f k = absurd (cc)
    go (Some a) f k = (at_some h p a f).1

there_place : {X : Type 0} (f : X → ℕ) (xs : List X) (k p : ℕ) → option_map f (lists.at_place xs k) ≡ Some p → k ≤ length xs
there_place {X = X} f xs k p e = go (lists.at_place xs k) refl e
  where
    go : (x : Option X) → lists.at_place xs k ≡ x → option_map f x ≡ Some p → k ≤ length xs
    go None g z = absurd (cc)
    go (Some y) g z = (at_some xs k y g).1

-- as the history grows
ended_stays : (s : ℕ) (how : How) (h more : histories.History) (p : ℕ) → outcome_order.IsEndOf s how (lists.at_place h p) → outcome_order.IsEndOf s how (lists.at_place (h ++ more) p)
ended_stays s how h more p k = stays_there (outcome_order.IsEndOf s how) (λ z. z) h more p k

pub history_grows : (items : List Item) (h more : histories.History) (c : ℕ) (p : Payload) → payloads.IsTruePayload items h c p → payloads.IsTruePayload items (h ++ more) c p
history_grows items h more c (payload.Opened opening s) k = stays_there (payloads.IsOpeningOf c opening) (λ z. z) h more s k
history_grows items h more c (payload.Reply s seq p named r) k =
    let l = there_reply h p r k.1 in
    let d : lists.at_place (histories.dos (h ++ more) s) seq ≡ lists.at_place (histories.dos h s) seq = ap (λ ds. lists.at_place ds seq) (dos_grown h more s) ∙ at_within (histories.dos h s) (histories.dos_after s (0 + length h) more) seq (there_place (λ d. d.0) (histories.dos h s) seq p k.0) in
    (ap (option_map (λ d. d.0)) d ∙ k.0, ap (option_map (λ t. t.reply)) (turn_grown h more p l) ∙ k.1, k.2 ∙ sym (last_grown h more s p l))
history_grows items h more c (payload.Answer s n l p named term arrival r) k =
    let w = k.within in
    record {
      name = k.name;
      query = k.query;
      called = k.called;
      within = let a = Rattle.std.proofs.lemmas.List.length-append h more in omega (arith, a);
      live = live_grown h more p s w ∙ k.live;
      behind = let a = upto_grown h more s p in let b = k.behind in omega (arith, a, b);
      last_event = k.last_event ∙ sym (last_grown h more s p w);
      answer = k.answer ∙ ap (λ b. books.ask b k.name k.query) (sym (book_grown h more p w));
      reached = k.reached;
    }
history_grows items h more c (payload.Gap s last) (inl z) = inl z
history_grows items h more c (payload.Gap s last) (inr l) =
    let e = ap (λ ds. length ds) (dos_grown h more s) in
    let a = Rattle.std.proofs.lemmas.List.length-append (histories.dos h s) (histories.dos_after s (0 + length h) more) in
    inr (omega (arith, e, a))
history_grows items h more c (payload.Batch s p prev es) k =
    let g = events_grown h more s in subst (payloads.IsHeardIn (record { place = p; prev = prev; events = es })) (sym g.1) (heard_in (record { place = p; prev = prev; events = es }) (histories.events h s) g.0 k)
history_grows items h more c (payload.Ended s p how) k = ended_stays s how h more p k
history_grows items h more c (payload.Vote t l lt) k = tt
history_grows items h more c (payload.VoteReply t g) k = tt
history_grows items h more c (payload.Append t p pt m r es) k = tt
history_grows items h more c (payload.AppendReply t ok p r) k = tt
history_grows items h more c (payload.Register d o) k = tt
history_grows items h more c (payload.Keep d s answered heard) k = tt
history_grows items h more c (payload.Command d s seq name o) k = tt
history_grows items h more c (payload.Close d s) k = tt
history_grows items h more c (payload.Query d s n l seen seq name q) k = tt
history_grows items h more c (payload.Connect d s heard) k = tt
history_grows items h more c (payload.Reset d s heard) k = tt

-- no call has a number beyond how many there are
abbrev pub AreCounted : List Item → Type 0
AreCounted items = (s : ℕ) → AllByRecursion (λ c. c.0 ≤ length (transcripts.calls s items)) (transcripts.calls s items)

calls_more : (s : ℕ) (x : Item) (items : List Item) → transcripts.calls s (x ∷ items) ≡ transcripts.called_by s x ++ transcripts.calls s items
calls_more s x items = flat_map-cons (transcripts.called_by s) x items

itself : (s : ℕ) → nat_eq s s ≡ true
itself s = grind (arith, nat_tests)

equal : (s t : ℕ) → nat_eq s t ≡ true → s ≡ t
equal s t e = grind (arith, nat_tests)

-- what one more item calls of a session
record CallsMore (s : ℕ) (x : Item) (items : List Item) : Type 0 where
  more : List (ℕ × WindowCall)
  is : transcripts.calls s (x ∷ items) ≡ more ++ transcripts.calls s items
  next : AllByRecursion (λ c. (c.0 ≡ length (transcripts.calls s items) + 1) × (length more ≡ 1)) more

one_call : (s t m : ℕ) (w : WindowCall) (items : List Item) (b : Bool) → nat_eq s t ≡ b → outcome_order.IsNumbered s items (item.Called t m w) → CallsMore s (item.Called t m w) items
one_call s t m w items true e n = record {
  more = (m, w) ∷ [];
  is = calls_more s (item.Called t m w) items ∙ ap (λ b. cond b ((m, w) ∷ []) [] ++ transcripts.calls s items) e;
  next = (((n (equal s t e)).0, refl), tt);
}
one_call s t m w items false e n = record {
  more = [];
  is = calls_more s (item.Called t m w) items ∙ ap (λ b. cond b ((m, w) ∷ []) [] ++ transcripts.calls s items) e;
  next = tt;
}

no_call : (s : ℕ) (x : Item) (items : List Item) → transcripts.called_by s x ≡ [] → CallsMore s x items
no_call s x items e = record { more = []; is = calls_more s x items ∙ ap (λ cs. cs ++ transcripts.calls s items) e; next = tt }

more_calls : (s : ℕ) (x : Item) (items : List Item) → outcome_order.IsNumbered s items x → CallsMore s x items
more_calls s (item.Called t m w) items n = one_call s t m w items (nat_eq s t) refl n
more_calls s x items n = no_call s x items refl

counted_on : (xs : List (ℕ × WindowCall)) (more : List (ℕ × WindowCall)) → AllByRecursion (λ c. (c.0 ≡ length xs + 1) × (length more ≡ 1)) more → AllByRecursion (λ c. c.0 ≤ length xs) xs → AllByRecursion (λ c. c.0 ≤ length (more ++ xs)) (more ++ xs)
counted_on xs more n h =
    let l = Rattle.std.proofs.lemmas.List.length-append more xs in
    all_append (λ c. c.0 ≤ length (more ++ xs)) more xs
    (all_since (λ c. (c.0 ≡ length xs + 1) × (length more ≡ 1)) (λ c. c.0 ≤ length (more ++ xs)) (λ c k. let a = k.0 in let b = k.1 in omega (arith, a, b, l)) more n)
    (all_since (λ c. c.0 ≤ length xs) (λ c. c.0 ≤ length (more ++ xs)) (λ c k. omega (arith, k, l)) xs h)

counted_more : (x : Item) (items : List Item) → ((s : ℕ) → outcome_order.IsNumbered s items x) → AreCounted items → AreCounted (x ∷ items)
counted_more x items n h s =
    let m = more_calls s x items (n s) in
    subst (λ cs. AllByRecursion (λ c. c.0 ≤ length cs) cs) (sym m.is) (counted_on (transcripts.calls s items) m.more m.next (h s))

-- a call that was made is among the calls
abbrev IsUpto : ℕ → ℕ × WindowCall → Type 0
IsUpto k c = c.0 ≤ k

after_append : {X : Type 0} (P : X → Type 0) (xs ys : List X) → AllByRecursion P (xs ++ ys) → AllByRecursion P xs × AllByRecursion P ys
after_append P [] ys h = (tt, h)
after_append P (x ∷ xs) ys h = let r = after_append P xs ys h.1 in ((h.0, r.0), r.1)

called_upto : (s n k : ℕ) (w : WindowCall) (items : List Item) → transcripts.StandsIn (item.Called s n w) items → AllByRecursion (IsUpto k) (transcripts.calls s items) → n ≤ k
called_upto s n k w [] i h = absurd i
called_upto s n k w (y ∷ items) (inl e) h =
    let a = after_append (IsUpto k) (transcripts.called_by s y) (transcripts.calls s items) (subst (AllByRecursion (IsUpto k)) (calls_more s y items) h) in
    let b : AllByRecursion (IsUpto k) (transcripts.called_by s (item.Called s n w)) = subst (λ z. AllByRecursion (IsUpto k) (transcripts.called_by s z)) e a.0 in
    let c : AllByRecursion (IsUpto k) ((n, w) ∷ []) = subst (λ z. AllByRecursion (IsUpto k) (cond z ((n, w) ∷ []) [])) (itself s) b in
    c.0
called_upto s n k w (y ∷ items) (inr i) h =
    let a = after_append (IsUpto k) (transcripts.called_by s y) (transcripts.calls s items) (subst (AllByRecursion (IsUpto k)) (calls_more s y items) h) in
    called_upto s n k w items i a.1

-- no later call is below it
abbrev is_command_below : ℕ → ℕ × WindowCall → Bool
is_command_below n c = transcripts.is_command c.1 && nat_lt c.0 n

above_false : (b : Bool) (m n : ℕ) → n ≤ m → (b && nat_lt m n) ≡ false
above_false true m n l = grind (arith, nat_tests)
above_false false m n l = refl

none_below : (n k : ℕ) (more xs : List (ℕ × WindowCall)) → n ≤ k → AllByRecursion (λ c. (c.0 ≡ k + 1) × (length more ≡ 1)) more → count_by (is_command_below n) (more ++ xs) ≡ count_by (is_command_below n) xs
none_below n k more xs l h = go more (all_since (λ c. (c.0 ≡ k + 1) × (length more ≡ 1)) (λ c. c.0 ≡ k + 1) (λ c z. z.0) more h)
  where
    go : (cs : List (ℕ × WindowCall)) → AllByRecursion (λ c. c.0 ≡ k + 1) cs → count_by (is_command_below n) (cs ++ xs) ≡ count_by (is_command_below n) xs
    go [] a = refl
    go (c ∷ cs) a =
        let e = a.0 in
        let f : is_command_below n c ≡ false = above_false (transcripts.is_command c.1) c.0 n (omega (arith, e)) in
        let r = go cs a.1 in
        let z : 0 + count_by (is_command_below n) (cs ++ xs) ≡ count_by (is_command_below n) (cs ++ xs) = omega arith in
        sum_by-cons (λ y. cond (is_command_below n y) 1 0) c (cs ++ xs) ∙ ap (λ b. cond b 1 0 + count_by (is_command_below n) (cs ++ xs)) f ∙ z ∙ r

pub same_below : (s n : ℕ) (w : WindowCall) (x : Item) (items : List Item) → outcome_order.IsNumbered s items x → AreCounted items → transcripts.StandsIn (item.Called s n w) items → transcripts.commands_below s n (x ∷ items) ≡ transcripts.commands_below s n items
same_below s n w x items k h i =
    let m = more_calls s x items k in
    ap (count_by (is_command_below n)) m.is ∙ none_below n (length (transcripts.calls s items)) m.more (transcripts.calls s items) (called_upto s n (length (transcripts.calls s items)) w items i (h s)) m.next

-- as the items grow
pub reached_more : (l : Level) (x : Item) (items : List Item) (s n p term arrival : ℕ) → payloads.IsReachedAt l items s n p term arrival → payloads.IsReachedAt l (x ∷ items) s n p term arrival
reached_more level.Lin x items s n p term arrival k = record { node = k.node; later = x ∷ k.later; earlier = k.earlier; there = ap (λ xs. x ∷ xs) k.there; covers = k.covers }
reached_more level.Seq x items s n p term arrival k = tt

item_grows : (x : Item) (items : List Item) (h : histories.History) (c : ℕ) (p : Payload) → ((s : ℕ) → outcome_order.IsNumbered s items x) → AreCounted items → payloads.IsTruePayload items h c p → payloads.IsTruePayload (x ∷ items) h c p
item_grows x items h c (payload.Answer s n l p named term arrival r) m a k = record {
  name = k.name;
  query = k.query;
  called = inr k.called;
  within = k.within;
  live = k.live;
  behind = let e = same_below s n (call.Query l k.name k.query) x items (m s) a k.called in let b = k.behind in omega (arith, e, b);
  last_event = k.last_event;
  answer = k.answer;
  reached = reached_more l x items s n p term arrival k.reached;
}
item_grows x items h c p m a k = k

-- what stays as one item that is numbered is added stays as more are
added : (P : List Item → Type 0) → ((x : Item) (items : List Item) → ((s : ℕ) → outcome_order.IsNumbered s items x) → AreCounted items → P items → P (x ∷ items))
    → (later above : List Item) → ((s : ℕ) → transcripts.EachBelow (outcome_order.IsNumbered s) above later) → AreCounted above → P above → P (reverse_aux later above)
added P one [] above m a k = k
added P one (x ∷ later) above m a k = added P one later (x ∷ above) (λ s. (m s).1) (counted_more x above (λ s. (m s).0) a) (one x above (λ s. (m s).0) a k)

counted_all : (early later above : List Item) → ((s : ℕ) → transcripts.EachBelow (outcome_order.IsNumbered s) above (early ++ later)) → AreCounted above → AreCounted (reverse_aux early above) × ((s : ℕ) → transcripts.EachBelow (outcome_order.IsNumbered s) (reverse_aux early above) later)
counted_all [] later above m a = (a, m)
counted_all (x ∷ early) later above m a = counted_all early later (x ∷ above) (λ s. (m s).1) (counted_more x above (λ s. (m s).0) a)

reversed : (early later above : List Item) → reverse_aux (early ++ later) above ≡ reverse_aux later (reverse_aux early above)
reversed [] later above = refl
reversed (x ∷ early) later above = reversed early later (x ∷ above)

pub items_grow : (P : List Item → Type 0) → ((x : Item) (items : List Item) → ((s : ℕ) → outcome_order.IsNumbered s items x) → AreCounted items → P items → P (x ∷ items))
    → (early later : List Item) → truths.AreCallsNumbered (early ++ later) → P (reverse early) → P (reverse (early ++ later))
items_grow P one early later numbered k =
    let a = counted_all early later [] numbered (λ s. tt) in
    subst P (sym (reversed early later [])) (added P one later (reverse early) a.1 a.0 k)

pub payloads_stay_true : truths.PayloadsStayTrue
payloads_stay_true early later h more c p numbered k =
    items_grow (λ items. payloads.IsTruePayload items (h ++ more) c p) (λ x items m a t. item_grows x items (h ++ more) c p m a t) early later numbered (history_grows (reverse early) h more c p k)

-- what a payload tells of is within
too_within : (p : ℕ) (es : List Event) (xs : List histories.Heard) → AllByRecursion (λ e. e.place ≤ p) xs → AllByRecursion (λ e. e.place ≤ suc p) (histories.heard_too (suc p) es xs)
too_within p [] xs h = all_since (λ e. e.place ≤ p) (λ e. e.place ≤ suc p) (λ e l. omega arith) xs h
too_within p (e ∷ es) xs h = all_append (λ x. x.place ≤ suc p) xs ((record { place = suc p; prev = histories.last_place xs; events = e ∷ es }) ∷ []) (all_since (λ x. x.place ≤ p) (λ x. x.place ≤ suc p) (λ x l. omega arith) xs h) (omega arith, tt)

heard_within : (h : histories.History) (s p : ℕ) → AllByRecursion (λ e. e.place ≤ p) (histories.heard_upto h s p)
heard_within h s zero = tt
heard_within h s (suc p) = too_within p (histories.told_at h (suc p) s) (histories.heard_upto h s p) (heard_within h s p)

heard_holds : (P : histories.Heard → Type 0) (x : histories.Heard) (xs : List histories.Heard) → payloads.IsHeardIn x xs → AllByRecursion P xs → P x
heard_holds P x [] k h = absurd k
heard_holds P x (y ∷ xs) (inl e) h = subst P e h.0
heard_holds P x (y ∷ xs) (inr k) h = heard_holds P x xs k h.1

there_within : {X : Type 0} (P : Option X → Type 0) → (P None → ⊥) → (xs : List X) (p : ℕ) → P (lists.at_place xs p) → p ≤ length xs
there_within {X = X} P none xs p h = go (lists.at_place xs p) refl h
  where
    go : (x : Option X) → lists.at_place xs p ≡ x → P x → p ≤ length xs
    go None e k = absurd (none k)
    go (Some y) e k = (at_some xs p y e).1

pub truth_is_within : truths.TruthIsWithin
truth_is_within items h c (payload.Opened opening s) k = there_within (payloads.IsOpeningOf c opening) (λ z. z) h s k
truth_is_within items h c (payload.Reply s seq p named r) k = there_reply h p r k.1
truth_is_within items h c (payload.Answer s n l p named term arrival r) k = k.within
truth_is_within items h c (payload.Batch s p prev es) k = heard_holds (λ e. e.place ≤ length h) (record { place = p; prev = prev; events = es }) (histories.events h s) k (heard_within h s (length h))
truth_is_within items h c (payload.Ended s p how) k = there_within (outcome_order.IsEndOf s how) (λ z. z) h p k
truth_is_within items h c p k = omega arith
