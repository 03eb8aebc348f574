-- A session state after one more entry, and after all of a log, and what the entry gives.
use Rattle.std.proofs.Common.{◌≡◌, ◌⊎◌, ℕ, zero, suc, ◌+◌, ◌-◌, ◌≤◌, Bool, true, false, cond, nat_eq, List, [], ◌∷◌, ◌++◌, Option, Some, None, length, map, filter, option_map, refl, sym, ap, ap₂, ◌∙◌, subst, arith, inl, inr, append-nil, append_assoc}
use Rattle.std.specs.List.{AllByRecursion, list_any}
use Rattle.std.proofs.lemmas.List.{take-append-le}
use Rattle.ax_types.specs.Places as lists
use Rattle.ax_types.specs.declared.entries.Act.{Act}
use Rattle.ax_types.specs.declared.entries.Act.TheVariants as act
use Rattle.ax_types.specs.declared.entries.Batch.{Batch}
use Rattle.ax_types.specs.declared.entries.Body.{Body}
use Rattle.ax_types.specs.declared.entries.Entry.{Entry}
use Rattle.ax_types.specs.declared.ops.Op.{Op}
use Rattle.ax_types.specs.declared.packets.Payload.{Payload}
use Rattle.ax_types.specs.declared.packets.Payload.TheVariants as payload
use Rattle.ax_types.specs.declared.replies.Event.{Event}
use Rattle.ax_types.specs.declared.replies.Reply.{Reply}
use Rattle.ax_types.specs.declared.sessions.Applied.{Applied}
use Rattle.ax_types.specs.declared.sessions.KeptReply.{KeptReply}
use Rattle.spec_book.specs.Book as books
use Rattle.spec_book.specs.History as histories
use Rattle.spec_claims.specs.Payloads as payloads
use Rattle.spec_sessions.specs.Outboxes as outboxes
use Rattle.spec_sessions.specs.Sessions as sessions
use Rattle.spec_run.specs.KeptStores as kept_stores
use Rattle.law_told.proofs.Lists.{by_test, all_since, all_append, at_within, at_end, at_some}
use Rattle.law_told.proofs.Growth.{book_next, turn_next, events_next, live_grown}
use Rattle.law_told.proofs.Named.{IsLiveNow, OwnLive, live_end, live_kept}
use Rattle.law_told.proofs.Staying.{history_grows}
use Rattle.law_sessions.specs.Acts as laws
use Rattle.law_sessions.specs.Folds as folds
use Rattle.law_sessions.proofs.Finding.{equal, is_equal, turned, found_passes, any_found, any_alike, map_same, all_map, some_same}
use Rattle.law_sessions.proofs.Signs.{one_longer, dos_next}
use Rattle.law_sessions.proofs.States.{IsReplyIn, IsBatchIn, IsBoxIn, AreActs, IsStateOf, is_session, is_box}
use Rattle.law_sessions.proofs.Effects.{le_or, true_answer, with_act, IsNext, AnswersTruly, IsEffectOf, entry_effect}

-- the events of a session are the same, read from either side
told_same : (s : ℕ) (told : List (ℕ × Event)) → outboxes.told_to s told ≡ histories.events_for s told
told_same s [] = refl
told_same s (t ∷ told) = go (nat_eq t.0 s) (nat_eq s t.0) (turned t.0 s) (told_same s told)
  where
    go : (b c : Bool) → b ≡ c → map (λ e. e.1) (filter (λ e. nat_eq e.0 s) told) ≡ map (λ e. e.1) (filter (λ e. nat_eq s e.0) told)
        → map (λ e. e.1) (cond b (t ∷ filter (λ e. nat_eq e.0 s) told) (filter (λ e. nat_eq e.0 s) told)) ≡ map (λ e. e.1) (cond c (t ∷ filter (λ e. nat_eq s e.0) told) (filter (λ e. nat_eq s e.0) told))
    go true true e i = ap (λ xs. t.1 ∷ xs) i
    go false false e i = i
    go true false e i = absurd (cc)
    go false true e i = absurd (cc)

-- what is kept for a session while its command is carried out
record IsBoxMid (h g : histories.History) (o : outboxes.Outbox) : Type 0 where
  seq : o.cache.last ≡ length (histories.dos h o.session)
  batch : o.batches.last ≡ histories.last_place (histories.events g o.session)
  replies : AllByRecursion (IsReplyIn g o.session) o.cache.replies
  batches : AllByRecursion (IsBatchIn g o.session) o.batches.kept

replies_grow : (h : histories.History) (a : ℕ × Act) (t : ℕ) (ks : List KeptReply) → AllByRecursion (IsReplyIn h t) ks → AllByRecursion (IsReplyIn (h ++ a ∷ []) t) ks
replies_grow h a t ks k = all_since (IsReplyIn h t) (IsReplyIn (h ++ a ∷ []) t) (λ x q. history_grows [] h (a ∷ []) 0 (sessions.reply_payload t x) q) ks k

batches_grow : (h : histories.History) (a : ℕ × Act) (t : ℕ) (bs : List Batch) → AllByRecursion (IsBatchIn h t) bs → AllByRecursion (IsBatchIn (h ++ a ∷ []) t) bs
batches_grow h a t bs k = all_since (IsBatchIn h t) (IsBatchIn (h ++ a ∷ []) t) (λ x q. history_grows [] h (a ∷ []) 0 (payload.Batch t x.place x.prev x.events) q) bs k

last_there : (xs : List histories.Heard) (x : histories.Heard) → payloads.IsHeardIn x (xs ++ x ∷ [])
last_there [] x = inl refl
last_there (y ∷ xs) x = inr (last_there xs x)

last_added : (xs : List histories.Heard) (x : histories.Heard) → histories.last_place (xs ++ x ∷ []) ≡ x.place
last_added [] x = refl
last_added (y ∷ []) x = refl
last_added (y ∷ z ∷ xs) x = last_added (z ∷ xs) x

-- the batch of the new place
heard_batch : ℕ → histories.History → ℕ → List Event → histories.Heard
heard_batch p h t es = record { place = p; prev = histories.last_place (histories.events h t); events = es }

box_told : (h : histories.History) (a : ℕ × Act) (o : outboxes.Outbox) (es : List Event) → histories.events (h ++ a ∷ []) o.session ≡ histories.heard_too (suc (length h)) es (histories.events h o.session)
    → IsBoxIn h o → IsBoxMid h (h ++ a ∷ []) (outboxes.box_with (suc (length h)) es o) × AllByRecursion (λ b. IsBatchIn (h ++ a ∷ []) b.0 b.1) (outboxes.batch_due (suc (length h)) es o)
box_told h a o [] e k = (
  record { seq = k.seq; batch = k.batch ∙ sym (ap histories.last_place e); replies = replies_grow h a o.session o.cache.replies k.replies; batches = batches_grow h a o.session o.batches.kept k.batches },
  tt,
)
box_told h a o (x ∷ es) e k =
    let p : ℕ = suc (length h) in
    let b : Batch = outboxes.batch_of o.batches (suc (length h)) (x ∷ es) in
    let y : histories.Heard = record { place = suc (length h); prev = o.batches.last; events = x ∷ es } in
    let same : histories.events (h ++ a ∷ []) o.session ≡ histories.events h o.session ++ y ∷ [] = e ∙ ap (λ n. histories.events h o.session ++ (record { place = suc (length h); prev = n; events = x ∷ es }) ∷ []) (sym k.batch) in
    let new : IsBatchIn (h ++ a ∷ []) o.session b = subst (payloads.IsHeardIn y) (sym same) (last_there (histories.events h o.session) y) in (
      record {
        seq = k.seq;
        batch = sym (ap histories.last_place same ∙ last_added (histories.events h o.session) y);
        replies = replies_grow h a o.session o.cache.replies k.replies;
        batches = all_append (IsBatchIn (h ++ a ∷ []) o.session) o.batches.kept (b ∷ []) (batches_grow h a o.session o.batches.kept k.batches) (new, tt);
      },
      (new, tt),
    )

boxes_told : (h : histories.History) (a : ℕ × Act) (told : List (ℕ × Event)) (os : List outboxes.Outbox) → ((t : ℕ) → histories.events (h ++ a ∷ []) t ≡ histories.heard_too (suc (length h)) (histories.events_for t told) (histories.events h t))
    → AllByRecursion (IsBoxIn h) os → AllByRecursion (IsBoxMid h (h ++ a ∷ [])) (outboxes.all_told (suc (length h)) told os) × AllByRecursion (λ b. IsBatchIn (h ++ a ∷ []) b.0 b.1) (outboxes.batches_due (suc (length h)) told os)
boxes_told h a told [] e k = (tt, tt)
boxes_told h a told (o ∷ os) e k =
    let i = box_told h a o (outboxes.told_to o.session told) (e o.session ∙ ap (λ es. histories.heard_too (suc (length h)) es (histories.events h o.session)) (sym (told_same o.session told))) k.0 in
    let r = boxes_told h a told os e k.1 in
    ((i.0, r.0), all_append (λ b. IsBatchIn (h ++ a ∷ []) b.0 b.1) (outboxes.batch_due (suc (length h)) (outboxes.told_to o.session told) o) (outboxes.batches_due (suc (length h)) told os) i.1 r.1)

box_session : (p : ℕ) (es : List Event) (o : outboxes.Outbox) → (outboxes.box_with p es o).session ≡ o.session
box_session p [] o = refl
box_session p (e ∷ es) o = refl

told_sessions : (p : ℕ) (told : List (ℕ × Event)) (os : List outboxes.Outbox) → map (λ o. o.session) (outboxes.all_told p told os) ≡ map (λ o. o.session) os
told_sessions p told os = map_same (λ o. o.session) (λ o. outboxes.box_with p (outboxes.told_to o.session told) o) (λ o. box_session p (outboxes.told_to o.session told) o) os

-- the last batch of a session that has a box
last_mid : (h g : histories.History) (t : ℕ) (os : List outboxes.Outbox) → AllByRecursion (IsBoxMid h g) os → list_any (is_box t) os ≡ true → outboxes.last_batch os t ≡ histories.last_place (histories.events g t)
last_mid h g t os k i =
    let f = any_found (is_box t) os i in
    let a = found_passes (IsBoxMid h g) (is_box t) os f.0 k f.1 in
    ap outboxes.last_batch_in f.1 ∙ a.0.batch ∙ ap (λ s. histories.last_place (histories.events g s)) (equal f.0.session t a.1)

-- a command's reply is cached
with_command : (h : histories.History) (time : ℕ) (name : List ℕ) (o : Op) (c : ℕ × ℕ) (os : List outboxes.Outbox) → c.1 ≡ suc (length (histories.dos h c.0))
    → AllByRecursion (IsBoxMid h (with_act h time (act.Do c.0 name o))) os → list_any (is_box c.0) os ≡ true
    → IsReplyIn (with_act h time (act.Do c.0 name o)) c.0 (sessions.cached_reply (suc (length h)) os c (books.acted (histories.book_after 0 [] h) (suc (length h)) time (act.Do c.0 name o)).turn.reply)
with_command h time name o c os e k i =
    let a : ℕ × Act = (time, act.Do c.0 name o) in
    let d : histories.dos (h ++ a ∷ []) c.0 ≡ histories.dos h c.0 ++ (0 + length h + 1, (name, o)) ∷ [] =
    dos_next h a c.0 ∙ ap (λ b. histories.dos h c.0 ++ cond b ((0 + length h + 1, (name, o)) ∷ []) []) (is_equal c.0 c.0 refl) in
    let m : 0 + length h + 1 ≡ suc (length h) = omega arith in
    let at : option_map (λ x. x.0) (lists.at_place (histories.dos (h ++ a ∷ []) c.0) c.1) ≡ Some (0 + length h + 1) =
    ap₂ (λ xs n. option_map (λ x. x.0) (lists.at_place xs n)) d e ∙ ap (option_map (λ x. x.0)) (at_end (histories.dos h c.0) (0 + length h + 1, (name, o)) []) in
    let last : outboxes.last_batch os c.0 ≡ histories.last_told (h ++ a ∷ []) c.0 (suc (length h)) =
    last_mid h (h ++ a ∷ []) c.0 os k i ∙ ap (λ n. histories.last_place (histories.heard_upto (h ++ a ∷ []) c.0 n)) (one_longer h a) in
    (at ∙ ap (λ n. Some n) m, ap (option_map (λ t. t.reply)) (turn_next h a), last)

box_done : (h : histories.History) (time : ℕ) (name : List ℕ) (op : Op) (c : ℕ × ℕ) (kept : KeptReply) (o : outboxes.Outbox) → c.1 ≡ suc (length (histories.dos h c.0)) → kept.seq ≡ c.1 → IsReplyIn (with_act h time (act.Do c.0 name op)) c.0 kept
    → IsBoxMid h (with_act h time (act.Do c.0 name op)) o → (b : Bool) → nat_eq o.session c.0 ≡ b → IsBoxIn (with_act h time (act.Do c.0 name op)) (cond b (outboxes.with_reply kept o) o)
box_done h time name op c kept o e f k m true i =
    let a : ℕ × Act = (time, act.Do c.0 name op) in
    let s : o.session ≡ c.0 = equal o.session c.0 i in
    let d : histories.dos (h ++ a ∷ []) c.0 ≡ histories.dos h c.0 ++ (0 + length h + 1, (name, op)) ∷ [] =
    dos_next h a c.0 ∙ ap (λ b. histories.dos h c.0 ++ cond b ((0 + length h + 1, (name, op)) ∷ []) []) (is_equal c.0 c.0 refl) in
    record {
      seq = f ∙ e ∙ sym (ap (λ x. length (histories.dos (h ++ a ∷ []) x)) s ∙ ap (λ x. length x) d ∙ one_longer (histories.dos h c.0) (0 + length h + 1, (name, op)));
      batch = m.batch;
      replies = all_append (IsReplyIn (h ++ a ∷ []) o.session) o.cache.replies (kept ∷ []) m.replies (subst (λ x. IsReplyIn (h ++ a ∷ []) x kept) (sym s) k, tt);
      batches = m.batches;
    }
box_done h time name op c kept o e f k m false i =
    let a : ℕ × Act = (time, act.Do c.0 name op) in
    let d : histories.dos (h ++ a ∷ []) o.session ≡ histories.dos h o.session =
    dos_next h a o.session ∙ ap (λ b. histories.dos h o.session ++ cond b ((0 + length h + 1, (name, op)) ∷ []) []) i ∙ append-nil (histories.dos h o.session) in
    record { seq = m.seq ∙ sym (ap (λ x. length x) d); batch = m.batch; replies = m.replies; batches = m.batches }

-- the boxes after the act
boxes_after : (h : histories.History) (time : ℕ) (b : Body) (a : Act) (c : Option (ℕ × ℕ)) (os : List outboxes.Outbox) → IsNext h b a c → AllByRecursion (IsBoxMid h (with_act h time a)) os
    → ((t : ℕ) → IsLiveNow (with_act h time a) t → list_any (is_box t) os ≡ true) → AllByRecursion (IsBoxIn (with_act h time a)) (sessions.boxes_with os (suc (length h)) c (books.acted (histories.book_after 0 [] h) (suc (length h)) time a).turn.reply)
boxes_after h time b a None os n k l =
    all_since (IsBoxMid h (with_act h time a)) (IsBoxIn (with_act h time a))
    (λ o m.
    let d : histories.dos (with_act h time a) o.session ≡ histories.dos h o.session = dos_next h (time, a) o.session ∙ ap (λ x. histories.dos h o.session ++ x) (n o.session (0 + length h) time) ∙ append-nil (histories.dos h o.session) in
    record { seq = m.seq ∙ sym (ap (λ x. length x) d); batch = m.batch; replies = m.replies; batches = m.batches }) os k
boxes_after h time b a (Some c) os n k l =
    subst (λ x. AllByRecursion (IsBoxMid h (with_act h time x)) os → ((t : ℕ) → IsLiveNow (with_act h time x) t → list_any (is_box t) os ≡ true)
    → AllByRecursion (IsBoxIn (with_act h time x)) (sessions.boxes_with os (suc (length h)) (Some c) (books.acted (histories.book_after 0 [] h) (suc (length h)) time x).turn.reply)) (sym n.2) (boxes_done n.0 n.1 n.3 n.5) k l
  where
    boxes_done : (name : List ℕ) (o : Op) → c.1 ≡ suc (length (histories.dos h c.0)) → IsLiveNow h c.0 → AllByRecursion (IsBoxMid h (with_act h time (act.Do c.0 name o))) os
        → ((t : ℕ) → IsLiveNow (with_act h time (act.Do c.0 name o)) t → list_any (is_box t) os ≡ true)
        → AllByRecursion (IsBoxIn (with_act h time (act.Do c.0 name o))) (sessions.boxes_with os (suc (length h)) (Some c) (books.acted (histories.book_after 0 [] h) (suc (length h)) time (act.Do c.0 name o)).turn.reply)
    boxes_done name o e live m any =
        let kept : KeptReply = sessions.cached_reply (suc (length h)) os c (books.acted (histories.book_after 0 [] h) (suc (length h)) time (act.Do c.0 name o)).turn.reply in
        let r = with_command h time name o c os e m (any c.0 (live_kept h (time, act.Do c.0 name o) c.0 refl live)) in
        all_map (IsBoxMid h (with_act h time (act.Do c.0 name o))) (IsBoxIn (with_act h time (act.Do c.0 name o))) (λ x. cond (nat_eq x.session c.0) (outboxes.with_reply kept x) x)
        (λ x q. box_done h time name o c kept x e refl r q (nat_eq x.session c.0) refl) os m

-- the answer to a command
command_answers : (h : histories.History) (time : ℕ) (b : Body) (a : Act) (c : Option (ℕ × ℕ)) (os : List outboxes.Outbox) (client : Option ℕ) (other : Option Payload) → IsNext h b a c → AllByRecursion (IsBoxMid h (with_act h time a)) os
    → ((t : ℕ) → IsLiveNow (with_act h time a) t → list_any (is_box t) os ≡ true) → AnswersTruly (with_act h time a) client other
    → AnswersTruly (with_act h time a) client (sessions.command_answer os (suc (length h)) c (books.acted (histories.book_after 0 [] h) (suc (length h)) time a).turn.reply other)
command_answers h time b a None os client other n k l t = t
command_answers h time b a (Some c) os client other n k l t =
    subst (λ x. AllByRecursion (IsBoxMid h (with_act h time x)) os → ((t : ℕ) → IsLiveNow (with_act h time x) t → list_any (is_box t) os ≡ true)
    → AnswersTruly (with_act h time x) client (sessions.command_answer os (suc (length h)) (Some c) (books.acted (histories.book_after 0 [] h) (suc (length h)) time x).turn.reply other)) (sym n.2) (done_answers n.0 n.1 n.3 n.5) k l
  where
    done_answers : (name : List ℕ) (o : Op) → c.1 ≡ suc (length (histories.dos h c.0)) → IsLiveNow h c.0 → AllByRecursion (IsBoxMid h (with_act h time (act.Do c.0 name o))) os
        → ((t : ℕ) → IsLiveNow (with_act h time (act.Do c.0 name o)) t → list_any (is_box t) os ≡ true)
        → AnswersTruly (with_act h time (act.Do c.0 name o)) client (sessions.command_answer os (suc (length h)) (Some c) (books.acted (histories.book_after 0 [] h) (suc (length h)) time (act.Do c.0 name o)).turn.reply other)
    done_answers name o e live m any =
        let r = with_command h time name o c os e m (any c.0 (live_kept h (time, act.Do c.0 name o) c.0 refl live)) in
        true_answer (with_act h time (act.Do c.0 name o)) client (sessions.reply_payload c.0 (sessions.cached_reply (suc (length h)) os c (books.acted (histories.book_after 0 [] h) (suc (length h)) time (act.Do c.0 name o)).turn.reply)) (λ d items. r)

-- the acts go on
at_last : {X : Type 0} (xs : List X) (x : X) (k : ℕ) (y : X) → lists.at_place (xs ++ x ∷ []) k ≡ Some y → (lists.at_place xs k ≡ Some y) ⊎ ((k ≡ suc (length xs)) × (x ≡ y))
at_last {X = X} xs x k y e =
    let w = at_some (xs ++ x ∷ []) k y e in
    let n = one_longer xs x in
    elim (le_or k (length xs) (omega arith)) [
      | inl le ↦ inl (sym (at_within xs (x ∷ []) k le) ∙ e)
      | inr q ↦ inr (q, some_same x y (sym (at_end xs x []) ∙ ap (lists.at_place (xs ++ x ∷ [])) (sym q) ∙ e))
    ]

there_stays : {X : Type 0} (P : Option X → Type 0) → (P None → ⊥) → (xs ys : List X) (p : ℕ) → P (lists.at_place xs p) → P (lists.at_place (xs ++ ys) p)
there_stays {X = X} P none xs ys p h = go (lists.at_place xs p) refl h
  where
    go : (x : Option X) → lists.at_place xs p ≡ x → P x → P (lists.at_place (xs ++ ys) p)
    go None e k = absurd (none k)
    go (Some y) e k = subst P (sym (at_within xs ys p (at_some xs p y e).1 ∙ e)) k

of_live_grown : (h r : histories.History) (p : ℕ) (x : Option ℕ) → p ≤ length h → histories.IsOfLive h p x → histories.IsOfLive (h ++ r) p x
of_live_grown h r p None l i = tt
of_live_grown h r p (Some s) l i = live_grown h r (p - 1) s (omega arith) ∙ i

of_live_last : (h : histories.History) (a : ℕ × Act) (x : Option ℕ) → OwnLive h x → histories.IsOfLive (h ++ a ∷ []) (suc (length h)) x
of_live_last h a None i = tt
of_live_last h a (Some s) i =
    let e : suc (length h) - 1 ≡ length h = omega arith in
    ap (λ n. histories.is_live (h ++ a ∷ []) n s) e ∙ live_grown h (a ∷ []) (length h) s (omega arith) ∙ live_end h s ∙ i

due_grown : (h r : histories.History) (timeout p : ℕ) (a : ℕ × Act) → p ≤ length h → histories.IsDue h timeout p a → histories.IsDue (h ++ r) timeout p a
due_grown h r timeout p (time, act.Expire s) l d =
    let e : histories.sign (h ++ r) p s ≡ histories.sign h p s = ap (histories.sign_after s 0 0) (take-append-le (p - 1) h r (omega arith)) in
    subst (λ n. timeout ≤ time - n) (sym e) d
due_grown h r timeout p (time, act.Close s) l d = tt
due_grown h r timeout p (time, act.Do s name o) l d = tt
due_grown h r timeout p (time, act.Keep s) l d = tt
due_grown h r timeout p (time, act.Open c o) l d = tt
due_grown h r timeout p (time, act.Nothing) l d = tt

command_there : (es : List Entry) (e : Entry) (s k : ℕ) (d : List ℕ × Op) (p : ℕ) → laws.IsCommandAt s k d (lists.at_place es p) → laws.IsCommandAt s k d (lists.at_place (es ++ e ∷ []) p)
command_there es e s k d p c = there_stays (laws.IsCommandAt s k d) (λ z. z) es (e ∷ []) p c

commands_on : (es : List Entry) (h : histories.History) (e : Entry) (a : Act) (x : Option (ℕ × ℕ)) → length h ≡ length es → IsNext h e.body a x
    → ((s k : ℕ) (d : ℕ × (List ℕ × Op)) → lists.at_place (histories.dos h s) k ≡ Some d → laws.IsCommandAt s k d.1 (lists.at_place es d.0))
    → (s k : ℕ) (d : ℕ × (List ℕ × Op)) → lists.at_place (histories.dos (with_act h e.time a) s) k ≡ Some d → laws.IsCommandAt s k d.1 (lists.at_place (es ++ e ∷ []) d.0)
commands_on es h e a None long n old s k d i =
    let same : histories.dos (with_act h e.time a) s ≡ histories.dos h s = dos_next h (e.time, a) s ∙ ap (λ x. histories.dos h s ++ x) (n s (0 + length h) e.time) ∙ append-nil (histories.dos h s) in
    command_there es e s k d.1 d.0 (old s k d (ap (λ x. lists.at_place x k) (sym same) ∙ i))
commands_on es h e a (Some c) long n old s k d i =
    let name = n.0 in
    let o = n.1 in
    let more : histories.dos (with_act h e.time a) s ≡ histories.dos h s ++ cond (nat_eq s c.0) ((0 + length h + 1, (name, o)) ∷ []) [] = dos_next h (e.time, a) s ∙ ap (λ x. histories.dos h s ++ histories.dos_after s (0 + length h) ((e.time, x) ∷ [])) n.2 in
    go (nat_eq s c.0) refl more
  where
    go : (b : Bool) → nat_eq s c.0 ≡ b → histories.dos (with_act h e.time a) s ≡ histories.dos h s ++ cond b ((0 + length h + 1, (n.0, n.1)) ∷ []) [] → laws.IsCommandAt s k d.1 (lists.at_place (es ++ e ∷ []) d.0)
    go false z more = command_there es e s k d.1 d.0 (old s k d (sym (ap (λ x. lists.at_place x k) (more ∙ append-nil (histories.dos h s))) ∙ i))
    go true z more =
        let same : s ≡ c.0 = equal s c.0 z in
        let at = at_last (histories.dos h s) (0 + length h + 1, (n.0, n.1)) k d (sym (ap (λ x. lists.at_place x k) more) ∙ i) in
        elim at [
          | inl q ↦ command_there es e s k d.1 d.0 (old s k d q)
          | inr q ↦
              let seq : c.1 ≡ k = n.3 ∙ ap (λ x. suc (length (histories.dos h x))) (sym same) ∙ sym q.0 in
              let m : 0 + length h + 1 ≡ suc (length es) = omega arith in
              let there : lists.at_place (es ++ e ∷ []) (0 + length h + 1) ≡ Some e = ap (lists.at_place (es ++ e ∷ [])) m ∙ at_end es e [] in
              let now : laws.IsCommandAt c.0 c.1 (n.0, n.1) (lists.at_place (es ++ e ∷ []) (0 + length h + 1)) = subst (laws.IsCommandAt c.0 c.1 (n.0, n.1)) (sym there) n.4 in
              subst (λ (x : ℕ × (List ℕ × Op)). laws.IsCommandAt s k x.1 (lists.at_place (es ++ e ∷ []) x.0)) q.1
              (subst (λ x. laws.IsCommandAt x k (n.0, n.1) (lists.at_place (es ++ e ∷ []) (0 + length h + 1))) (sym same) (subst (λ x. laws.IsCommandAt c.0 x (n.0, n.1) (lists.at_place (es ++ e ∷ []) (0 + length h + 1))) seq now))
        ]

acts_on : (timeout : ℕ) (es : List Entry) (h : histories.History) (e : Entry) (f : sessions.Effect) → AreActs timeout es h → IsEffectOf timeout h e f → AreActs timeout (es ++ e ∷ []) (with_act h e.time f.act)
acts_on timeout es h e f r k =
    let a : ℕ × Act = (e.time, f.act) in
    record {
      long = let x = one_longer h a in let y = one_longer es e in let z = r.long in omega arith;
      each = λ p b i.
          elim (at_last h a p b i) [
            | inl q ↦ there_stays (λ x. laws.IsActOf x b) (λ z. z) es (e ∷ []) p (r.each p b q)
            | inr q ↦
                let m : p ≡ suc (length es) = q.0 ∙ ap (λ n. suc n) r.long in
                let there : lists.at_place (es ++ e ∷ []) p ≡ Some e = ap (lists.at_place (es ++ e ∷ [])) m ∙ at_end es e [] in
                subst (λ x. laws.IsActOf x b) (sym there) (subst (λ x. laws.IsActOf (Some e) x) q.1 (refl, k.body))
          ];
      commands = commands_on es h e f.act f.command r.long k.command r.commands;
      of_live = λ p b i.
          elim (at_last h a p b i) [
            | inl q ↦ of_live_grown h (a ∷ []) p (histories.session_of b.1) (at_some h p b q).1 (r.of_live p b q)
            | inr q ↦ subst (λ x. histories.IsOfLive (h ++ a ∷ []) x (histories.session_of b.1)) (sym q.0) (subst (λ (x : ℕ × Act). histories.IsOfLive (h ++ a ∷ []) (suc (length h)) (histories.session_of x.1)) q.1 (of_live_last h a (histories.session_of f.act) k.own))
          ];
      due = λ p b i.
          elim (at_last h a p b i) [
            | inl q ↦ due_grown h (a ∷ []) timeout p b (at_some h p b q).1 (r.due p b q)
            | inr q ↦ subst (λ x. histories.IsDue (h ++ a ∷ []) timeout x b) (sym q.0) (subst (histories.IsDue (h ++ a ∷ []) timeout (suc (length h))) q.1 k.due)
          ];
    }

-- the state goes on, and what the entry gives is true
pub record Goes (timeout : ℕ) (es : List Entry) (g : histories.History) (s : sessions.Sessions) (a : Applied) : Type 0 where
  pub state : IsStateOf timeout es g s
  pub gives : folds.GivesFold g a

given_there : (h : histories.History) (a : ℕ × Act) (c : Option (ℕ × ℕ)) (r : Reply) → sessions.given_reply c (books.acted (histories.book_after 0 [] h) (suc (length h)) a.0 a.1).turn.reply ≡ Some r → histories.history_reply (h ++ a ∷ []) (length (h ++ a ∷ [])) ≡ Some r
given_there h a None r e = absurd (cc)
given_there h a (Some c) r e = ap (histories.history_reply (h ++ a ∷ [])) (one_longer h a) ∙ ap (option_map (λ t. t.reply)) (turn_next h a) ∙ e

goes_by : (timeout : ℕ) (es : List Entry) (h : histories.History) (s : sessions.Sessions) (e : Entry) (f : sessions.Effect) → IsStateOf timeout es h s → IsEffectOf timeout h e f
    → Goes timeout (es ++ e ∷ []) (with_act h e.time f.act) (sessions.after_effect s (suc (length h)) f (books.acted (histories.book_after 0 [] h) (suc (length h)) e.time f.act))
    (sessions.applied_as f (suc (length h)) e.body (books.acted (histories.book_after 0 [] h) (suc (length h)) e.time f.act))
goes_by timeout es h s e f r k =
    let a : ℕ × Act = (e.time, f.act) in
    let told : List (ℕ × Event) = (books.acted (histories.book_after 0 [] h) (suc (length h)) e.time f.act).turn.told in
    let os : List outboxes.Outbox = outboxes.all_told (suc (length h)) told f.boxes in
    let b = boxes_told h a told f.boxes (λ t. events_next h a t) k.boxes in
    let same : map (λ l. l.session) f.table.live ≡ map (λ o. o.session) os = k.same ∙ sym (told_sessions (suc (length h)) told f.boxes) in
    let any : (t : ℕ) → IsLiveNow (h ++ a ∷ []) t → list_any (is_box t) os ≡ true = λ t l. sym (any_alike (λ x. x.session) (λ o. o.session) t f.table.live os same) ∙ k.table.all t l in
    record {
      state = record {
        acts = acts_on timeout es h e f r.acts k;
        applied = sym (one_longer h a);
        book = sym (book_next h a);
        table = k.table;
        same = same ∙ sym (with_sessions os (suc (length h)) f.command _);
        boxes = boxes_after h e.time e.body f.act f.command os k.command b.0 any;
      };
      gives = record {
        reply = given_there h a f.command;
        answer = command_answers h e.time e.body f.act f.command os (sessions.body_client e.body) f.answer k.command b.0 any k.answer;
        batches = λ c. all_since (λ x. IsBatchIn (h ++ a ∷ []) x.0 x.1) (λ (x : ℕ × Batch). folds.IsTrueOf (h ++ a ∷ []) c (payload.Batch x.0 x.1.place x.1.prev x.1.events)) (λ x q items. q) _ b.1;
      };
    }
  where
    with_sessions : (os : List outboxes.Outbox) (p : ℕ) (c : Option (ℕ × ℕ)) (reply : Reply) → map (λ o. o.session) (sessions.boxes_with os p c reply) ≡ map (λ o. o.session) os
    with_sessions os p None reply = refl
    with_sessions os p (Some c) reply =
        map_same (λ o. o.session) (λ o. cond (nat_eq o.session c.0) (outboxes.with_reply (sessions.cached_reply p os c reply) o) o)
        (λ o. by_test (λ (x : outboxes.Outbox). x.session ≡ o.session) (nat_eq o.session c.0) (outboxes.with_reply (sessions.cached_reply p os c reply) o) o (λ e. refl) (λ e. refl)) os

pub entry_goes : (timeout : ℕ) (es : List Entry) (h : histories.History) (s : sessions.Sessions) (e : Entry) → IsStateOf timeout es h s
    → Goes timeout (es ++ e ∷ []) (with_act h e.time (sessions.applied_of s (suc s.applied) e).act) (sessions.applying s (suc s.applied) e) (sessions.applied_of s (suc s.applied) e)
entry_goes timeout es h s e r =
    let there : books.Book → ℕ → Type 0 = λ b n. Goes timeout (es ++ e ∷ []) (with_act h e.time (sessions.effect s (suc n) e.time e.body).act)
    (sessions.after_effect s (suc n) (sessions.effect s (suc n) e.time e.body) (books.acted b (suc n) e.time (sessions.effect s (suc n) e.time e.body).act))
    (sessions.applied_as (sessions.effect s (suc n) e.time e.body) (suc n) e.body (books.acted b (suc n) e.time (sessions.effect s (suc n) e.time e.body).act)) in
    let g : there (histories.book_after 0 [] h) (length h) = goes_by timeout es h s e (sessions.effect s (suc (length h)) e.time e.body) r (entry_effect timeout es h s e r) in
    let k : there s.book (length h) = subst (λ b. there b (length h)) (sym r.book) g in
    subst (λ n. there s.book n) (sym r.applied) k

-- all of a log
pub start : (timeout : ℕ) → IsStateOf timeout [] [] (sessions.new_sessions timeout)
start timeout = record {
  acts = record { long = refl; each = λ p a i. absurd (nowhere p i); commands = λ s k d i. absurd (nowhere k i); of_live = λ p a i. absurd (nowhere p i); due = λ p a i. absurd (nowhere p i) };
  applied = refl;
  book = refl;
  table = record { limit = refl; live = tt; all = λ s l. none s l; past = tt };
  same = refl;
  boxes = tt;
}
  where
    nowhere : {X : Type 0} {x : X} (p : ℕ) → lists.at_place [] p ≡ Some x → ⊥
    nowhere zero i = cc
    nowhere (suc p) i = cc

    none : (s : ℕ) → IsLiveNow [] s → list_any (is_session s) [] ≡ true
    none zero l = absurd (cc)
    none (suc s) l = absurd (cc)

pub run : (timeout : ℕ) (done es : List Entry) (h : histories.History) (s : sessions.Sessions) → IsStateOf timeout done h s → IsStateOf timeout (done ++ es) (h ++ kept_stores.acts_from s es) (folds.applied_all s es)
run timeout done [] h s r = subst (λ g. IsStateOf timeout (done ++ []) g s) (sym (append-nil h)) (subst (λ xs. IsStateOf timeout xs h s) (sym (append-nil done)) r)
run timeout done (e ∷ es) h s r =
    let a : ℕ × Act = (e.time, (sessions.applied_of s (suc s.applied) e).act) in
    let t : sessions.Sessions = sessions.applying s (suc s.applied) e in
    let i = run timeout (done ++ e ∷ []) es (h ++ a ∷ []) t (entry_goes timeout done h s e r).state in
    subst (λ g. IsStateOf timeout (done ++ e ∷ es) g (folds.applied_all t es)) (append_assoc h (a ∷ []) (kept_stores.acts_from t es))
    (subst (λ xs. IsStateOf timeout xs ((h ++ a ∷ []) ++ kept_stores.acts_from t es) (folds.applied_all t es)) (append_assoc done (e ∷ []) es) i)

pub whole : (timeout : ℕ) (es : List Entry) → IsStateOf timeout es (kept_stores.acts_of timeout es) (folds.sessions_after timeout es)
whole timeout es = run timeout [] es [] (sessions.new_sessions timeout) (start timeout)

-- the acts of more entries
pub acts_split : (s : sessions.Sessions) (es more : List Entry) → kept_stores.acts_from s (es ++ more) ≡ kept_stores.acts_from s es ++ kept_stores.acts_from (folds.applied_all s es) more
acts_split s [] more = refl
acts_split s (e ∷ es) more = ap (λ xs. (e.time, (sessions.applied_of s (suc s.applied) e).act) ∷ xs) (acts_split (sessions.applying s (suc s.applied) e) es more)

pub state_split : (s : sessions.Sessions) (es more : List Entry) → folds.applied_all s (es ++ more) ≡ folds.applied_all (folds.applied_all s es) more
state_split s [] more = refl
state_split s (e ∷ es) more = state_split (sessions.applying s (suc s.applied) e) es more
