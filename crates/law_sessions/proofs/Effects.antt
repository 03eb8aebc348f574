-- What each entry does: its act goes on with the history, and the table of sessions with it.
use Rattle.std.proofs.Common.{◌≡◌, ◌⊎◌, ℕ, suc, ◌+◌, ◌-◌, ◌≤◌, ◌<◌, Bool, true, false, cond, not, ◌&&◌, ◌||◌, nat_eq, nat_le, List, [], ◌∷◌, ◌++◌, Option, Some, None, length, map, refl, sym, ap, ap₂, ◌∙◌, subst, arith, inl, inr, leb-true}
use Rattle.std.specs.List.{AllByRecursion, list_any}
use Rattle.std.proofs.lemmas.List.{map-append}
use Rattle.std.proofs.lemmas.List.Folds.{list_any-append}
use Rattle.ax_types.specs.Places as lists
use Rattle.ax_types.specs.declared.entries.Act.{Act}
use Rattle.ax_types.specs.declared.entries.Act.TheVariants as act
use Rattle.ax_types.specs.declared.entries.Body.{Body}
use Rattle.ax_types.specs.declared.entries.Body.TheVariants as body
use Rattle.ax_types.specs.declared.entries.Entry.{Entry}
use Rattle.ax_types.specs.declared.ops.Op.{Op}
use Rattle.ax_types.specs.declared.packets.Payload.{Payload}
use Rattle.ax_types.specs.declared.packets.Payload.TheVariants as payload
use Rattle.ax_types.specs.declared.replies.How.{How}
use Rattle.ax_types.specs.declared.replies.How.TheVariants as how
use Rattle.ax_types.specs.declared.sessions.KeptReply.{KeptReply}
use Rattle.ax_types.specs.declared.sessions.SessionState.{SessionState}
use Rattle.ax_types.specs.declared.sessions.SessionState.TheVariants as state
use Rattle.spec_book.specs.History as histories
use Rattle.spec_claims.specs.Payloads as payloads
use Rattle.spec_claims.specs.OutcomeOrder as outcome_order
use Rattle.spec_sessions.specs.Tables as table
use Rattle.spec_sessions.specs.Outboxes as outboxes
use Rattle.spec_sessions.specs.Sessions as sessions
use Rattle.spec_run.specs.KeptStores as kept_stores
use Rattle.law_told.proofs.Lists.{by_test, all_since, all_append, at_end, at_some}
use Rattle.law_told.proofs.Named.{IsLiveNow, OwnLive, live_kept}
use Rattle.law_told.proofs.Staying.{history_grows}
use Rattle.law_sessions.specs.Acts as laws
use Rattle.law_sessions.specs.Folds as folds
use Rattle.law_sessions.proofs.Finding.{equal, unequal, is_equal, is_unequal, any_alike, without_alike, map_same, all_without, all_filter, all_map, any_without, first_same, second_same}
use Rattle.law_sessions.proofs.Signs.{sign_now, sign_next, sign_before, is_new, was_live}
use Rattle.law_sessions.proofs.States.{IsLiveIn, IsPastIn, IsReplyIn, IsBoxIn, IsTableIn, HaveSame, IsStateOf, Found, is_session, is_box, live_found, past_found, found_seq, kept_found}

-- the history with an act
abbrev pub with_act : histories.History → ℕ → Act → histories.History
with_act h time a = h ++ (time, a) ∷ []

-- the command of an effect is the next of its session
abbrev pub IsNext : histories.History → Body → Act → Option (ℕ × ℕ) → Type 0
IsNext h b a None = (s n time : ℕ) → histories.dos_after s n ((time, a) ∷ []) ≡ []
IsNext h b a (Some c) = (name : List ℕ) × (o : Op) × (a ≡ act.Do c.0 name o) × (c.1 ≡ suc (length (histories.dos h c.0))) × laws.IsCommandBody c.0 c.1 (name, o) b × IsLiveNow h c.0

abbrev pub AnswersTruly : histories.History → Option ℕ → Option Payload → Type 0
AnswersTruly h client answer = (c : ℕ) (p : Payload) → sessions.answer_to client answer ≡ Some (c, p) → folds.IsTrueOf h c p

pub record IsEffectOf (timeout : ℕ) (h : histories.History) (e : Entry) (f : sessions.Effect) : Type 0 where
  pub table : IsTableIn timeout (with_act h e.time f.act) f.table
  pub same : HaveSame f.table f.boxes
  pub boxes : AllByRecursion (IsBoxIn h) f.boxes
  pub own : OwnLive h (histories.session_of f.act)
  pub due : histories.IsDue (with_act h e.time f.act) timeout (suc (length h)) (e.time, f.act)
  pub body : kept_stores.IsBodyOf f.act e.body
  pub command : IsNext h e.body f.act f.command
  pub answer : AnswersTruly (with_act h e.time f.act) (sessions.body_client e.body) f.answer

-- rows of the table stay
row_stays : (h : histories.History) (a : ℕ × Act) (l : table.Live) (sign : ℕ) → histories.ends l.session a.1 ≡ false → sign ≡ histories.sign_after l.session (0 + length h) (sign_now h l.session) (a ∷ []) → IsLiveIn h l → IsLiveIn (h ++ a ∷ []) (record l { sign = sign })
row_stays h a l sign n e r = record {
  opened = history_grows [] h (a ∷ []) l.client (payload.Opened l.opening l.session) r.opened;
  live = live_kept h a l.session n r.live;
  sign = e ∙ sym (sign_next h a l.session);
}

row_within : (h : histories.History) (l : table.Live) → IsLiveIn h l → l.session ≤ length h
row_within h l r = go (lists.at_place h l.session) refl r.opened
  where
    go : (x : Option (ℕ × Act)) → lists.at_place h l.session ≡ x → payloads.IsOpeningOf l.client l.opening x → l.session ≤ length h
    go None e k = absurd k
    go (Some a) e k = (at_some h l.session a e).1

past_stays : (h : histories.History) (a : ℕ × Act) (ps : List table.PastSession) → AllByRecursion (IsPastIn h) ps → AllByRecursion (IsPastIn (h ++ a ∷ [])) ps
past_stays h a ps k = all_since (IsPastIn h) (IsPastIn (h ++ a ∷ [])) (λ p q. history_grows [] h (a ∷ []) 0 (payload.Ended p.session p.place p.how) q) ps k

pub le_or : (a b : ℕ) → a ≤ suc b → (a ≤ b) ⊎ (a ≡ suc b)
le_or a b l = go (nat_le a b) refl
  where
    go : (x : Bool) → nat_le a b ≡ x → (a ≤ b) ⊎ (a ≡ suc b)
    go true e = inl (leb-true a b e)
    go false e = inr (let m : b < a = above e in omega arith)
      where
        above : nat_le a b ≡ false → b < a
        above f = grind (arith, Rattle.std.proofs.lemmas.Bool.Decides.nat_tests)

-- an act that opens and ends no session, and is no sign of life
record IsQuiet (a : ℕ × Act) : Type 0 where
  ends : (s : ℕ) → histories.ends s a.1 ≡ false
  sign : (s n last : ℕ) → histories.sign_after s n last (a ∷ []) ≡ last
  open_none : histories.is_open (Some a) ≡ false

quiet_table : (timeout : ℕ) (h : histories.History) (a : ℕ × Act) (t : table.Table) → IsQuiet a → IsTableIn timeout h t → IsTableIn timeout (h ++ a ∷ []) t
quiet_table timeout h a t q r = record {
  limit = r.limit;
  live = all_since (IsLiveIn h) (IsLiveIn (h ++ a ∷ [])) (λ l k. row_stays h a l l.sign (q.ends l.session) (k.sign ∙ sym (q.sign l.session (0 + length h) (sign_now h l.session))) k) t.live r.live;
  all = λ s l.
      let w = was_live h a s l in
      elim (le_or s (length h) w.within) [
        | inl le ↦ r.all s (w.before le)
        | inr e ↦ let o = w.opened e in let n = q.open_none in absurd (cc)
      ];
  past = past_stays h a t.past r.past;
}

-- nothing but an answer
answered : (timeout : ℕ) (es : List Entry) (h : histories.History) (s : sessions.Sessions) (e : Entry) (answer : Option Payload) → IsStateOf timeout es h s → AnswersTruly (with_act h e.time act.Nothing) (sessions.body_client e.body) answer → IsEffectOf timeout h e (sessions.only_answer s answer)
answered timeout es h s e answer r k = record {
  table = quiet_table timeout h (e.time, act.Nothing) s.table (record { ends = λ t. refl; sign = λ t n last. refl; open_none = refl }) r.table;
  same = r.same;
  boxes = r.boxes;
  own = tt;
  due = tt;
  body = tt;
  command = λ t n time. refl;
  answer = k;
}

no_answer : (h : histories.History) (client : Option ℕ) → AnswersTruly h client None
no_answer h None c p e = absurd (cc)
no_answer h (Some d) c p e = absurd (cc)

pub true_answer : (h : histories.History) (client : Option ℕ) (q : Payload) → ((c : ℕ) → folds.IsTrueOf h c q) → AnswersTruly h client (Some q)
true_answer h None q k c p e = absurd (cc)
true_answer h (Some d) q k c p e = subst (λ x. folds.IsTrueOf h c x) (second_same d c q p e) (k c)

nothing_done : (timeout : ℕ) (es : List Entry) (h : histories.History) (s : sessions.Sessions) (e : Entry) → IsStateOf timeout es h s → IsEffectOf timeout h e (sessions.nothing s)
nothing_done timeout es h s e r = answered timeout es h s e None r (no_answer (with_act h e.time act.Nothing) (sessions.body_client e.body))

end_told : (timeout : ℕ) (es : List Entry) (h : histories.History) (s : sessions.Sessions) (e : Entry) (t : ℕ) (x : SessionState) → IsStateOf timeout es h s → sessions.session_state s t ≡ x → IsEffectOf timeout h e (sessions.told_end s t x)
end_told timeout es h s e t (state.Ended p way) r i =
    let k = history_grows [] h ((e.time, act.Nothing) ∷ []) 0 (payload.Ended t p way) (past_found timeout es h s t p way r i) in
    answered timeout es h s e (Some (payload.Ended t p way)) r (true_answer (with_act h e.time act.Nothing) (sessions.body_client e.body) (payload.Ended t p way) (λ c items. k))
end_told timeout es h s e t state.Live r i = nothing_done timeout es h s e r
end_told timeout es h s e t state.Unknown r i = nothing_done timeout es h s e r

-- a session is opened
registered : (timeout : ℕ) (es : List Entry) (h : histories.History) (s : sessions.Sessions) (time term client opening : ℕ) → IsStateOf timeout es h s
    → IsEffectOf timeout h (record { term = term; time = time; body = body.Register client opening }) (sessions.registering s (suc (length h)) time client opening)
registered timeout es h s time term client opening r =
    let a : ℕ × Act = (time, act.Open client opening) in
    let n = is_new h (suc (length h)) r.acts.of_live (omega arith) in
    let at : lists.at_place (h ++ a ∷ []) (suc (length h)) ≡ Some a = at_end h a [] in
    let new : table.Live = record { session = suc (length h); client = client; opening = opening; sign = time } in
    let is_opening : payloads.IsOpeningOf client opening (lists.at_place (h ++ a ∷ []) (suc (length h))) = subst (payloads.IsOpeningOf client opening) (sym at) (refl, refl) in
    let m : 0 + length h + 1 ≡ suc (length h) = omega arith in
    let row : IsLiveIn (h ++ a ∷ []) new = record {
      opened = is_opening;
      live = ap₂ (λ x y. histories.is_open x && not y) at (list_any-append (λ b. histories.ends (suc (length h)) b.1) h (a ∷ []) ∙ ap (λ x. x || false) n.ends);
      sign = sym (sign_next h a (suc (length h)) ∙ ap (λ x. cond x time (sign_now h (suc (length h)))) (is_equal (suc (length h)) (0 + length h + 1) (sym m)));
    } in
    let old : (l : table.Live) → IsLiveIn h l → IsLiveIn (h ++ a ∷ []) l = λ l k.
    let w = row_within h l k in
    row_stays h a l l.sign refl (k.sign ∙ sym (ap (λ x. cond x time (sign_now h l.session)) (is_unequal l.session (0 + length h + 1) (λ e. absurd (omega arith))))) k in
    record {
      table = record {
        limit = r.table.limit;
        live = all_append (IsLiveIn (h ++ a ∷ [])) s.table.live (new ∷ []) (all_since (IsLiveIn h) (IsLiveIn (h ++ a ∷ [])) old s.table.live r.table.live) (row, tt);
        all = λ t l.
            let w = was_live h a t l in
            elim (le_or t (length h) w.within) [
              | inl le ↦ list_any-append (is_session t) s.table.live (new ∷ []) ∙ ap (λ x. x || list_any (is_session t) (new ∷ [])) (r.table.all t (w.before le))
              | inr e ↦ list_any-append (is_session t) s.table.live (new ∷ []) ∙ ap (λ x. list_any (is_session t) s.table.live || (x || false)) (is_equal (suc (length h)) t (sym e)) ∙ or_true (list_any (is_session t) s.table.live)
            ];
        past = past_stays h a s.table.past r.table.past;
      };
      same = map-append (λ l. l.session) s.table.live (new ∷ []) ∙ ap (λ x. x ++ suc (length h) ∷ []) r.same ∙ sym (map-append (λ o. o.session) s.boxes (outboxes.new_outbox (suc (length h)) ∷ []));
      boxes = all_append (IsBoxIn h) s.boxes (outboxes.new_outbox (suc (length h)) ∷ []) r.boxes
          (record { seq = sym (ap (λ x. length x) n.dos); batch = sym (ap histories.last_place n.events); replies = tt; batches = tt }, tt);
      own = tt;
      due = tt;
      body = refl;
      command = λ t k v. refl;
      answer = λ c p e.
          let f : payload.Opened opening (suc (length h)) ≡ p = second_same client c (payload.Opened opening (suc (length h))) p e in
          let g : client ≡ c = first_same client c (payload.Opened opening (suc (length h))) p e in
          subst (λ x. folds.IsTrueOf (h ++ a ∷ []) c x) f (subst (λ x. folds.IsTrueOf (h ++ a ∷ []) x (payload.Opened opening (suc (length h)))) g (λ items. is_opening));
    }
  where
    or_true : (x : Bool) → (x || true) ≡ true
    or_true true = refl
    or_true false = refl

-- a session gives a sign of life
trimmed_box : (h : histories.History) (answered heard : ℕ) (o : outboxes.Outbox) → IsBoxIn h o → IsBoxIn h (outboxes.trimmed answered heard o)
trimmed_box h answered heard o k = record {
  seq = k.seq;
  batch = k.batch;
  replies = all_filter (IsReplyIn h o.session) (λ x. Rattle.std.specs.Prelude.nat_lt answered x.seq) o.cache.replies k.replies;
  batches = all_filter _ (λ x. Rattle.std.specs.Prelude.nat_lt heard x.place) o.batches.kept k.batches;
}

kept : (timeout : ℕ) (es : List Entry) (h : histories.History) (s : sessions.Sessions) (time term client t got heard : ℕ) → IsStateOf timeout es h s → Found h s t
    → IsEffectOf timeout h (record { term = term; time = time; body = body.Keep client t got heard }) (sessions.keeping s time t got heard state.Live)
kept timeout es h s time term client t got heard r f =
    let a : ℕ × Act = (time, act.Keep t) in
    let rows : map (λ l. l.session) (map (table.with_sign t time) s.table.live) ≡ map (λ l. l.session) s.table.live = map_same (λ l. l.session) (table.with_sign t time) (λ l. by_test (λ (x : table.Live). x.session ≡ l.session) (nat_eq l.session t) (record l { sign = time }) l (λ e. refl) (λ e. refl)) s.table.live in
    let trim : outboxes.Outbox → outboxes.Outbox = λ o. cond (nat_eq o.session t) (outboxes.trimmed got heard o) o in
    let kept_boxes : map (λ o. o.session) (map trim s.boxes) ≡ map (λ o. o.session) s.boxes = map_same (λ o. o.session) trim (λ o. by_test (λ (x : outboxes.Outbox). x.session ≡ o.session) (nat_eq o.session t) (outboxes.trimmed got heard o) o (λ e. refl) (λ e. refl)) s.boxes in
    record {
      table = record {
        limit = r.table.limit;
        live = all_map (IsLiveIn h) (IsLiveIn (h ++ a ∷ [])) (table.with_sign t time)
            (λ l k. by_test (IsLiveIn (h ++ a ∷ [])) (nat_eq l.session t) (record l { sign = time }) l
            (λ e. row_stays h a l time refl (sym (ap (λ x. cond x time (sign_now h l.session)) e)) k)
            (λ e. row_stays h a l l.sign refl (k.sign ∙ sym (ap (λ x. cond x time (sign_now h l.session)) e)) k)) s.table.live r.table.live;
        all = λ u l.
            let w = was_live h a u l in
            elim (le_or u (length h) w.within) [
              | inl le ↦ any_alike (λ x. x.session) (λ x. x.session) u (map (table.with_sign t time) s.table.live) s.table.live rows ∙ r.table.all u (w.before le)
              | inr e ↦ let o = w.opened e in absurd (cc)
            ];
        past = past_stays h a s.table.past r.table.past;
      };
      same = rows ∙ r.same ∙ sym kept_boxes;
      boxes = all_map (IsBoxIn h) (IsBoxIn h) trim (λ o k. by_test (IsBoxIn h) (nat_eq o.session t) (outboxes.trimmed got heard o) o (λ e. trimmed_box h got heard o k) (λ e. k)) s.boxes r.boxes;
      own = subst (IsLiveNow h) f.row_is f.good.live;
      due = tt;
      body = refl;
      command = λ u k v. refl;
      answer = no_answer (h ++ a ∷ []) (Some client);
    }

-- a session ends
record IsEnd (t : ℕ) (way : How) (a : Act) : Type 0 where
  ends : (s : ℕ) → histories.ends s a ≡ nat_eq s t
  sign : (s n last time : ℕ) → histories.sign_after s n last ((time, a) ∷ []) ≡ last
  open_none : (time : ℕ) → histories.is_open (Some (time, a)) ≡ false
  is_end : (time : ℕ) → outcome_order.IsEndOf t way (Some (time, a))
  of : histories.session_of a ≡ Some t
  dos : (s n time : ℕ) → histories.dos_after s n ((time, a) ∷ []) ≡ []

finished : (timeout : ℕ) (es : List Entry) (h : histories.History) (s : sessions.Sessions) (e : Entry) (t : ℕ) (way : How) (a : Act) (answer : Option Payload) → IsEnd t way a → IsStateOf timeout es h s → IsLiveNow h t
    → histories.IsDue (with_act h e.time a) timeout (suc (length h)) (e.time, a) → kept_stores.IsBodyOf a e.body → AnswersTruly (with_act h e.time a) (sessions.body_client e.body) answer
    → IsEffectOf timeout h e (sessions.ending s (suc (length h)) t way a answer)
finished timeout es h s e t way a answer i r live due of k =
    let x : ℕ × Act = (e.time, a) in
    record {
      table = record {
        limit = r.table.limit;
        live = all_without (IsLiveIn h) (IsLiveIn (h ++ x ∷ [])) (λ l. l.session) t
            (λ l q n. row_stays h x l l.sign (i.ends l.session ∙ is_unequal l.session t n) (q.sign ∙ sym (i.sign l.session (0 + length h) (sign_now h l.session) e.time)) q) s.table.live r.table.live;
        all = λ u l.
            let w = was_live h x u l in
            let n : nat_eq u t ≡ false = sym (i.ends u) ∙ w.stays in
            elim (le_or u (length h) w.within) [
              | inl le ↦ any_without (λ l. l.session) t u (λ z. unequal u t n (sym z)) s.table.live (r.table.all u (w.before le))
              | inr z ↦ let o = w.opened z in let m = i.open_none e.time in absurd (cc)
            ];
        past = all_append (IsPastIn (h ++ x ∷ [])) s.table.past _ (past_stays h x s.table.past r.table.past) (subst (outcome_order.IsEndOf t way) (sym (at_end h x [])) (i.is_end e.time), tt);
      };
      same = without_alike (λ l. l.session) (λ o. o.session) t s.table.live s.boxes r.same;
      boxes = all_filter (IsBoxIn h) (λ o. not (nat_eq o.session t)) s.boxes r.boxes;
      own = subst (OwnLive h) (sym i.of) live;
      due = due;
      body = of;
      command = i.dos;
      answer = k;
    }

closed : (timeout : ℕ) (es : List Entry) (h : histories.History) (s : sessions.Sessions) (time term client t : ℕ) → IsStateOf timeout es h s → Found h s t
    → IsEffectOf timeout h (record { term = term; time = time; body = body.Close client t }) (sessions.closing s (suc (length h)) t state.Live)
closed timeout es h s time term client t r f =
    let i : IsEnd t how.Closed (act.Close t) = record { ends = λ u. refl; sign = λ u n last v. refl; open_none = λ v. refl; is_end = λ v. refl; of = refl; dos = λ u n v. refl } in
    let told : outcome_order.IsEndOf t how.Closed (lists.at_place (with_act h time (act.Close t)) (suc (length h))) = subst (outcome_order.IsEndOf t how.Closed) (sym (at_end h (time, act.Close t) [])) refl in
    finished timeout es h s (record { term = term; time = time; body = body.Close client t }) t how.Closed (act.Close t) (Some (payload.Ended t (suc (length h)) how.Closed)) i r (subst (IsLiveNow h) f.row_is f.good.live) tt refl
    (true_answer (with_act h time (act.Close t)) (Some client) (payload.Ended t (suc (length h)) how.Closed) (λ c items. told))

expired : (timeout : ℕ) (es : List Entry) (h : histories.History) (s : sessions.Sessions) (time term t : ℕ) → IsStateOf timeout es h s → Found h s t → timeout ≤ time - sign_now h t
    → IsEffectOf timeout h (record { term = term; time = time; body = body.Expire t }) (sessions.ending s (suc (length h)) t how.Expired (act.Expire t) None)
expired timeout es h s time term t r f l =
    let i : IsEnd t how.Expired (act.Expire t) = record { ends = λ u. refl; sign = λ u n last v. refl; open_none = λ v. refl; is_end = λ v. refl; of = refl; dos = λ u n v. refl } in
    let b = sign_before h (time, act.Expire t) t in
    finished timeout es h s (record { term = term; time = time; body = body.Expire t }) t how.Expired (act.Expire t) None i r (subst (IsLiveNow h) f.row_is f.good.live) (subst (λ v. timeout ≤ time - v) (sym b) l) refl
    (no_answer (with_act h time (act.Expire t)) None)

-- a command
done_next : (timeout : ℕ) (es : List Entry) (h : histories.History) (s : sessions.Sessions) (time term client t seq : ℕ) (name : List ℕ) (o : Op) → IsStateOf timeout es h s → Found h s t → seq ≡ suc (outboxes.last_seq s.boxes t)
    → IsEffectOf timeout h (record { term = term; time = time; body = body.Command client t seq name o }) (record (sessions.nothing s) { act = act.Do t name o; command = Some (t, seq) })
done_next timeout es h s time term client t seq name o r f e =
    let live : IsLiveNow h t = subst (IsLiveNow h) f.row_is f.good.live in
    record {
      table = quiet_table timeout h (time, act.Do t name o) s.table (record { ends = λ u. refl; sign = λ u n last. refl; open_none = refl }) r.table;
      same = r.same;
      boxes = r.boxes;
      own = live;
      due = tt;
      body = (refl, refl, refl);
      command = (name, o, refl, e ∙ ap (λ n. suc n) (found_seq timeout es h s t r f), (refl, refl, refl), live);
      answer = no_answer (with_act h time (act.Do t name o)) (Some client);
    }

again : (timeout : ℕ) (es : List Entry) (h : histories.History) (s : sessions.Sessions) (e : Entry) (t seq : ℕ) (k : Option KeptReply) → IsStateOf timeout es h s → outboxes.kept_reply s.boxes t seq ≡ k → IsEffectOf timeout h e (sessions.again_from s t k)
again timeout es h s e t seq None r i = nothing_done timeout es h s e r
again timeout es h s e t seq (Some k) r i =
    let g = history_grows [] h ((e.time, act.Nothing) ∷ []) 0 (sessions.reply_payload t k) (kept_found timeout es h s t seq k r i) in
    answered timeout es h s e (Some (sessions.reply_payload t k)) r (true_answer (with_act h e.time act.Nothing) (sessions.body_client e.body) (sessions.reply_payload t k) (λ c items. g))

gap : (timeout : ℕ) (es : List Entry) (h : histories.History) (s : sessions.Sessions) (e : Entry) (t last : ℕ) → IsStateOf timeout es h s → last ≡ length (histories.dos h t) → IsEffectOf timeout h e (sessions.only_answer s (Some (payload.Gap t last)))
gap timeout es h s e t last r i =
    let g = history_grows [] h ((e.time, act.Nothing) ∷ []) 0 (payload.Gap t last) (inr (omega arith)) in
    answered timeout es h s e (Some (payload.Gap t last)) r (true_answer (with_act h e.time act.Nothing) (sessions.body_client e.body) (payload.Gap t last) (λ c items. g))

commanded : (timeout : ℕ) (es : List Entry) (h : histories.History) (s : sessions.Sessions) (time term client t seq : ℕ) (name : List ℕ) (o : Op) → IsStateOf timeout es h s → Found h s t
    → IsEffectOf timeout h (record { term = term; time = time; body = body.Command client t seq name o }) (sessions.commanding_live s t seq name o (outboxes.last_seq s.boxes t))
commanded timeout es h s time term client t seq name o r f =
    let e : Entry = record { term = term; time = time; body = body.Command client t seq name o } in
    by_test (IsEffectOf timeout h e) (nat_eq seq (suc (outboxes.last_seq s.boxes t))) _ _
    (λ i. done_next timeout es h s time term client t seq name o r f (equal seq (suc (outboxes.last_seq s.boxes t)) i))
    (λ i. by_test (IsEffectOf timeout h e) (nat_le seq (outboxes.last_seq s.boxes t)) _ _
    (λ j. again timeout es h s e t seq (outboxes.kept_reply s.boxes t seq) r refl)
    (λ j. gap timeout es h s e t (outboxes.last_seq s.boxes t) r (found_seq timeout es h s t r f)))

-- every body
expiring_by : (timeout : ℕ) (es : List Entry) (h : histories.History) (s : sessions.Sessions) (time term t : ℕ) → IsStateOf timeout es h s
    → IsEffectOf timeout h (record { term = term; time = time; body = body.Expire t }) (sessions.expiring s (suc (length h)) time t)
expiring_by timeout es h s time term t r =
    let e : Entry = record { term = term; time = time; body = body.Expire t } in
    by_test (IsEffectOf timeout h e) (table.may_expire s.table t time) _ _ (λ i. due_row (table.live_session s.table t) refl i) (λ i. nothing_done timeout es h s e r)
  where
    due_row : (l : Option table.Live) → table.live_session s.table t ≡ l → table.is_due_in s.table.timeout time l ≡ true
        → IsEffectOf timeout h (record { term = term; time = time; body = body.Expire t }) (sessions.ending s (suc (length h)) t how.Expired (act.Expire t) None)
    due_row None i d = absurd (cc)
    due_row (Some l) i d =
        let f = Rattle.law_sessions.proofs.States.found_row timeout es h s t l r i in
        let a : s.table.timeout ≤ time - l.sign = leb-true s.table.timeout (time - l.sign) d in
        let m : f.row ≡ l = let j = f.is_row in cc in
        let b : l.sign ≡ sign_now h t = ap (λ x. x.sign) (sym m) ∙ f.good.sign ∙ ap (sign_now h) f.row_is in
        let c = r.table.limit in
        expired timeout es h s time term t r f (subst (λ v. timeout ≤ time - v) b (subst (λ v. v ≤ time - l.sign) c a))

keeping_by : (timeout : ℕ) (es : List Entry) (h : histories.History) (s : sessions.Sessions) (time term client t got heard : ℕ) (x : SessionState) → IsStateOf timeout es h s → sessions.session_state s t ≡ x
    → IsEffectOf timeout h (record { term = term; time = time; body = body.Keep client t got heard }) (sessions.keeping s time t got heard x)
keeping_by timeout es h s time term client t got heard state.Live r i = kept timeout es h s time term client t got heard r (live_found timeout es h s t r i)
keeping_by timeout es h s time term client t got heard (state.Ended p way) r i = end_told timeout es h s _ t (state.Ended p way) r i
keeping_by timeout es h s time term client t got heard state.Unknown r i = end_told timeout es h s _ t state.Unknown r i

commanding_by : (timeout : ℕ) (es : List Entry) (h : histories.History) (s : sessions.Sessions) (time term client t seq : ℕ) (name : List ℕ) (o : Op) (x : SessionState) → IsStateOf timeout es h s → sessions.session_state s t ≡ x
    → IsEffectOf timeout h (record { term = term; time = time; body = body.Command client t seq name o }) (sessions.commanding s t seq name o x)
commanding_by timeout es h s time term client t seq name o state.Live r i = commanded timeout es h s time term client t seq name o r (live_found timeout es h s t r i)
commanding_by timeout es h s time term client t seq name o (state.Ended p way) r i = end_told timeout es h s _ t (state.Ended p way) r i
commanding_by timeout es h s time term client t seq name o state.Unknown r i = end_told timeout es h s _ t state.Unknown r i

closing_by : (timeout : ℕ) (es : List Entry) (h : histories.History) (s : sessions.Sessions) (time term client t : ℕ) (x : SessionState) → IsStateOf timeout es h s → sessions.session_state s t ≡ x
    → IsEffectOf timeout h (record { term = term; time = time; body = body.Close client t }) (sessions.closing s (suc (length h)) t x)
closing_by timeout es h s time term client t state.Live r i = closed timeout es h s time term client t r (live_found timeout es h s t r i)
closing_by timeout es h s time term client t (state.Ended p way) r i = end_told timeout es h s _ t (state.Ended p way) r i
closing_by timeout es h s time term client t state.Unknown r i = end_told timeout es h s _ t state.Unknown r i

body_effect : (timeout : ℕ) (es : List Entry) (h : histories.History) (s : sessions.Sessions) (time term : ℕ) (b : Body) → IsStateOf timeout es h s → IsEffectOf timeout h (record { term = term; time = time; body = b }) (sessions.effect s (suc (length h)) time b)
body_effect timeout es h s time term body.Blank r = nothing_done timeout es h s (record { term = term; time = time; body = body.Blank }) r
body_effect timeout es h s time term (body.Register client opening) r = registered timeout es h s time term client opening r
body_effect timeout es h s time term (body.Keep client t got heard) r = keeping_by timeout es h s time term client t got heard (sessions.session_state s t) r refl
body_effect timeout es h s time term (body.Command client t seq name o) r = commanding_by timeout es h s time term client t seq name o (sessions.session_state s t) r refl
body_effect timeout es h s time term (body.Close client t) r = closing_by timeout es h s time term client t (sessions.session_state s t) r refl
body_effect timeout es h s time term (body.Expire t) r = expiring_by timeout es h s time term t r

pub entry_effect : (timeout : ℕ) (es : List Entry) (h : histories.History) (s : sessions.Sessions) (e : Entry) → IsStateOf timeout es h s → IsEffectOf timeout h e (sessions.effect s (suc (length h)) e.time e.body)
entry_effect timeout es h s e r = body_effect timeout es h s e.time e.term e.body r
