-- Each input of a client keeps how it stands, and what is claimed of its items.
use Rattle.std.proofs.Common.{◌≡◌, ℕ, suc, ◌+◌, ◌<◌, ◌≤◌, cond, List, [], ◌∷◌, ◌++◌, map, reverse, length, refl, ap, sym, ◌∙◌, subst, inl, inr, ⊎_elim, arith, count_by}
use Rattle.std.specs.Prelude.{Bool, true, false, ◌&&◌, not, is_some, nat_eq, nat_lt, nat_le, Option, Some, None, if◌then◌else◌}
use Rattle.std.specs.List.{AllByRecursion}
use Rattle.ax_types.specs.Places as lists
use Rattle.ax_types.specs.declared.entries.Act.{Act}
use Rattle.ax_types.specs.declared.entries.Act.TheVariants as act
use Rattle.ax_types.specs.declared.entries.Batch.{Batch}
use Rattle.ax_types.specs.declared.items.Item.{Item}
use Rattle.ax_types.specs.declared.items.Item.TheVariants as item
use Rattle.ax_types.specs.declared.items.SkipReason.{SkipReason}
use Rattle.ax_types.specs.declared.items.SkipReason.TheVariants as reason
use Rattle.ax_types.specs.declared.ops.Level.{Level}
use Rattle.ax_types.specs.declared.ops.Level.TheVariants as level
use Rattle.ax_types.specs.declared.ops.Op.{Op}
use Rattle.ax_types.specs.declared.ops.Query.{Query}
use Rattle.ax_types.specs.declared.ops.WindowCall.{WindowCall}
use Rattle.ax_types.specs.declared.ops.WindowCall.TheVariants as call
use Rattle.ax_types.specs.declared.packets.Payload.{Payload}
use Rattle.ax_types.specs.declared.packets.Payload.TheVariants as payload
use Rattle.ax_types.specs.declared.replies.How.{How}
use Rattle.ax_types.specs.declared.replies.How.TheVariants as how
use Rattle.ax_types.specs.declared.replies.Reply.{Reply}
use Rattle.ax_types.specs.declared.sessions.ClientState.{ClientState}
use Rattle.ax_types.specs.declared.sessions.ClientState.TheVariants as state
use Rattle.ax_types.specs.declared.sessions.Got.{Got}
use Rattle.ax_types.specs.declared.sessions.Heard.{Heard}
use Rattle.ax_types.specs.declared.sessions.Heard.TheVariants as heard
use Rattle.spec_book.specs.History as histories
use Rattle.spec_claims.specs.Transcript as transcripts
use Rattle.spec_claims.specs.Once as claims_once
use Rattle.spec_claims.specs.Heard as claims_heard
use Rattle.spec_claims.specs.OutcomeOrder as outcome_order
use Rattle.spec_claims.specs.Payloads as payloads
use Rattle.spec_sequencer.specs.Sequencers as sequencers
use Rattle.spec_client.specs.Clients as clients
use Rattle.spec_client.specs.Receipts as receipts
use Rattle.law_release.proofs.Tests.{by_test, on, on_or_off, equal, unequal, is_equal, not_below, above as higher, both}
use Rattle.law_client.specs.Inputs as inputs
use Rattle.law_client.specs.Standing as standing
use Rattle.law_client.specs.Promises as promises
use Rattle.law_client.proofs.Lists.{some_same, all_since, all_append, reverse_more, reverse_onto, count_more, count_no, count_yes}
use Rattle.law_client.proofs.Chain.{IsChain, end_of, last_end, heard_chain, next_one}
use Rattle.law_client.proofs.Shown.{IsAside, ShowsNone, IsBlank, aside, blank, heard_same}
use Rattle.law_client.proofs.Own.{client_at, IsOutcomeOf, own_aside, own_outcome, own_event, own_unsent, own_called, own_opened, new_rank, new_below, all_low}
use Rattle.law_client.proofs.Claims.{next_of, end_claimed, unsent_claimed, called_claimed, event_claimed, ended_claimed, opened_claimed}
use Rattle.law_client.proofs.Responses.{IsResponse, Released, after_release, release_keeps, own_answered, same_call, Found, found_pair}

all_reversed : {X : Type 0} (P : X → Type 0) (xs : List X) → AllByRecursion P xs → AllByRecursion P (reverse xs)
all_reversed P [] a = tt
all_reversed P (x ∷ xs) a = subst (AllByRecursion P) (sym (reverse_more x xs)) (all_append P (reverse xs) (x ∷ []) (all_reversed P xs a.1) (a.0, tt))

-- a step, where a client's items stand below these
pub record Kept (h : histories.History) (c : clients.Client) (above : List Item) (next : clients.ClientStep) : Type 0 where
  pub stands : standing.Stands h (record { client = next.client; above = reverse next.out.items ++ above })
  pub claimed : transcripts.EachBelow (promises.IsClaimed h) above next.out.items
  pub ends : outcome_order.EndsStep above next.out.items
  pub me : next.client.me ≡ c.me
  pub owner : AllByRecursion (λ x. standing.IsOfOwn next.client.me h (reverse next.out.items ++ above) (inputs.session_in x)) next.out.items

abbrev pub seat_of : clients.Client → List Item → inputs.Seat
seat_of c above = record { client = c; above = above }

old_since : (me a b : ℕ) (h : histories.History) (s : Option ℕ) → a ≤ b → standing.IsOld me a h s → standing.IsOld me b h s
old_since me a b h None l o = tt
old_since me a b h (Some s) l o = record { client = o.client; opening = o.opening; opened = o.opened; below = λ e. let m : o.opening < a = o.below e in omega (arith, l, m) }

olds_since : (me a b : ℕ) (h : histories.History) (xs : List Item) → a ≤ b → AllByRecursion (λ x. standing.IsOld me a h (inputs.session_in x)) xs → AllByRecursion (λ x. standing.IsOld me b h (inputs.session_in x)) xs
olds_since me a b h xs l o = all_since (λ x. standing.IsOld me a h (inputs.session_in x)) (λ x. standing.IsOld me b h (inputs.session_in x)) (λ x p. old_since me a b h (inputs.session_in x) l p) xs o

-- a step that shows nothing
pub silent : (h : histories.History) (c d : clients.Client) (above : List Item) (sends : List (ℕ × Payload)) → standing.Stands h (seat_of c above) → d.me ≡ c.me → standing.next_opening c ≤ standing.next_opening d
    → standing.OwnStands h d above d.state → Kept h c above (clients.client_step d [] sends)
silent h c d above sends k me l own = record {
  stands = record {
    old = subst (λ m. AllByRecursion (λ x. standing.IsOld m (standing.next_opening d) h (inputs.session_in x)) above) (sym me) (olds_since c.me (standing.next_opening c) (standing.next_opening d) h above l k.old);
    own = own;
    heard = λ s opening is. k.heard s opening (subst (λ m. payloads.IsOpeningOf m opening (lists.at_place h s)) me is);
    numbered = λ s opening is. k.numbered s opening (subst (λ m. payloads.IsOpeningOf m opening (lists.at_place h s)) me is);
  };
  claimed = tt;
  ends = tt;
  me = me;
  owner = tt;
}

pub ignored : (h : histories.History) (c : clients.Client) (above : List Item) → standing.Stands h (seat_of c above) → Kept h c above (clients.ignores c)
ignored h c above k = silent h c c above [] k refl (omega arith) k.own

-- the items of a step are of the client's session
abbrev AreMine : ℕ → List Item → Type 0
AreMine s items = AllByRecursion (λ x. inputs.session_in x ≡ Some s) items

heard_of_other : (s u : ℕ) (xs above : List Item) → (u ≡ s → ⊥) → AreMine s xs → claims_heard.heard u (reverse (reverse xs ++ above)) ≡ claims_heard.heard u (reverse above)
heard_of_other s u [] above other a = refl
heard_of_other s u (x ∷ xs) above other a =
    let n : ShowsNone u x = aside u x (subst (IsAside u) (sym a.0) other) in
    ap (λ ys. claims_heard.heard u (reverse ys)) (reverse_onto x xs above) ∙ heard_of_other s u xs (x ∷ above) other a.1 ∙ heard_same u x above n.heard

mine_old : (h : histories.History) (me next s opening : ℕ) (xs : List Item) → payloads.IsOpeningOf me opening (lists.at_place h s) → opening < next → AreMine s xs
    → AllByRecursion (λ x. standing.IsOld me next h (inputs.session_in x)) xs
mine_old h me next s opening [] is l a = tt
mine_old h me next s opening (x ∷ xs) is l a =
    (subst (standing.IsOld me next h) (sym a.0) (record { client = me; opening = opening; opened = is; below = λ e. l }), mine_old h me next s opening xs is l a.1)

mine_owned : (h : histories.History) (me s : ℕ) (below : List Item) (xs : List Item) → standing.IsOpenedFor me h below s → AreMine s xs → AllByRecursion (λ x. standing.IsOfOwn me h below (inputs.session_in x)) xs
mine_owned h me s below [] o a = tt
mine_owned h me s below (x ∷ xs) o a = (subst (standing.IsOfOwn me h below) (sym a.0) o, mine_owned h me s below xs o a.1)

-- calls stay numbered by what is claimed of each
one_numbered : (s : ℕ) (x : Item) (above : List Item) → outcome_order.IsNumbered s above x → standing.AreNumberedDown (transcripts.calls s above) → standing.AreNumberedDown (transcripts.calls s (x ∷ above))
one_numbered s (item.Called t n w) above is a =
    ⊎_elim (λ e. subst (λ b. standing.AreNumberedDown ((if b then (n, w) ∷ [] else []) ++ transcripts.calls s above)) (sym e) (omega (arith, (is (equal s t e)).0), a))
    (λ e. subst (λ b. standing.AreNumberedDown ((if b then (n, w) ∷ [] else []) ++ transcripts.calls s above)) (sym e) a) (on_or_off (nat_eq s t))
one_numbered s x above is a = a

all_numbered : (h : histories.History) (s : ℕ) (above items : List Item) → transcripts.EachBelow (promises.IsClaimed h) above items → standing.AreNumberedDown (transcripts.calls s above)
    → standing.AreNumberedDown (transcripts.calls s (reverse items ++ above))
all_numbered h s above [] c a = a
all_numbered h s above (x ∷ items) c a =
    subst (λ ys. standing.AreNumberedDown (transcripts.calls s ys)) (sym (reverse_onto x items above)) (all_numbered h s (x ∷ above) items c.1 (one_numbered s x above (c.0.outcome s).0 a))

pub shows : (h : histories.History) (c d : clients.Client) (above items : List Item) (s : ℕ) (sends : List (ℕ × Payload)) → standing.Stands h (seat_of c above) → d.me ≡ c.me
    → standing.next_opening c ≤ standing.next_opening d → d.switch.opening < standing.next_opening d
    → standing.IsOwn h d (reverse items ++ above) s → AreMine s items → standing.OwnStands h d (reverse items ++ above) d.state
    → transcripts.EachBelow (promises.IsClaimed h) above items → outcome_order.EndsStep above items
    → Kept h c above (clients.client_step d items sends)
shows h c d above items s sends k me l m own mine stands claimed ends = record {
  stands = record {
    old = all_append (λ x. standing.IsOld d.me (standing.next_opening d) h (inputs.session_in x)) (reverse items) above
        (all_reversed (λ x. standing.IsOld d.me (standing.next_opening d) h (inputs.session_in x)) items (mine_old h d.me (standing.next_opening d) s d.switch.opening items own.opening m mine))
        (subst (λ i. AllByRecursion (λ x. standing.IsOld i (standing.next_opening d) h (inputs.session_in x)) above) (sym me) (olds_since c.me (standing.next_opening c) (standing.next_opening d) h above l k.old));
    own = stands;
    heard = λ u opening is.
        ⊎_elim
        (λ e. subst (λ t. standing.HasHeard h (reverse items ++ above) t) (sym (equal u s e)) (own.rest, own.whole ∙ ap (λ ys. ys ++ own.rest) (sym own.is_told)))
        (λ e.
        let old = k.heard u opening (subst (λ i. payloads.IsOpeningOf i opening (lists.at_place h u)) me is) in
        (old.0, old.1 ∙ ap (λ ys. ys ++ old.0) (sym (heard_of_other s u items above (unequal u s e) mine))))
        (on_or_off (nat_eq u s));
    numbered = λ u opening is. all_numbered h u above items claimed (k.numbered u opening (subst (λ i. payloads.IsOpeningOf i opening (lists.at_place h u)) me is));
  };
  claimed = claimed;
  ends = ends;
  me = me;
  owner = mine_owned h d.me s (reverse items ++ above) items (record { opening = d.switch.opening; opened = own.opening; there = own.there }) mine;
}

-- states
pub live_state : (t : ClientState) → clients.is_live_client t ≡ true → t ≡ state.Live (clients.own_session t)
live_state (state.Live s) e = refl
live_state state.NoneYet e = absurd (on e)
live_state state.Opening e = absurd (on e)
live_state (state.Closing s) e = absurd (on e)
live_state (state.Ended s) e = absurd (on e)

ended_state : (t : ClientState) → clients.has_ended t ≡ true → t ≡ state.Ended (clients.own_session t)
ended_state (state.Ended s) e = refl
ended_state state.NoneYet e = absurd (on e)
ended_state state.Opening e = absurd (on e)
ended_state (state.Closing s) e = absurd (on e)
ended_state (state.Live s) e = absurd (on e)

-- of a session that is open or closing
pub record Joined (h : histories.History) (c : clients.Client) (above : List Item) (s : ℕ) : Type 0 where
  pub own : standing.IsOwn h c above s
  pub ends : standing.EndsAbove s above 0
  pub unsent : standing.UnsentAbove s above 0

pub joined : (h : histories.History) (c : clients.Client) (above : List Item) (t : ClientState) → clients.is_joined t ≡ true → standing.OwnStands h c above t → Joined h c above (clients.own_session t)
joined h c above (state.Live s) e k = record { own = k.0; ends = k.1; unsent = k.2 }
joined h c above (state.Closing s) e k = record { own = k.0; ends = k.1; unsent = k.2 }
joined h c above state.NoneYet e k = absurd (on e)
joined h c above state.Opening e k = absurd (on e)
joined h c above (state.Ended s) e k = absurd (on e)

joined_again : (h : histories.History) (c d : clients.Client) (above below : List Item) (t : ClientState) → clients.is_joined t ≡ true → standing.OwnStands h c above t
    → Joined h d below (clients.own_session t) → (c.requests ≡ [] → d.requests ≡ []) → standing.OwnStands h d below t
joined_again h c d above below (state.Live s) e k j none = (j.own, j.ends, j.unsent)
joined_again h c d above below (state.Closing s) e k j none = (j.own, j.ends, j.unsent, none k.3)
joined_again h c d above below state.NoneYet e k j none = absurd (on e)
joined_again h c d above below state.Opening e k j none = absurd (on e)
joined_again h c d above below (state.Ended s) e k j none = absurd (on e)

-- a session that is open or closing has no opening under way
joined_next : (c : clients.Client) → clients.is_joined c.state ≡ true → standing.next_opening c ≡ suc c.switch.opening
joined_next c e = next_at c.state e
  where
    next_at : (t : ClientState) → clients.is_joined t ≡ true → (if clients.is_opening t then c.switch.opening else suc c.switch.opening) ≡ suc c.switch.opening
    next_at (state.Live s) f = refl
    next_at (state.Closing s) f = refl
    next_at (state.Ended s) f = refl
    next_at state.NoneYet f = refl
    next_at state.Opening f = absurd (on f)

next_low : (c : clients.Client) → standing.next_opening c ≤ suc c.switch.opening
next_low c = by_test (λ n. n ≤ suc c.switch.opening) (clients.is_opening c.state) c.switch.opening (suc c.switch.opening) (λ e. omega arith) (λ e. omega arith)

no_calls : (h : histories.History) (above : List Item) (s done : ℕ) (us : List sequencers.Unanswered) (rs : List clients.Request) → standing.AreOpenCalls h above s done us rs → rs ≡ [] → us ≡ []
no_calls h above s done [] rs a e = refl
no_calls h above s done (u ∷ us) [] a e = absurd a
no_calls h above s done (u ∷ us) (r ∷ rs) a e = absurd (cc)

no_requests : (h : histories.History) (above : List Item) (s done : ℕ) (us : List sequencers.Unanswered) (rs : List clients.Request) → standing.AreOpenCalls h above s done us rs → length us ≡ 0 → rs ≡ []
no_requests h above s done us [] a e = refl
no_requests h above s done [] (r ∷ rs) a e = absurd a
no_requests h above s done (u ∷ us) (r ∷ rs) a e = absurd (omega (arith, e))

-- another server or state
own_placed : (h : histories.History) (c : clients.Client) (above : List Item) (s : ℕ) (server : Option ℕ) (t : ClientState) → standing.IsOwn h c above s
    → standing.IsOwn h (record c { switch = record c.switch { server = server }; state = t }) above s
own_placed h c above s server t o = record {
  opening = o.opening;
  opened = o.opened;
  there = o.there;
  unanswered = o.unanswered;
  called = o.called;
  commands = o.commands;
  numbers = o.numbers;
  done = o.done;
  outcomes = o.outcomes;
  still = o.still;
  below = o.below;
  asked = o.asked;
  waiting = o.waiting;
  told = o.told;
  rest = o.rest;
  is_told = o.is_told;
  whole = o.whole;
  last = o.last;
  reads = o.reads;
}

placed : (h : histories.History) (c : clients.Client) (above : List Item) (server : Option ℕ) (t : ClientState) → standing.OwnStands h c above t
    → standing.OwnStands h (record c { switch = record c.switch { server = server } }) above t
placed h c above server (state.Live s) k = (own_placed h c above s server c.state k.0, k.1, k.2)
placed h c above server (state.Closing s) k = (own_placed h c above s server c.state k.0, k.1, k.2, k.3)
placed h c above server (state.Ended s) k = (own_placed h c above s server c.state k.0, k.1, k.2)
placed h c above server state.NoneYet k = tt
placed h c above server state.Opening k = tt

-- by whether a step is refused
pub unless_if : (P : clients.ClientStep → Type 0) (c : clients.Client) (next : clients.ClientStep) (b : Bool) (r : SkipReason) → P (clients.ignores c) → (b ≡ false → P next) → P (inputs.unless (clients.refused_if b r) c next)
unless_if P c next true r p q = p
unless_if P c next false r p q = q refl

pub unless_two : (P : clients.ClientStep → Type 0) (c : clients.Client) (next : clients.ClientStep) (live full : Bool) (r q : SkipReason) → P (clients.ignores c) → (live ≡ true → full ≡ false → P next)
    → P (inputs.unless (if not live then Some r else clients.refused_if full q) c next)
unless_two P c next true true r q p f = p
unless_two P c next true false r q p f = f refl refl
unless_two P c next false full r q p f = p

pub opens_keeps : (h : histories.History) (c : clients.Client) (above : List Item) (node : ℕ) → standing.Stands h (seat_of c above) → Kept h c above (inputs.client_stepped c (inputs.Opens node))
opens_keeps h c above node k =
    let d : clients.Client = record c { switch = sequencers.with_opening (sequencers.moved_to c.switch node); state = state.Opening } in
    unless_if (Kept h c above) c (clients.opens c node) (clients.is_busy c.state) reason.SessionOpen (ignored h c above k)
    (λ e. silent h c d above (clients.to_server d (clients.register_of d ∷ [])) k refl (next_low c) tt)

unsent_keeps : (h : histories.History) (c : clients.Client) (above : List Item) → standing.Stands h (seat_of c above) → clients.has_ended c.state ≡ true → Kept h c above (inputs.uses_number c)
unsent_keeps h c above k ended =
    let s = clients.own_session c.state in
    let is : c.state ≡ state.Ended s = ended_state c.state ended in
    let own : standing.OwnStands h c above (state.Ended s) = subst (standing.OwnStands h c above) is k.own in
    let none : c.sequencer.calls ≡ [] = no_calls h above s own.0.done c.sequencer.calls c.requests own.0.asked own.2 in
    let all : own.0.done ≡ c.calls = let zero_left : length c.sequencer.calls ≡ 0 = ap (λ us. length us) none in omega (arith, own.0.still, zero_left) in
    let x = item.Unsent s (suc c.calls) in
    let now : standing.IsOwn h (clients.unsent c) (x ∷ above) s = own_unsent h c above s own.0 own.2 none in
    let next : standing.next_opening c ≡ suc c.switch.opening = ap (λ t. if clients.is_opening t then c.switch.opening else suc c.switch.opening) is in
    shows h c (clients.unsent c) above (x ∷ []) s [] k refl (omega arith) (omega (arith, next)) now (refl, tt)
    (subst (standing.OwnStands h (clients.unsent c) (x ∷ above)) (sym is) (now, own.1, own.2))
    (unsent_claimed h c above s own.0 all own.1, tt) tt

-- a call that is made
called_keeps : (h : histories.History) (c : clients.Client) (above : List Item) (seq : Option ℕ) (l : Option Level) (position m : ℕ) (w : WindowCall) (sends : List (ℕ × Payload)) → standing.Stands h (seat_of c above)
    → clients.is_live_client c.state ≡ true → m ≡ cond (transcripts.is_command w) 1 0 + c.commands
    → ((s : ℕ) → standing.IsOwn h c above s → standing.UnsentAbove s above 0
    → standing.IsAskedSo (item.Called s (suc c.calls) w ∷ above) s (record { number = suc c.calls; seq = seq; level = l; got = None }) (record { number = suc c.calls; seq = position; call = w }) w)
    → Kept h c above (clients.client_step (record (clients.with_request c seq l position w) { commands = m }) (clients.called_item c (suc c.calls) w ∷ []) sends)
called_keeps h c above seq l position m w sends k live many so =
    let s = clients.own_session c.state in
    let d : clients.Client = record (clients.with_request c seq l position w) { commands = m } in
    let is : c.state ≡ state.Live s = live_state c.state live in
    let own : standing.OwnStands h c above (state.Live s) = subst (standing.OwnStands h c above) is k.own in
    let x = item.Called s (suc c.calls) w in
    let now : standing.IsOwn h d (x ∷ above) s = own_called h c above s seq l position m w own.0 own.2 many (so s own.0 own.2) in
    let next : standing.next_opening c ≡ suc c.switch.opening = ap (λ t. if clients.is_opening t then c.switch.opening else suc c.switch.opening) is in
    shows h c d above (x ∷ []) s sends k refl (omega arith) (omega (arith, next)) now (refl, tt)
    (subst (standing.OwnStands h d (x ∷ above)) (sym is) (now, own.1, own.2))
    (called_claimed h c above s w own.0 own.1 own.2, tt) tt

low_numbers : (h : histories.History) (c : clients.Client) (above : List Item) (s : ℕ) → (o : standing.IsOwn h c above s) → standing.UnsentAbove s above 0 → AllByRecursion (λ w. w.0 ≤ c.calls) (transcripts.calls s above)
low_numbers h c above s o unsent = let called : length (transcripts.calls s above) + count_by (outcome_order.is_unsent s) above ≡ c.calls = o.called in all_low c.calls (transcripts.calls s above) (omega (arith, called, unsent)) o.numbers

pub calls_keeps : (h : histories.History) (c : clients.Client) (above : List Item) (name : List ℕ) (o : Op) → standing.Stands h (seat_of c above) → Kept h c above (inputs.client_stepped c (inputs.Calls name o))
calls_keeps h c above name o k =
    let w = call.Command name o in
    by_test (Kept h c above) (clients.has_ended c.state) (inputs.uses_number c) (inputs.unless (clients.call_refusal c) c (clients.makes_call c name o)) (λ e. unsent_keeps h c above k e)
    (λ e. unless_two (Kept h c above) c (clients.makes_call c name o) (clients.is_live_client c.state) (nat_le sequencers.most_unanswered (sequencers.unanswered_count c.sequencer)) reason.NoSession reason.WindowFull (ignored h c above k)
    (λ live free. called_keeps h c above (Some (suc c.commands)) None (suc c.commands) (suc c.commands) w _ k live (omega arith)
    (λ s own unsent.
    let rank : transcripts.commands_upto s (suc c.calls) (item.Called s (suc c.calls) w ∷ above) ≡ 1 + c.commands = new_rank c.calls c.commands s w above (low_numbers h c above s own unsent) own.commands in
    (refl, refl, omega (arith, rank)))))

pub queries_keeps : (h : histories.History) (c : clients.Client) (above : List Item) (l : Level) (name : List ℕ) (q : Query) → standing.Stands h (seat_of c above) → Kept h c above (inputs.client_stepped c (inputs.Queries l name q))
queries_keeps h c above l name q k =
    let w = call.Query l name q in
    by_test (Kept h c above) (clients.has_ended c.state) (inputs.uses_number c) (inputs.unless (clients.call_refusal c) c (clients.queries c l name q)) (λ e. unsent_keeps h c above k e)
    (λ e. unless_two (Kept h c above) c (clients.queries c l name q) (clients.is_live_client c.state) (nat_le sequencers.most_unanswered (sequencers.unanswered_count c.sequencer)) reason.NoSession reason.WindowFull (ignored h c above k)
    (λ live free. called_keeps h c above None (Some l) c.commands c.commands w _ k live (omega arith)
    (λ s own unsent. (refl, refl, sym (new_below c.calls c.commands s w above (low_numbers h c above s own unsent) own.commands)))))

pub keep_keeps : (h : histories.History) (c : clients.Client) (above : List Item) → standing.Stands h (seat_of c above) → Kept h c above (inputs.client_stepped c inputs.Keeps)
keep_keeps h c above k =
    unless_if (Kept h c above) c (clients.keeps c) (not (clients.is_joined c.state)) reason.NoSession (ignored h c above k) (λ e. silent h c c above _ k refl (omega arith) k.own)

pub resends_keeps : (h : histories.History) (c : clients.Client) (above : List Item) → standing.Stands h (seat_of c above) → Kept h c above (inputs.client_stepped c inputs.Resends)
resends_keeps h c above k =
    unless_if (Kept h c above) c (clients.resends c) (not (clients.is_busy c.state)) reason.NoSession (ignored h c above k) (λ e. silent h c c above _ k refl (omega arith) k.own)

pub switches_keeps : (h : histories.History) (c : clients.Client) (above : List Item) (node : ℕ) → standing.Stands h (seat_of c above) → Kept h c above (inputs.client_stepped c (inputs.Switches node))
switches_keeps h c above node k =
    let d : clients.Client = record c { switch = sequencers.moved_to c.switch node } in
    silent h c d above (clients.to_server d (clients.again_of d)) k refl (omega arith) (placed h c above (Some node) c.state k.own)

pub closes_keeps : (h : histories.History) (c : clients.Client) (above : List Item) → standing.Stands h (seat_of c above) → Kept h c above (inputs.client_stepped c inputs.Closes)
closes_keeps h c above k =
    let s = clients.own_session c.state in
    let d : clients.Client = record c { state = state.Closing s } in
    let n = sequencers.unanswered_count c.sequencer in
    unless_two (Kept h c above) c (clients.closes c) (clients.is_live_client c.state) (nat_lt 0 n) reason.NoSession (reason.Busy n) (ignored h c above k)
    (λ live free.
    let is : c.state ≡ state.Live s = live_state c.state live in
    let own : standing.OwnStands h c above (state.Live s) = subst (standing.OwnStands h c above) is k.own in
    let few : n ≤ 0 = not_below 0 n free in
    let none : c.requests ≡ [] = no_requests h above s own.0.done c.sequencer.calls c.requests own.0.asked (omega (arith, few)) in
    silent h c d above _ k refl (next_low c) (own_placed h c above s c.switch.server (state.Closing s) own.0, own.1, own.2, none))

-- an opening names one client and one opening
pub same_opening : (c d o p : ℕ) (a : Option (ℕ × Act)) → payloads.IsOpeningOf c o a → payloads.IsOpeningOf d p a → (c ≡ d) × (o ≡ p)
same_opening c d o p None x y = absurd x
same_opening c d o p (Some (time, act.Open e q)) x y = (x.0 ∙ sym y.0, x.1 ∙ sym y.1)
same_opening c d o p (Some (time, act.Nothing)) x y = absurd x
same_opening c d o p (Some (time, act.Keep s)) x y = absurd x
same_opening c d o p (Some (time, act.Do s name op)) x y = absurd x
same_opening c d o p (Some (time, act.Close s)) x y = absurd x
same_opening c d o p (Some (time, act.Expire s)) x y = absurd x

-- the items above are of other sessions than one that a new opening gave
new_aside : (h : histories.History) (me next s : ℕ) (t : Option ℕ) → payloads.IsOpeningOf me next (lists.at_place h s) → standing.IsOld me next h t → IsAside s t
new_aside h me next s None is o = tt
new_aside h me next s (Some t) is o =
    λ e.
    let both_open : (me ≡ o.client) × (next ≡ o.opening) = same_opening me o.client next o.opening (lists.at_place h t) (subst (λ u. payloads.IsOpeningOf me next (lists.at_place h u)) e is) o.opened in
    let less : o.opening < next = o.below both_open.0 in
    let same : next ≡ o.opening = both_open.1 in
    omega (arith, less, same)

pub opened_keeps : (h : histories.History) (c : clients.Client) (above : List Item) (session opening : ℕ) → standing.Stands h (seat_of c above) → payloads.IsOpeningOf c.me opening (lists.at_place h session)
    → (clients.is_opening c.state && sequencers.accepts c.switch opening) ≡ true → Kept h c above (receipts.takes_opened c session)
opened_keeps h c above session opening k is takes =
    let parts : (clients.is_opening c.state ≡ true) × (sequencers.accepts c.switch opening ≡ true) = both (clients.is_opening c.state) (sequencers.accepts c.switch opening) takes in
    let number : opening ≡ c.switch.opening = equal opening c.switch.opening (both c.switch.is_open (nat_eq opening c.switch.opening) parts.1).1 in
    let next : standing.next_opening c ≡ c.switch.opening = ap (λ b. if b then c.switch.opening else suc c.switch.opening) parts.0 in
    let here : payloads.IsOpeningOf c.me c.switch.opening (lists.at_place h session) = subst (λ o. payloads.IsOpeningOf c.me o (lists.at_place h session)) number is in
    let old : AllByRecursion (λ x. standing.IsOld c.me c.switch.opening h (inputs.session_in x)) above = subst (λ n. AllByRecursion (λ x. standing.IsOld c.me n h (inputs.session_in x)) above) next k.old in
    let b : IsBlank session above = blank session above
    (all_since (λ x. standing.IsOld c.me c.switch.opening h (inputs.session_in x)) (λ x. IsAside session (inputs.session_in x)) (λ x o. new_aside h c.me c.switch.opening session (inputs.session_in x) here o) above old) in
    let d : clients.Client = record c { state = state.Live session; switch = sequencers.with_opened c.switch; calls = 0; commands = 0; sequencer = sequencers.new_sequencer session; requests = [] } in
    let x = item.Opened session c.me in
    let own : standing.IsOwn h d (x ∷ above) session = own_opened h d above session here b refl refl refl refl in
    shows h c d above (x ∷ []) session _ k refl (next_low c) (omega arith) own (refl, tt) (own, b.ended, b.unsent) (opened_claimed h above session c.me c.switch.opening here b.opened, tt) tt

-- responses end nothing
responses_end : (s : ℕ) (above items : List Item) → AllByRecursion (IsResponse s) items → outcome_order.EndsStep above items
responses_end s above [] a = tt
responses_end s above (item.Reply t n p r ∷ items) a = responses_end s (item.Reply t n p r ∷ above) items a.1
responses_end s above (item.Read t n l p reach r ∷ items) a = responses_end s (item.Read t n l p reach r ∷ above) items a.1
responses_end s above (x ∷ items) a = absurd a.0

response_of : (s : ℕ) (x : Item) → IsResponse s x → inputs.session_in x ≡ Some s
response_of s (item.Reply t n p r) e = ap (λ u. Some u) e
response_of s (item.Read t n l p reach r) e = ap (λ u. Some u) e
response_of s x e = absurd e

no_requests_left : (rs : List clients.Request) (us : List sequencers.Unanswered) → rs ≡ [] → receipts.requests_left rs us ≡ []
no_requests_left rs us e = ap (λ qs. receipts.requests_left qs us) e

-- an answer is taken: what may go then is given out
pub answered_keeps : (h : histories.History) (c : clients.Client) (above : List Item) (n : ℕ) (g : Got) → standing.Stands h (seat_of c above) → clients.is_joined c.state ≡ true
    → ((u : sequencers.Unanswered) (r : clients.Request) → standing.IsOwn h c above (clients.own_session c.state) → standing.IsOpenCall h above (clients.own_session c.state) u r → u.number ≡ n
    → standing.IsTrueGot h above (clients.own_session c.state) r r.call (Some g))
    → Kept h c above (receipts.releases (record c { sequencer = sequencers.with_answer c.sequencer n g }) [])
answered_keeps h c above n g k here f =
    let s = clients.own_session c.state in
    let j : Joined h c above s = joined h c above c.state here k.own in
    let d : clients.Client = record c { sequencer = sequencers.with_answer c.sequencer n g } in
    let own : standing.IsOwn h d above s = own_answered h c above s n g j.own (λ u r i e. f u r j.own i e) in
    let r : Released h above s (after_release d) (receipts.items_of d (sequencers.release_of d.sequencer).items) = release_keeps h d above s refl own j.ends j.unsent in
    let items = receipts.items_of d (sequencers.release_of d.sequencer).items in
    shows h c (after_release d) above items s _ k refl (omega arith) (omega (arith, joined_next c here)) r.own
    (all_since (IsResponse s) (λ x. inputs.session_in x ≡ Some s) (λ x e. response_of s x e) items r.responses)
    (joined_again h c (after_release d) above (reverse items ++ above) c.state here k.own (record { own = r.own; ends = r.ends; unsent = r.unsent }) (λ e. no_requests_left c.requests (sequencers.release_of d.sequencer).calls e))
    r.claimed (responses_end s above items r.responses)

-- an answer for a call that is found, unless it has one
gets_keeps : (h : histories.History) (c : clients.Client) (above : List Item) (g : Got) (o : Option sequencers.Unanswered) → standing.Stands h (seat_of c above) → clients.is_joined c.state ≡ true
    → ((v u : sequencers.Unanswered) (r : clients.Request) → o ≡ Some v → standing.IsOwn h c above (clients.own_session c.state) → standing.IsOpenCall h above (clients.own_session c.state) u r → u.number ≡ v.number
    → standing.IsTrueGot h above (clients.own_session c.state) r r.call (Some g))
    → Kept h c above (receipts.gets c o g)
gets_keeps h c above g None k here f = ignored h c above k
gets_keeps h c above g (Some v) k here f =
    by_test (Kept h c above) (is_some v.got) (clients.ignores c) (receipts.releases (record c { sequencer = sequencers.with_answer c.sequencer v.number g }) []) (λ e. ignored h c above k)
    (λ e. answered_keeps h c above v.number g k here (λ u r own i same. f v u r refl own i same))

pub own_live : (c : clients.Client) (session : ℕ) → receipts.is_own_live c session ≡ true → (clients.is_joined c.state ≡ true) × (session ≡ clients.own_session c.state)
own_live c session e =
    let p : (clients.is_live_client c.state ≡ true) × (nat_eq session (clients.own_session c.state) ≡ true) = both (clients.is_live_client c.state) (nat_eq session (clients.own_session c.state)) e in
    (ap (λ b. if b then true else clients.is_closing c.state) p.0, equal session (clients.own_session c.state) p.1)

pub own_joined : (c : clients.Client) (session : ℕ) → receipts.is_own c session ≡ true → (clients.is_joined c.state ≡ true) × (session ≡ clients.own_session c.state)
own_joined c session e =
    let p : (clients.is_joined c.state ≡ true) × (nat_eq session (clients.own_session c.state) ≡ true) = both (clients.is_joined c.state) (nat_eq session (clients.own_session c.state)) e in
    (p.0, equal session (clients.own_session c.state) p.1)

has_seq : (seq : ℕ) (o : Option ℕ) → receipts.has_seq seq o ≡ true → o ≡ Some seq
has_seq seq None e = absurd (on e)
has_seq seq (Some n) e = ap (λ m. Some m) (equal n seq e)

-- the sequence of a call that is a command
seq_asked : (h : histories.History) (above : List Item) (s seq : ℕ) (u : sequencers.Unanswered) (r : clients.Request) (w : WindowCall) → standing.IsAskedSo above s u r w → u.seq ≡ Some seq
    → (transcripts.is_command w ≡ true) × (seq ≡ transcripts.commands_upto s r.number above)
seq_asked h above s seq u r (call.Command name o) a e = let f : Some seq ≡ Some r.seq = sym e ∙ a.0 in (refl, some_same seq r.seq f ∙ a.2)
seq_asked h above s seq u r (call.Query l name q) a e = let f : Some seq ≡ None = sym e ∙ a.0 in absurd (cc)

-- what a true reply says of each call of its number
reply_got : (h : histories.History) (c : clients.Client) (above : List Item) (s seq place events : ℕ) (answer : Reply) (done : ℕ) (us : List sequencers.Unanswered) (rs : List clients.Request)
    → standing.AreOpenCalls h above s done us rs
    → standing.IsTrueReply h s seq (record { place = place; events = events; reach = None; reply = answer })
    → (v u : sequencers.Unanswered) (r : clients.Request) → receipts.asked_command us seq ≡ Some v → standing.IsOwn h c above s → standing.IsOpenCall h above s u r → u.number ≡ v.number
    → standing.IsTrueGot h above s r r.call (Some (record { place = place; events = events; reach = None; reply = answer }))
reply_got h c above s seq place events answer done us rs asked true_reply v u r is own i same =
    let f : Found h above s (λ x. receipts.has_seq seq x.seq) v = found_pair h above s done (λ x. receipts.has_seq seq x.seq) us rs v asked is in
    let number : r.number ≡ f.request.number = sym i.number ∙ same ∙ f.asked.number in
    let call_same : r.call ≡ f.request.call = same_call h c above s r.number r.call f.request.call own i.called (subst (λ n. transcripts.StandsIn (item.Called s n f.request.call) above) (sym number) f.asked.called) in
    let first : (transcripts.is_command f.request.call ≡ true) × (seq ≡ transcripts.commands_upto s f.request.number above) = seq_asked h above s seq v f.request f.request.call f.asked.asked_so (has_seq seq v.seq f.passes) in
    of_call r.call (ap (λ w. transcripts.is_command w) call_same ∙ first.0) i.asked_so (first.1 ∙ ap (λ n. transcripts.commands_upto s n above) (sym number))
  where
    of_call : (w : WindowCall) → transcripts.is_command w ≡ true → standing.IsAskedSo above s u r w → seq ≡ transcripts.commands_upto s r.number above
        → standing.IsTrueGot h above s r w (Some (record { place = place; events = events; reach = None; reply = answer }))
    of_call (call.Command name o) e a rank = subst (λ n. standing.IsTrueReply h s n (record { place = place; events = events; reach = None; reply = answer })) (rank ∙ sym a.2) true_reply
    of_call (call.Query l name q) e a rank = absurd (on e)

pub reply_keeps : (h : histories.History) (c : clients.Client) (above : List Item) (session seq place events : ℕ) (answer : Reply) → standing.Stands h (seat_of c above)
    → payloads.IsTruePayload above h c.me (payload.Reply session seq place events answer) → receipts.is_own_live c session ≡ true
    → Kept h c above (receipts.gets c (receipts.asked_command c.sequencer.calls seq) (record { place = place; events = events; reach = None; reply = answer }))
reply_keeps h c above session seq place events answer k is live =
    let p = own_live c session live in
    let s = clients.own_session c.state in
    let g : Got = record { place = place; events = events; reach = None; reply = answer } in
    let t : standing.IsTrueReply h s seq g = subst (λ u. standing.IsTrueReply h u seq g) p.1 (record { place = is.0; reply = is.1; last_event = is.2 }) in
    gets_keeps h c above g (receipts.asked_command c.sequencer.calls seq) k p.0
    (λ v u r e own i same. reply_got h c above s seq place events answer own.done c.sequencer.calls c.requests own.asked t v u r e own i same)

reached_by : (above : List Item) (l : Level) (s n p term arrival : ℕ) → payloads.IsReachedAt l above s n p term arrival → standing.IsReachedBy l above s n p (receipts.reach_of l term arrival)
reached_by above level.Lin s n p term arrival r = r
reached_by above level.Seq s n p term arrival r = tt

-- what a true answer says of each call of its number
answer_got : (h : histories.History) (c : clients.Client) (above : List Item) (s number : ℕ) (l : Level) (place events term arrival : ℕ) (answer : Reply)
    → payloads.IsTrueAnswer above h s number l place events term arrival answer
    → (v u : sequencers.Unanswered) (r : clients.Request) → (nat_eq v.number number && receipts.has_level l v.level) ≡ true → standing.IsOwn h c above s → standing.IsOpenCall h above s u r → u.number ≡ v.number
    → standing.IsTrueGot h above s r r.call (Some (record { place = place; events = events; reach = receipts.reach_of l term arrival; reply = answer }))
answer_got h c above s number l place events term arrival answer t v u r passes own i same =
    let g : Got = record { place = place; events = events; reach = receipts.reach_of l term arrival; reply = answer } in
    let is : r.number ≡ number = sym i.number ∙ same ∙ equal v.number number (both (nat_eq v.number number) (receipts.has_level l v.level) passes).0 in
    let call_same : r.call ≡ call.Query l t.name t.query = same_call h c above s number r.call (call.Query l t.name t.query) own (subst (λ n. transcripts.StandsIn (item.Called s n r.call) above) is i.called) t.called in
    let read : standing.IsTrueRead h above s r.number l t.name t.query g = record {
      behind = subst (λ n. transcripts.commands_below s n above ≤ claims_once.dos_upto h s place) (sym is) t.behind;
      within = t.within;
      live = t.live;
      last_event = t.last_event;
      answer = t.answer;
      reached = subst (λ n. standing.IsReachedBy l above s n place g.reach) (sym is) (reached_by above l s number place term arrival t.reached);
    } in
    subst (λ w. standing.IsTrueGot h above s r w (Some g)) (sym call_same) read

pub answer_keeps : (h : histories.History) (c : clients.Client) (above : List Item) (session number : ℕ) (l : Level) (place events term arrival : ℕ) (answer : Reply) → standing.Stands h (seat_of c above)
    → payloads.IsTruePayload above h c.me (payload.Answer session number l place events term arrival answer) → receipts.is_own_live c session ≡ true
    → Kept h c above (receipts.gets c (receipts.asked_query c.sequencer.calls number l) (record { place = place; events = events; reach = receipts.reach_of l term arrival; reply = answer }))
answer_keeps h c above session number l place events term arrival answer k is live =
    let p = own_live c session live in
    let s = clients.own_session c.state in
    let t : payloads.IsTrueAnswer above h s number l place events term arrival answer = subst (λ u. payloads.IsTrueAnswer above h u number l place events term arrival answer) p.1 is in
    gets_keeps h c above (record { place = place; events = events; reach = receipts.reach_of l term arrival; reply = answer }) (receipts.asked_query c.sequencer.calls number l) k p.0
    (λ v u r e own i same.
    let f : Found h above s (λ x. nat_eq x.number number && receipts.has_level l x.level) v = found_pair h above s own.done (λ x. nat_eq x.number number && receipts.has_level l x.level) c.sequencer.calls c.requests v own.asked e in
    answer_got h c above s number l place events term arrival answer t v u r f.passes own i same)

-- a batch that is the next one is heard, and what waited for it is given out
taken_keeps : (h : histories.History) (c : clients.Client) (above : List Item) (b : Batch) → standing.Stands h (seat_of c above) → clients.is_joined c.state ≡ true
    → payloads.IsHeardIn (record { place = b.place; prev = b.prev; events = b.events }) (histories.events h (clients.own_session c.state))
    → c.sequencer.heard < b.place → b.prev ≡ c.sequencer.heard
    → Kept h c above (receipts.releases (record c { sequencer = record c.sequencer { heard = b.place } }) (item.Event (clients.own_session c.state) b.place b.prev b.events ∷ []))
taken_keeps h c above b k here told up follows =
    let s = clients.own_session c.state in
    let j : Joined h c above s = joined h c above c.state here k.own in
    let o : standing.IsOwn h c above s = j.own in
    let e : histories.Heard = record { place = b.place; prev = b.prev; events = b.events } in
    let chain : IsChain 0 (o.told ++ o.rest) = subst (IsChain 0) o.whole (heard_chain h s (length h)).0 in
    let last : c.sequencer.heard ≡ end_of 0 o.told = sym o.last ∙ last_end o.told in
    let n = next_one 0 o.told o.rest e chain (subst (payloads.IsHeardIn e) o.whole told) (follows ∙ last) (subst (λ p. p < b.place) last up) in
    let x = item.Event s b.place b.prev b.events in
    let d : clients.Client = record c { sequencer = record c.sequencer { heard = b.place } } in
    let own : standing.IsOwn h d (x ∷ above) s = own_event h c above s b.place b.prev b.events n.0 o n.1 in
    let items = receipts.items_of d (sequencers.release_of d.sequencer).items in
    let r : Released h (x ∷ above) s (after_release d) items = release_keeps h d (x ∷ above) s refl own j.ends j.unsent in
    let back : reverse items ++ x ∷ above ≡ reverse (x ∷ items) ++ above = sym (reverse_onto x items above) in
    let now : standing.IsOwn h (after_release d) (reverse (x ∷ items) ++ above) s = subst (λ ys. standing.IsOwn h (after_release d) ys s) back r.own in
    shows h c (after_release d) above (x ∷ items) s _ k refl (omega arith) (omega (arith, joined_next c here)) now
    (refl, all_since (IsResponse s) (λ y. inputs.session_in y ≡ Some s) (λ y a. response_of s y a) items r.responses)
    (joined_again h c (after_release d) above (reverse (x ∷ items) ++ above) c.state here k.own
    (record { own = now; ends = subst (λ ys. standing.EndsAbove s ys 0) back r.ends; unsent = subst (λ ys. standing.UnsentAbove s ys 0) back r.unsent })
    (λ a. no_requests_left c.requests (sequencers.release_of d.sequencer).calls a))
    (event_claimed h c above s b.place b.prev b.events o j.ends, r.claimed) (responses_end s (x ∷ above) items r.responses)

pub batch_keeps : (h : histories.History) (c : clients.Client) (above : List Item) (node session : ℕ) (b : Batch) → standing.Stands h (seat_of c above)
    → payloads.IsHeardIn (record { place = b.place; prev = b.prev; events = b.events }) (histories.events h session) → receipts.is_own c session ≡ true
    → Kept h c above (receipts.takes_batch c node b (sequencers.heard_of c.sequencer b))
batch_keeps h c above node session b k told is =
    let p = own_joined c session is in
    let s = clients.own_session c.state in
    let q = c.sequencer in
    let next : Heard = if nat_eq b.prev q.heard then heard.Taken else heard.Missing q.heard in
    by_test (λ t. Kept h c above (receipts.takes_batch c node b t)) (nat_le b.place q.heard) heard.Old next (λ e. ignored h c above k)
    (λ e. by_test (λ t. Kept h c above (receipts.takes_batch c node b t)) (nat_eq b.prev q.heard) heard.Taken (heard.Missing q.heard)
    (λ f.
    let is_taken : sequencers.heard_of q b ≡ heard.Taken = ap (λ (t : Bool). if t then heard.Old else next) e ∙ ap (λ (t : Bool). if t then heard.Taken else heard.Missing q.heard) f in
    let after : sequencers.with_heard q b ≡ record q { heard = b.place } = ap (λ t. sequencers.heard_at t q b) is_taken in
    subst (λ z. Kept h c above (receipts.releases (record c { sequencer = z }) (item.Event s b.place b.prev b.events ∷ []))) (sym after)
    (taken_keeps h c above b k p.0 (subst (λ u. payloads.IsHeardIn (record { place = b.place; prev = b.prev; events = b.events }) (histories.events h u)) p.1 told) (higher b.place q.heard e) (equal b.prev q.heard f)))
    (λ f. silent h c c above _ k refl (omega arith) k.own))

-- what becomes of the calls without an outcome
pub record Ends (h : histories.History) (c : clients.Client) (above : List Item) (s read : ℕ) (items : List Item) : Type 0 where
  pub own : standing.IsOwn h (client_at c [] [] read) (reverse items ++ above) s
  pub ends : standing.EndsAbove s (reverse items ++ above) 1
  pub claimed : transcripts.EachBelow (promises.IsClaimed h) above items

end_outcome : (s read : ℕ) (u : sequencers.Unanswered) (n : ℕ) → u.number ≡ n → IsOutcomeOf s n read (receipts.outcome_at_end s u)
end_outcome s read u n e =
    by_test (IsOutcomeOf s n read) (sequencers.is_query u) (item.Lost s u.number) (item.Doubt s u.number)
    (λ f. record { called = refl; outcome = ap (λ b. if b then Some u.number else None) (is_equal s s refl) ∙ ap (λ m. Some m) e; unsent = refl; unanswered = refl; opened = refl; heard = refl; upto = tt })
    (λ f. record { called = refl; outcome = ap (λ b. if b then Some u.number else None) (is_equal s s refl) ∙ ap (λ m. Some m) e; unsent = refl; unanswered = refl; opened = refl; heard = refl; upto = tt })

end_unended : (s t : ℕ) (u : sequencers.Unanswered) → outcome_order.is_ended t (receipts.outcome_at_end s u) ≡ false
end_unended s t u = by_test (λ x. outcome_order.is_ended t x ≡ false) (sequencers.is_query u) (item.Lost s u.number) (item.Doubt s u.number) (λ e. refl) (λ e. refl)

end_mine : (s : ℕ) (u : sequencers.Unanswered) → inputs.session_in (receipts.outcome_at_end s u) ≡ Some s
end_mine s u = by_test (λ x. inputs.session_in x ≡ Some s) (sequencers.is_query u) (item.Lost s u.number) (item.Doubt s u.number) (λ e. refl) (λ e. refl)

ends_mine : (s : ℕ) (us : List sequencers.Unanswered) → AreMine s (map (receipts.outcome_at_end s) us)
ends_mine s [] = tt
ends_mine s (u ∷ us) = (end_mine s u, ends_mine s us)

all_end : (h : histories.History) (c : clients.Client) (above : List Item) (s read : ℕ) (us : List sequencers.Unanswered) (rs : List clients.Request) → standing.IsOwn h (client_at c us rs read) above s → standing.EndsAbove s above 1
    → Ends h c above s read (map (receipts.outcome_at_end s) us)
all_end h c above s read [] [] o ends = record { own = o; ends = ends; claimed = tt }
all_end h c above s read [] (r ∷ rs) o ends = absurd o.asked
all_end h c above s read (u ∷ us) [] o ends = absurd o.asked
all_end h c above s read (u ∷ us) (r ∷ rs) o ends =
    let a : (r.number ≡ suc o.done) × standing.IsOpenCall h above s u r × standing.AreOpenCalls h above s (suc o.done) us rs = o.asked in
    let i : standing.IsOpenCall h above s u r = a.1 in
    let y = receipts.outcome_at_end s u in
    let items = map (receipts.outcome_at_end s) us in
    let now : standing.IsOwn h (client_at c us rs read) (y ∷ above) s = own_outcome h c above s y u us r rs read read (end_outcome s read u r.number i.number) (omega arith) o in
    let more : Ends h c (y ∷ above) s read items = all_end h c (y ∷ above) s read us rs now (count_no (outcome_order.is_ended s) y above (end_unended s s u) ∙ ends) in
    let back : reverse items ++ y ∷ above ≡ reverse (y ∷ items) ++ above = sym (reverse_onto y items above) in
    record {
      own = subst (λ ys. standing.IsOwn h (client_at c [] [] read) ys s) back more.own;
      ends = subst (λ ys. standing.EndsAbove s ys 1) back more.ends;
      claimed = (end_claimed h above s u.number u (next_of h (client_at c (u ∷ us) (r ∷ rs) read) above s u.number o (i.number ∙ a.0)), more.claimed);
    }

doubted_as : (s : ℕ) (above : List Item) (u : sequencers.Unanswered) (r : clients.Request) (w : WindowCall) → standing.IsAskedSo above s u r w → u.number ≡ r.number
    → receipts.outcome_at_end s u ≡ outcome_order.doubted s (r.number, w)
doubted_as s above u r (call.Command name o) a e = ap (λ q. if not (is_some q) then item.Lost s u.number else item.Doubt s u.number) a.0 ∙ ap (λ n. item.Doubt s n) e
doubted_as s above u r (call.Query l name q) a e = ap (λ z. if not (is_some z) then item.Lost s u.number else item.Doubt s u.number) a.0 ∙ ap (λ n. item.Lost s n) e

all_doubted : (h : histories.History) (above : List Item) (s done : ℕ) (us : List sequencers.Unanswered) (rs : List clients.Request) → standing.AreOpenCalls h above s done us rs
    → map (receipts.outcome_at_end s) us ≡ map (outcome_order.doubted s) (map standing.asked_call rs)
all_doubted h above s done [] [] a = refl
all_doubted h above s done [] (r ∷ rs) a = absurd a
all_doubted h above s done (u ∷ us) [] a = absurd a
all_doubted h above s done (u ∷ us) (r ∷ rs) a =
    let i : standing.IsOpenCall h above s u r = a.1 in
    ap (λ x. x ∷ map (receipts.outcome_at_end s) us) (doubted_as s above u r r.call i.asked_so i.number)
    ∙ ap (λ xs. outcome_order.doubted s (r.number, r.call) ∷ xs) (all_doubted h above s (suc done) us rs a.2)

-- an end that stands above is counted
end_counts : (s p : ℕ) (way : How) (above : List Item) → transcripts.StandsIn (item.Ended s p way) above → standing.EndsAbove s above 0 → ⊥
end_counts s p way [] a e = a
end_counts s p way (x ∷ above) (inl is) e =
    let one : count_by (outcome_order.is_ended s) (x ∷ above) ≡ suc (count_by (outcome_order.is_ended s) above) = count_yes (outcome_order.is_ended s) x above (ap (λ y. outcome_order.is_ended s y) is ∙ is_equal s s refl) in
    omega (arith, one, e)
end_counts s p way (x ∷ above) (inr a) e =
    let more : count_by (outcome_order.is_ended s) (x ∷ above) ≡ cond (outcome_order.is_ended s x) 1 0 + count_by (outcome_order.is_ended s) above = count_more (outcome_order.is_ended s) x above in
    end_counts s p way above a (omega (arith, more, e))

-- where the client has asked for the close, nothing lacks an outcome
closed_none : (h : histories.History) (c : clients.Client) (above : List Item) (s : ℕ) → standing.OwnStands h c above c.state → standing.EndsAbove s above 0 → inputs.HasClosed (seat_of c above) s → c.requests ≡ []
closed_none h c above s own ends (inl e) = (subst (standing.OwnStands h c above) e own).3
closed_none h c above s own ends (inr (p, way, a)) = absurd (end_counts s p way above a ends)

ends_step : (h : histories.History) (c : clients.Client) (above : List Item) (s place : ℕ) (way : How) → (o : standing.IsOwn h c above s) → standing.EndsAbove s above 0 → standing.OwnStands h c above c.state
    → clients.own_session c.state ≡ s → inputs.IsAskedEnd (seat_of c above) (payload.Ended s place way)
    → outcome_order.EndsStep above (item.Ended s place way ∷ map (receipts.outcome_at_end s) c.sequencer.calls)
ends_step h c above s place how.Expired o ends own mine asked =
    all_doubted h above s o.done c.sequencer.calls c.requests o.asked ∙ ap (λ cs. map (outcome_order.doubted s) cs) (sym o.waiting)
ends_step h c above s place how.Closed o ends own mine asked =
    let none : c.requests ≡ [] = closed_none h c above s own ends (asked mine) in
    let no_more : c.sequencer.calls ≡ [] = no_calls h above s o.done c.sequencer.calls c.requests o.asked none in (
      o.waiting ∙ ap (λ rs. map standing.asked_call rs) none,
      subst (λ us. outcome_order.EndsStep (item.Ended s place how.Closed ∷ above) (map (receipts.outcome_at_end s) us)) (sym no_more) tt,
    )

pub ended_keeps : (h : histories.History) (c : clients.Client) (above : List Item) (session place : ℕ) (way : How) → standing.Stands h (seat_of c above)
    → outcome_order.IsEndOf session way (lists.at_place h place) → inputs.IsAskedEnd (seat_of c above) (payload.Ended session place way) → receipts.is_own c session ≡ true
    → Kept h c above (receipts.takes_end c session place way)
ended_keeps h c above session place way k is asked own_it =
    let p = own_joined c session own_it in
    let j : Joined h c above session = subst (λ s. Joined h c above s) (sym p.1) (joined h c above c.state p.0 k.own) in
    let x = item.Ended session place way in
    let none : ShowsNone session x = record { called = refl; outcome = refl; unsent = refl; unanswered = refl; opened = refl; heard = refl; upto = λ n. tt } in
    let own : standing.IsOwn h c (x ∷ above) session = own_aside h c above session x none j.own in
    let one : standing.EndsAbove session (x ∷ above) 1 = count_yes (outcome_order.is_ended session) x above (is_equal session session refl) ∙ ap (λ n. suc n) j.ends in
    let items = map (receipts.outcome_at_end session) c.sequencer.calls in
    let e : Ends h c (x ∷ above) session c.sequencer.read items = all_end h c (x ∷ above) session c.sequencer.read c.sequencer.calls c.requests own one in
    let back : reverse items ++ x ∷ above ≡ reverse (x ∷ items) ++ above = sym (reverse_onto x items above) in
    let now : standing.IsOwn h (client_at c [] [] c.sequencer.read) (reverse (x ∷ items) ++ above) session = subst (λ ys. standing.IsOwn h (client_at c [] [] c.sequencer.read) ys session) back e.own in
    let d : clients.Client = record c { state = state.Ended session; sequencer = record c.sequencer { calls = [] }; requests = [] } in
    let last : standing.IsOwn h d (reverse (x ∷ items) ++ above) session = own_placed h (client_at c [] [] c.sequencer.read) (reverse (x ∷ items) ++ above) session c.switch.server (state.Ended session) now in
    shows h c d above (x ∷ items) session [] k refl (next_low c) (omega arith) last (refl, ends_mine session c.sequencer.calls)
    (last, subst (λ ys. standing.EndsAbove session ys 1) back e.ends, refl)
    (ended_claimed h c above session place way j.own j.ends is, e.claimed)
    (ends_step h c above session place way j.own j.ends k.own (sym p.1) asked)

-- a payload that is true
pub receives_keeps : (h : histories.History) (c : clients.Client) (above : List Item) (node : ℕ) (p : Payload) → standing.Stands h (seat_of c above) → payloads.IsTruePayload above h c.me p → inputs.IsAskedEnd (seat_of c above) p
    → Kept h c above (receipts.receives c node p)
receives_keeps h c above node (payload.Opened opening session) k is asked =
    by_test (Kept h c above) (clients.is_opening c.state && sequencers.accepts c.switch opening) (receipts.takes_opened c session) (clients.ignores c)
    (λ e. opened_keeps h c above session opening k is e) (λ e. ignored h c above k)
receives_keeps h c above node (payload.Reply session seq place events answer) k is asked =
    by_test (Kept h c above) (receipts.is_own_live c session) (receipts.gets c (receipts.asked_command c.sequencer.calls seq) (record { place = place; events = events; reach = None; reply = answer })) (clients.ignores c)
    (λ e. reply_keeps h c above session seq place events answer k is e) (λ e. ignored h c above k)
receives_keeps h c above node (payload.Answer session number l place events term arrival answer) k is asked =
    by_test (Kept h c above) (receipts.is_own_live c session)
    (receipts.gets c (receipts.asked_query c.sequencer.calls number l) (record { place = place; events = events; reach = receipts.reach_of l term arrival; reply = answer })) (clients.ignores c)
    (λ e. answer_keeps h c above session number l place events term arrival answer k is e) (λ e. ignored h c above k)
receives_keeps h c above node (payload.Gap session last) k is asked =
    by_test (Kept h c above) (receipts.is_own_live c session) (clients.client_step c [] (clients.to_server c (receipts.gap_of c last))) (clients.ignores c)
    (λ e. silent h c c above (clients.to_server c (receipts.gap_of c last)) k refl (omega arith) k.own) (λ e. ignored h c above k)
receives_keeps h c above node (payload.Batch session place prev events) k is asked =
    let b : Batch = record { place = place; prev = prev; events = events } in
    by_test (Kept h c above) (receipts.is_own c session) (receipts.takes_batch c node b (sequencers.heard_of c.sequencer b)) (clients.ignores c)
    (λ e. batch_keeps h c above node session b k is e) (λ e. ignored h c above k)
receives_keeps h c above node (payload.Ended session place way) k is asked =
    by_test (Kept h c above) (receipts.is_own c session) (receipts.takes_end c session place way) (clients.ignores c)
    (λ e. ended_keeps h c above session place way k is asked e) (λ e. ignored h c above k)
receives_keeps h c above node p k is asked = ignored h c above k
