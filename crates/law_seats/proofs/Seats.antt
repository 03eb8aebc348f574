-- Each step keeps how the clients stand.
use Rattle.std.proofs.Common.{◌≡◌, ℕ, List, [], ◌∷◌, ◌++◌, reverse, refl, ap, sym, ◌∙◌, subst, inl, inr, ⊎_elim, append-nil}
use Rattle.std.specs.Prelude.{true, false, not, nat_eq, Option, Some, None, option_map}
use Rattle.std.specs.List.{AllByRecursion}
use Rattle.std.proofs.lemmas.List.Elements.{filter-append}
use Rattle.ax_types.specs.Places as lists
use Rattle.ax_types.specs.declared.ids.End.TheVariants as end
use Rattle.ax_types.specs.declared.items.Item.{Item}
use Rattle.ax_types.specs.declared.items.Item.TheVariants as item
use Rattle.ax_types.specs.declared.packets.Packet.{Packet}
use Rattle.ax_types.specs.declared.steps.WatchKind.{WatchKind}
use Rattle.spec_raft.specs.Positions as positions
use Rattle.spec_raft.proofs.Placing.{at_place-changed, at_place-others}
use Rattle.spec_book.specs.History as histories
use Rattle.spec_claims.specs.Transcript as transcripts
use Rattle.spec_claims.specs.Heard as claims_heard
use Rattle.spec_claims.specs.OutcomeOrder as outcome_order
use Rattle.spec_claims.specs.Payloads as payloads
use Rattle.spec_client.specs.Clients as clients
use Rattle.spec_world.specs.Worlds as worlds
use Rattle.spec_world.specs.Moves as moves
use Rattle.law_growth.specs.PlanCases as plan_cases
use Rattle.law_release.proofs.Tests.{on_or_off, equal, unequal}
use Rattle.law_client.specs.Inputs as inputs
use Rattle.law_client.specs.Standing as standing
use Rattle.law_client.specs.Promises as promises
use Rattle.law_client.proofs.Lists.{IsAmong, some_same, all_since, all_append, reverse_more, reverse_onto}
use Rattle.law_client.proofs.Steps.{Kept}
use Rattle.law_client.proofs.Promises.{input_keeps, others_keep}
use Rattle.law_seats.specs.Seats as seats
use Rattle.law_seats.proofs.Unwatched.{unwatched_reverse, unwatched_shown, all_unwatched, aside_claimed, aside_ends, shown_claimed, shown_ends, true_down, watched_aside, none_in}
use Rattle.law_seats.proofs.Effects.{Effect, Aside, Acts, Watches, AreAside, MayCome, effect_of}

abbrev pub seat_at : clients.Client → List Item → inputs.Seat
seat_at c above = record { client = c; above = above }

pub unwatched_more : (items above : List Item) → seats.unwatched (reverse items ++ above) ≡ reverse (seats.unwatched items) ++ seats.unwatched above
unwatched_more items above = filter-append (λ y. not (claims_heard.is_watched y)) (reverse items) above ∙ ap (λ ys. ys ++ seats.unwatched above) (unwatched_reverse items)

-- items of others, one after the other
pub others_all : (h : histories.History) (c : clients.Client) (above items : List Item) → standing.Stands h (seat_at c above) → AllByRecursion (λ x. inputs.IsOfOthers c.me h (inputs.session_in x)) items
    → standing.Stands h (seat_at c (reverse items ++ above))
others_all h c above [] k a = k
others_all h c above (x ∷ items) k a =
    subst (λ ys. standing.Stands h (seat_at c ys)) (sym (reverse_onto x items above)) (others_all h c (x ∷ above) items (others_keep h c above x k a.0) a.1)

pub others_below : (h : histories.History) (c : clients.Client) (above items : List Item) → standing.Stands h (seat_at c (seats.unwatched above)) → AllByRecursion (λ x. inputs.IsOfOthers c.me h (inputs.session_in x)) items
    → standing.Stands h (seat_at c (seats.unwatched (reverse items ++ above)))
others_below h c above items k a =
    subst (λ ys. standing.Stands h (seat_at c ys)) (sym (unwatched_more items above))
    (others_all h c (seats.unwatched above) (seats.unwatched items) k (all_unwatched (λ x. inputs.IsOfOthers c.me h (inputs.session_in x)) items a))

pub aside_others : (me : ℕ) (h : histories.History) (items : List Item) → AreAside items → AllByRecursion (λ x. inputs.IsOfOthers me h (inputs.session_in x)) items
aside_others me h items a = all_since (λ x. inputs.session_in x ≡ None) (λ x. inputs.IsOfOthers me h (inputs.session_in x)) (λ x e. subst (inputs.IsOfOthers me h) (sym e) tt) items a

aside_owned : (h : histories.History) (ss : List worlds.Watcher) (items : List Item) → AreAside items → AllByRecursion (λ x. seats.IsOfSeats h ss (inputs.session_in x)) items
aside_owned h ss items a = all_since (λ x. inputs.session_in x ≡ None) (λ x. seats.IsOfSeats h ss (inputs.session_in x)) (λ x e. subst (seats.IsOfSeats h ss) (sym e) tt) items a

all_reversed : {X : Type 0} (P : X → Type 0) (xs : List X) → AllByRecursion P xs → AllByRecursion P (reverse xs)
all_reversed P [] a = tt
all_reversed P (x ∷ xs) a = subst (AllByRecursion P) (sym (reverse_more x xs)) (all_append P (reverse xs) (x ∷ []) (all_reversed P xs a.1) (a.0, tt))

-- a changed seat
pub found_here : (ss : List worlds.Watcher) (c : ℕ) (s t : worlds.Watcher) → lists.at_place ss c ≡ Some s → lists.at_place (positions.change_place (λ old. t) ss c) c ≡ Some t
found_here ss c s t e = at_place-changed (λ old. t) ss c ∙ ap (option_map (λ old. t)) e

pub found_there : (ss : List worlds.Watcher) (c d : ℕ) (t : worlds.Watcher) → (c ≡ d → ⊥) → lists.at_place (positions.change_place (λ old. t) ss c) d ≡ lists.at_place ss d
found_there ss c d t n = at_place-others (λ old. t) ss c d n

owned_since : (h : histories.History) (ss : List worlds.Watcher) (c : ℕ) (s t : worlds.Watcher) → lists.at_place ss c ≡ Some s → (u : Option ℕ) → seats.IsOfSeats h ss u
    → seats.IsOfSeats h (positions.change_place (λ old. t) ss c) u
owned_since h ss c s t is None o = tt
owned_since h ss c s t is (Some u) o = ⊎_elim
    (λ e. record { client = c; opening = o.opening; seat = t; found = found_here ss c s t is; opened = subst (λ d. payloads.IsOpeningOf d o.opening (lists.at_place h u)) (sym (equal c o.client e)) o.opened })
    (λ e. record { client = o.client; opening = o.opening; seat = o.seat; found = found_there ss c o.client t (unequal c o.client e) ∙ o.found; opened = o.opened })
    (on_or_off (nat_eq c o.client))

-- a seat of a list with one changed: the changed one, or another of before
by_seat : (P : ℕ → worlds.Watcher → Type 0) (ss : List worlds.Watcher) (c : ℕ) (s t : worlds.Watcher) → lists.at_place ss c ≡ Some s → P c t
    → ((d : ℕ) (u : worlds.Watcher) → (c ≡ d → ⊥) → lists.at_place ss d ≡ Some u → P d u)
    → (d : ℕ) (u : worlds.Watcher) → lists.at_place (positions.change_place (λ old. t) ss c) d ≡ Some u → P d u
by_seat P ss c s t is here there d u e = ⊎_elim
    (λ same.
    let eq : c ≡ d = equal c d same in
    let is_t : t ≡ u = some_same t u (sym (found_here ss c s t is) ∙ ap (λ k. lists.at_place (positions.change_place (λ old. t) ss c) k) eq ∙ e) in
    subst (λ k. P k u) eq (subst (P c) is_t here))
    (λ other. there d u (unequal c d other) (sym (found_there ss c d t (unequal c d other)) ∙ e))
    (on_or_off (nat_eq c d))

-- a client's items are none that a watch shows
pub own_unwatched : (me : ℕ) (h : histories.History) (below items : List Item) → AllByRecursion (λ x. standing.IsOfOwn me h below (inputs.session_in x)) items → AllByRecursion (λ x. claims_heard.is_watched x ≡ false) items
own_unwatched me h below [] a = tt
own_unwatched me h below (x ∷ items) a = (not_watched x a.0, own_unwatched me h below items a.1)
  where
    not_watched : (y : Item) → standing.IsOfOwn me h below (inputs.session_in y) → claims_heard.is_watched y ≡ false
    not_watched (item.Watched c kind s p e) o = absurd o
    not_watched y o = refl

-- the items that are shown, each the client's or one of a watch
pub shown_each : (P : Option ℕ → Type 0) → P None → (c : ℕ) (watches : List WatchKind) (items : List Item) → AllByRecursion (λ x. P (inputs.session_in x)) items
    → AllByRecursion (λ x. P (inputs.session_in x)) (moves.with_shown c watches items)
shown_each P none c watches [] a = tt
shown_each P none c watches (x ∷ items) a =
    let below = moves.shown_below c watches x in (
      a.0,
      all_append (λ y. P (inputs.session_in y)) below (moves.with_shown c watches items)
          (all_since (λ y. claims_heard.is_watched y ≡ true) (λ y. P (inputs.session_in y)) (λ y w. subst P (sym (none_in y w)) none) below (watched_aside c watches x)) (shown_each P none c watches items a.1),
    )

pub own_others : (h : histories.History) (me other : ℕ) (below : List Item) (t : Option ℕ) → (me ≡ other → ⊥) → standing.IsOfOwn me h below t → inputs.IsOfOthers other h t
own_others h me other below None n o = tt
own_others h me other below (Some s) n o = record { client = me; opening = o.opening; opened = o.opened; other = λ e. n (sym e) }

own_owned : (h : histories.History) (me : ℕ) (ss : List worlds.Watcher) (seat : worlds.Watcher) (below : List Item) (t : Option ℕ) → lists.at_place ss me ≡ Some seat → standing.IsOfOwn me h below t → seats.IsOfSeats h ss t
own_owned h me ss seat below None is o = tt
own_owned h me ss seat below (Some s) is o = record { client = me; opening = o.opening; seat = seat; found = is; opened = o.opened }

told_among : (h : histories.History) (w : worlds.World) (above : List Item) (q : Packet) (ps : List Packet) → AllByRecursion (λ (p : Packet). seats.IsTold h w above p.payload p.to) ps → IsAmong q ps → seats.IsTold h w above q.payload q.to
told_among h w above q [] a b = absurd b
told_among h w above q (p ∷ ps) a (inl e) = subst (λ (x : Packet). seats.IsTold h w above x.payload x.to) e a.0
told_among h w above q (p ∷ ps) a (inr b) = told_among h w above q ps a.1 b

-- an input that comes may reach the client
pub may_reach : (h : histories.History) (w : worlds.World) (above : List Item) (c : ℕ) (s : worlds.Watcher) (i : inputs.Input) → lists.at_place w.seats c ≡ Some s → s.client.me ≡ c → MayCome w c i → seats.AreTrueKept h w above
    → inputs.MayReach h (seats.seat_below above s) i
may_reach h w above c s (inputs.Receives node p) is me m told =
    let t : seats.IsTold h w above m.0.payload m.0.to = told_among h w above m.0 (plan_cases.kept_packets w.bag) told m.1 in
    let u : seats.IsTold h w above p (end.Client c) = subst (λ e. seats.IsTold h w above p e) m.3 (subst (λ q. seats.IsTold h w above q m.0.to) m.2 t) in
    (true_down h above s.client.me p (subst (λ d. payloads.IsTruePayload above h d p) (sym me) u.0), u.1 s is)
may_reach h w above c s (inputs.Opens node) is me m told = tt
may_reach h w above c s (inputs.Calls name o) is me m told = tt
may_reach h w above c s (inputs.Queries l name q) is me m told = tt
may_reach h w above c s inputs.Keeps is me m told = tt
may_reach h w above c s inputs.Closes is me m told = tt
may_reach h w above c s inputs.Resends is me m told = tt
may_reach h w above c s (inputs.Switches node) is me m told = tt

-- after a step whose world and items are these
record Kept_so (h : histories.History) (above : List Item) (m : moves.Moved) : Type 0 where
  stand : seats.AllStand h m.world (reverse m.items ++ above)
  claimed : transcripts.EachBelow (promises.IsClaimed h) above m.items
  ends : outcome_order.EndsStep above m.items

all_aside_claimed : (h : histories.History) (above items : List Item) → AreAside items → transcripts.EachBelow (promises.IsClaimed h) above items
all_aside_claimed h above [] a = tt
all_aside_claimed h above (x ∷ items) a = (aside_claimed h above x a.0, all_aside_claimed h (x ∷ above) items a.1)

all_aside_end : (above items : List Item) → AreAside items → outcome_order.EndsStep above items
all_aside_end above items a = subst (outcome_order.EndsStep above) (append-nil items) (aside_ends above items [] a tt)

keeps_so : (h : histories.History) (w : worlds.World) (above : List Item) (m : moves.Moved) → Effect w m → seats.AllStand h w above → seats.AreTrueKept h w above → Kept_so h above m
keeps_so h w above m (Aside same a) k told = record {
  stand = record {
    numbers = λ c s e. k.numbers c s (ap (λ ss. lists.at_place ss c) (sym same) ∙ e);
    stand = λ c s e. let f : lists.at_place w.seats c ≡ Some s = ap (λ ss. lists.at_place ss c) (sym same) ∙ e in others_below h s.client above m.items (k.stand c s f) (aside_others s.client.me h m.items a);
    owned = subst (λ ss. AllByRecursion (λ x. seats.IsOfSeats h ss (inputs.session_in x)) (reverse m.items ++ above)) (sym same)
        (all_append (λ x. seats.IsOfSeats h w.seats (inputs.session_in x)) (reverse m.items) above (all_reversed (λ x. seats.IsOfSeats h w.seats (inputs.session_in x)) m.items (aside_owned h w.seats m.items a)) k.owned);
  };
  claimed = all_aside_claimed h above m.items a;
  ends = all_aside_end above m.items a;
}
keeps_so h w above m (Watches c s ws is same none) k told =
    let t : worlds.Watcher = record s { watches = ws } in
    let ss = positions.change_place (λ old. t) w.seats c in
    let same_above : reverse m.items ++ above ≡ above = ap (λ items. reverse items ++ above) none in
    record {
      stand = record {
        numbers = subst (λ z. (d : ℕ) (u : worlds.Watcher) → lists.at_place z d ≡ Some u → u.client.me ≡ d) (sym same)
            (by_seat (λ d u. u.client.me ≡ d) w.seats c s t is (k.numbers c s is) (λ d u n e. k.numbers d u e));
        stand = subst (λ z. (d : ℕ) (u : worlds.Watcher) → lists.at_place z d ≡ Some u → standing.Stands h (seats.seat_below (reverse m.items ++ above) u)) (sym same)
            (subst (λ ys. (d : ℕ) (u : worlds.Watcher) → lists.at_place ss d ≡ Some u → standing.Stands h (seats.seat_below ys u)) (sym same_above)
            (by_seat (λ d u. standing.Stands h (seats.seat_below above u)) w.seats c s t is (k.stand c s is) (λ d u n e. k.stand d u e)));
        owned = subst (λ z. AllByRecursion (λ x. seats.IsOfSeats h z (inputs.session_in x)) (reverse m.items ++ above)) (sym same)
            (subst (λ ys. AllByRecursion (λ x. seats.IsOfSeats h ss (inputs.session_in x)) ys) (sym same_above)
            (all_since (λ x. seats.IsOfSeats h w.seats (inputs.session_in x)) (λ x. seats.IsOfSeats h ss (inputs.session_in x)) (λ x o. owned_since h w.seats c s t is (inputs.session_in x) o) above k.owned));
      };
      claimed = subst (transcripts.EachBelow (promises.IsClaimed h) above) (sym none) tt;
      ends = subst (outcome_order.EndsStep above) (sym none) tt;
    }
keeps_so h w above m (Acts c s i is may same shown) k told =
    let next = inputs.client_stepped s.client i in
    let own = next.out.items in
    let t : worlds.Watcher = record s { client = next.client } in
    let ss = positions.change_place (λ old. t) w.seats c in
    let me : s.client.me ≡ c = k.numbers c s is in
    let items = moves.with_shown c s.watches own in
    let r : Kept h s.client (seats.unwatched above) next = input_keeps h s.client (seats.unwatched above) i (k.stand c s is) (may_reach h w above c s i is me may told) in
    let me_next : next.client.me ≡ c = r.me ∙ me in
    let below = reverse own ++ seats.unwatched above in
    let owner : AllByRecursion (λ x. standing.IsOfOwn c h below (inputs.session_in x)) own = subst (λ d. AllByRecursion (λ x. standing.IsOfOwn d h below (inputs.session_in x)) own) me_next r.owner in
    let clear : AllByRecursion (λ x. claims_heard.is_watched x ≡ false) own = own_unwatched c h below own owner in
    let bare : seats.unwatched items ≡ own = unwatched_shown c s.watches own clear in
    let after : seats.unwatched (reverse items ++ above) ≡ below = unwatched_more items above ∙ ap (λ ys. reverse ys ++ seats.unwatched above) bare in
    let stand : (d : ℕ) (u : worlds.Watcher) → lists.at_place ss d ≡ Some u → standing.Stands h (seats.seat_below (reverse items ++ above) u) =
    by_seat (λ d u. standing.Stands h (seats.seat_below (reverse items ++ above) u)) w.seats c s t is (subst (λ ys. standing.Stands h (seat_at next.client ys)) (sym after) r.stands)
    (λ d u n e.
    others_below h u.client above items (k.stand d u e)
    (shown_each (inputs.IsOfOthers u.client.me h) tt c s.watches own
    (all_since (λ x. standing.IsOfOwn c h below (inputs.session_in x)) (λ x. inputs.IsOfOthers u.client.me h (inputs.session_in x))
    (λ x o. own_others h c u.client.me below (inputs.session_in x) (λ f. n (f ∙ k.numbers d u e)) o) own owner))) in
    let owned : AllByRecursion (λ x. seats.IsOfSeats h ss (inputs.session_in x)) (reverse items ++ above) =
    all_append (λ x. seats.IsOfSeats h ss (inputs.session_in x)) (reverse items) above
    (all_reversed (λ x. seats.IsOfSeats h ss (inputs.session_in x)) items
    (shown_each (seats.IsOfSeats h ss) tt c s.watches own
    (all_since (λ x. standing.IsOfOwn c h below (inputs.session_in x)) (λ x. seats.IsOfSeats h ss (inputs.session_in x)) (λ x o. own_owned h c ss t below (inputs.session_in x) (found_here w.seats c s t is) o) own owner)))
    (all_since (λ x. seats.IsOfSeats h w.seats (inputs.session_in x)) (λ x. seats.IsOfSeats h ss (inputs.session_in x)) (λ x o. owned_since h w.seats c s t is (inputs.session_in x) o) above k.owned) in
    record {
      stand = record {
        numbers = subst (λ z. (d : ℕ) (u : worlds.Watcher) → lists.at_place z d ≡ Some u → u.client.me ≡ d) (sym same) (by_seat (λ d u. u.client.me ≡ d) w.seats c s t is me_next (λ d u n e. k.numbers d u e));
        stand = subst (λ z. (d : ℕ) (u : worlds.Watcher) → lists.at_place z d ≡ Some u → standing.Stands h (seats.seat_below (reverse m.items ++ above) u)) (sym same)
            (subst (λ ys. (d : ℕ) (u : worlds.Watcher) → lists.at_place ss d ≡ Some u → standing.Stands h (seats.seat_below (reverse ys ++ above) u)) (sym shown) stand);
        owned = subst (λ z. AllByRecursion (λ x. seats.IsOfSeats h z (inputs.session_in x)) (reverse m.items ++ above)) (sym same)
            (subst (λ ys. AllByRecursion (λ x. seats.IsOfSeats h ss (inputs.session_in x)) (reverse ys ++ above)) (sym shown) owned);
      };
      claimed = subst (transcripts.EachBelow (promises.IsClaimed h) above) (sym shown) (shown_claimed h c s.watches above own clear r.claimed);
      ends = subst (outcome_order.EndsStep above) (sym shown) (shown_ends c s.watches above own clear r.ends);
    }

pub each_step_seats : seats.EachStepSeats
each_step_seats h w above k a told =
    let r : Kept_so h above (moves.moved w k) = keeps_so h w above (moves.moved w k) (effect_of w k) a told in
    record { stand = r.stand; claimed = r.claimed; ends = r.ends }
