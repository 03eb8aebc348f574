-- What a client said stays said in a step.
use Rattle.std.proofs.Common.{◌≡◌, ℕ, List, [], ◌∷◌, ◌++◌, reverse, ap, sym, ◌∙◌, subst, ⊎_elim}
use Rattle.std.specs.Prelude.{false, nat_eq, Some}
use Rattle.std.specs.List.{AllByRecursion}
use Rattle.ax_types.specs.Places as lists
use Rattle.ax_types.specs.declared.items.Item.{Item}
use Rattle.ax_types.specs.declared.packets.Payload.{Payload}
use Rattle.ax_types.specs.declared.packets.Payload.TheVariants as payload
use Rattle.spec_raft.specs.Positions as positions
use Rattle.spec_book.specs.History as histories
use Rattle.spec_claims.specs.Heard as claims_heard
use Rattle.spec_client.specs.Clients as clients
use Rattle.spec_world.specs.Worlds as worlds
use Rattle.spec_world.specs.Moves as moves
use Rattle.law_release.proofs.Tests.{on_or_off, equal, unequal}
use Rattle.law_client.specs.Inputs as inputs
use Rattle.law_client.specs.Standing as standing
use Rattle.law_client.proofs.Lists.{some_same, all_since, reverse_onto}
use Rattle.law_client.proofs.Steps.{Kept}
use Rattle.law_client.proofs.Promises.{input_keeps, others_keep}
use Rattle.law_requests.specs.Requests as requests
use Rattle.law_requests.proofs.Requests.{requests_say_calls, said_stays_said}
use Rattle.law_seats.specs.Seats as seats
use Rattle.law_seats.proofs.Unwatched.{unwatched_shown, all_unwatched}
use Rattle.law_seats.proofs.Effects.{Effect, Aside, Acts, Watches, MayCome, effect_of}
use Rattle.law_seats.proofs.Seats.{seat_at, own_unwatched, shown_each, own_others, unwatched_more, may_reach, found_here, found_there, aside_others}
use Rattle.law_asked.specs.Asked as asked

-- items of others, one after the other
others_say : (h : histories.History) (c : clients.Client) (above items : List Item) (p : Payload) → standing.Stands h (seat_at c above) → AllByRecursion (λ x. inputs.IsOfOthers c.me h (inputs.session_in x)) items
    → requests.RequestSays h (seat_at c above) p → requests.RequestSays h (seat_at c (reverse items ++ above)) p
others_say h c above [] p k a says = says
others_say h c above (x ∷ items) p k a says =
    subst (λ ys. requests.RequestSays h (seat_at c ys) p) (sym (reverse_onto x items above))
    (others_say h c (x ∷ above) items p (others_keep h c above x k a.0) a.1 (said_stays_said h (seat_at c above) (inputs.Sees x) p k a.0 says))

others_say_below : (h : histories.History) (c : clients.Client) (above items : List Item) (p : Payload) → standing.Stands h (seat_at c (seats.unwatched above))
    → AllByRecursion (λ x. inputs.IsOfOthers c.me h (inputs.session_in x)) items → requests.RequestSays h (seat_at c (seats.unwatched above)) p
    → requests.RequestSays h (seat_at c (seats.unwatched (reverse items ++ above))) p
others_say_below h c above items p k a says =
    subst (λ ys. requests.RequestSays h (seat_at c ys) p) (sym (unwatched_more items above))
    (others_say h c (seats.unwatched above) (seats.unwatched items) p k (all_unwatched (λ x. inputs.IsOfOthers c.me h (inputs.session_in x)) items a) says)

-- what is known of a client's input
pub record Acted (h : histories.History) (w : worlds.World) (above : List Item) (c : ℕ) (s : worlds.Watcher) (i : inputs.Input) : Type 0 where
  pub kept : Kept h s.client (seats.unwatched above) (inputs.client_stepped s.client i)
  pub me : (inputs.client_stepped s.client i).client.me ≡ c
  pub may : inputs.MayReach h (seats.seat_below above s) i
  pub after : seats.unwatched (reverse (moves.with_shown c s.watches (inputs.client_stepped s.client i).out.items) ++ above) ≡ reverse (inputs.client_stepped s.client i).out.items ++ seats.unwatched above
  pub others : (d : ℕ) (u : worlds.Watcher) → (c ≡ d → ⊥) → lists.at_place w.seats d ≡ Some u
      → AllByRecursion (λ x. inputs.IsOfOthers u.client.me h (inputs.session_in x)) (moves.with_shown c s.watches (inputs.client_stepped s.client i).out.items)

pub acted : (h : histories.History) (w : worlds.World) (above : List Item) (c : ℕ) (s : worlds.Watcher) (i : inputs.Input) → seats.AllStand h w above → seats.AreTrueKept h w above
    → lists.at_place w.seats c ≡ Some s → MayCome w c i → Acted h w above c s i
acted h w above c s i k told is may =
    let next = inputs.client_stepped s.client i in
    let own = next.out.items in
    let me : s.client.me ≡ c = k.numbers c s is in
    let items = moves.with_shown c s.watches own in
    let reach : inputs.MayReach h (seats.seat_below above s) i = may_reach h w above c s i is me may told in
    let r : Kept h s.client (seats.unwatched above) next = input_keeps h s.client (seats.unwatched above) i (k.stand c s is) reach in
    let me_next : next.client.me ≡ c = r.me ∙ me in
    let below = reverse own ++ seats.unwatched above in
    let owner : AllByRecursion (λ x. standing.IsOfOwn c h below (inputs.session_in x)) own = subst (λ d. AllByRecursion (λ x. standing.IsOfOwn d h below (inputs.session_in x)) own) me_next r.owner in
    let clear : AllByRecursion (λ x. claims_heard.is_watched x ≡ false) own = own_unwatched c h below own owner in
    record {
      kept = r;
      me = me_next;
      may = reach;
      after = unwatched_more items above ∙ ap (λ ys. reverse ys ++ seats.unwatched above) (unwatched_shown c s.watches own clear);
      others = λ d u n e.
          shown_each (inputs.IsOfOthers u.client.me h) tt c s.watches own
          (all_since (λ x. standing.IsOfOwn c h below (inputs.session_in x)) (λ x. inputs.IsOfOthers u.client.me h (inputs.session_in x))
          (λ x o. own_others h c u.client.me below (inputs.session_in x) (λ f. n (f ∙ k.numbers d u e)) o) own owner);
    }

said_on : (h : histories.History) (w : worlds.World) (above : List Item) (m : moves.Moved) → Effect w m → seats.AllStand h w above → seats.AreTrueKept h w above → (c : ℕ) (p : Payload)
    → asked.IsSaidBy h w.seats above c p → asked.IsSaidBy h m.world.seats (reverse m.items ++ above) c p
said_on h w above m (Aside same a) k told c p s = record {
  seat = s.seat;
  found = ap (λ ss. lists.at_place ss c) same ∙ s.found;
  says = others_say_below h s.seat.client above m.items p (k.stand c s.seat s.found) (aside_others s.seat.client.me h m.items a) s.says;
}
said_on h w above m (Watches d t ws is same none) k told c p s =
    let new : worlds.Watcher = record t { watches = ws } in
    let same_above : reverse m.items ++ above ≡ above = ap (λ items. reverse items ++ above) none in
    let keep : (u : worlds.Watcher) → lists.at_place m.world.seats c ≡ Some u → requests.RequestSays h (seats.seat_below above u) p → asked.IsSaidBy h m.world.seats (reverse m.items ++ above) c p =
    λ u e says. record { seat = u; found = e; says = subst (λ ys. requests.RequestSays h (seats.seat_below ys u) p) (sym same_above) says } in
    ⊎_elim
    (λ e.
    let eq : d ≡ c = equal d c e in
    let here : lists.at_place w.seats c ≡ Some t = ap (λ n. lists.at_place w.seats n) (sym eq) ∙ is in
    let it : t ≡ s.seat = some_same t s.seat (sym here ∙ s.found) in
    keep new (ap (λ ss. lists.at_place ss c) same ∙ ap (λ n. lists.at_place (positions.change_place (λ old. new) w.seats d) n) (sym eq) ∙ found_here w.seats d t new is)
    (subst (λ u. requests.RequestSays h (seats.seat_below above u) p) (sym it) s.says))
    (λ e. keep s.seat (ap (λ ss. lists.at_place ss c) same ∙ found_there w.seats d c new (unequal d c e) ∙ s.found) s.says)
    (on_or_off (nat_eq d c))
said_on h w above m (Acts d t i is may same shown) k told c p s =
    let next = inputs.client_stepped t.client i in
    let items = moves.with_shown d t.watches next.out.items in
    let new : worlds.Watcher = record t { client = next.client } in
    let a : Acted h w above d t i = acted h w above d t i k told is may in
    let keep : (u : worlds.Watcher) → lists.at_place m.world.seats c ≡ Some u → requests.RequestSays h (seats.seat_below (reverse items ++ above) u) p → asked.IsSaidBy h m.world.seats (reverse m.items ++ above) c p =
    λ u e says. record { seat = u; found = e; says = subst (λ ys. requests.RequestSays h (seats.seat_below (reverse ys ++ above) u) p) (sym shown) says } in
    ⊎_elim
    (λ e.
    let eq : d ≡ c = equal d c e in
    let here : lists.at_place w.seats c ≡ Some t = ap (λ n. lists.at_place w.seats n) (sym eq) ∙ is in
    let it : t ≡ s.seat = some_same t s.seat (sym here ∙ s.found) in
    let says : requests.RequestSays h (seats.seat_below above t) p = subst (λ u. requests.RequestSays h (seats.seat_below above u) p) (sym it) s.says in
    let said : requests.RequestSays h (seat_at next.client (reverse next.out.items ++ seats.unwatched above)) p = said_stays_said h (seats.seat_below above t) (inputs.Does i) p (k.stand d t is) a.may says in
    keep new (ap (λ ss. lists.at_place ss c) same ∙ ap (λ n. lists.at_place (positions.change_place (λ old. new) w.seats d) n) (sym eq) ∙ found_here w.seats d t new is)
    (subst (λ ys. requests.RequestSays h (seat_at next.client ys) p) (sym a.after) said))
    (λ e.
    keep s.seat (ap (λ ss. lists.at_place ss c) same ∙ found_there w.seats d c new (unequal d c e) ∙ s.found)
    (others_say_below h s.seat.client above items p (k.stand c s.seat s.found) (a.others c s.seat (unequal d c e) s.found) s.says))
    (on_or_off (nat_eq d c))

pub said_stays : asked.SaidStays
said_stays h w above k stand told c p s = said_on h w above (moves.moved w k) (effect_of w k) stand told c p s

-- a request that a client says is one of its own number
pub request_said : (h : histories.History) (ss : List worlds.Watcher) (above : List Item) (c : ℕ) (t : worlds.Watcher) → lists.at_place ss c ≡ Some t → t.client.me ≡ c
    → (p : Payload) → requests.RequestSays h (seats.seat_below above t) p → asked.PayloadSays (asked.IsSaidBy h ss above) p
request_said h ss above c t is me p says = by_payload p says
  where
    said : (d : ℕ) (q : Payload) → d ≡ t.client.me → requests.RequestSays h (seats.seat_below above t) q → asked.IsSaidBy h ss above d q
    said d q e s = record { seat = t; found = ap (λ n. lists.at_place ss n) (e ∙ me) ∙ is; says = s }

    by_payload : (q : Payload) → requests.RequestSays h (seats.seat_below above t) q → asked.PayloadSays (asked.IsSaidBy h ss above) q
    by_payload (payload.Register d opening) s = said d (payload.Register d opening) s.0 s
    by_payload (payload.Keep d u answered heard) s = said d (payload.Keep d u answered heard) s.client s
    by_payload (payload.Command d u seq name o) s = said d (payload.Command d u seq name o) s.0.client s
    by_payload (payload.Close d u) s = said d (payload.Close d u) s.0.client s
    by_payload (payload.Connect d u heard) s = said d (payload.Connect d u heard) s.client s
    by_payload (payload.Reset d u heard) s = said d (payload.Reset d u heard) s.client s
    by_payload (payload.Query d u n l seen seq name q) s = said d (payload.Query d u n l seen seq name q) s.0.client s
    by_payload q s = absurd s

-- what a client's input sends, of the items after the step
pub acted_say : (h : histories.History) (w : worlds.World) (above : List Item) (c : ℕ) (s : worlds.Watcher) (i : inputs.Input) → seats.AllStand h w above → seats.AreTrueKept h w above
    → lists.at_place w.seats c ≡ Some s → MayCome w c i
    → let next = inputs.client_stepped s.client i in
    let new : worlds.Watcher = record s { client = next.client } in
    AllByRecursion (λ (x : ℕ × Payload). asked.PayloadSays (asked.IsSaidBy h (positions.change_place (λ old. new) w.seats c) (reverse (moves.with_shown c s.watches next.out.items) ++ above)) x.1) next.out.sends
acted_say h w above c s i k told is may =
    let next = inputs.client_stepped s.client i in
    let new : worlds.Watcher = record s { client = next.client } in
    let items = moves.with_shown c s.watches next.out.items in
    let ss = positions.change_place (λ old. new) w.seats c in
    let a : Acted h w above c s i = acted h w above c s i k told is may in
    let say = requests_say_calls h (seats.seat_below above s) i (k.stand c s is) a.may in
    all_since (λ (x : ℕ × Payload). requests.RequestSays h (seat_at next.client (reverse next.out.items ++ seats.unwatched above)) x.1)
    (λ (x : ℕ × Payload). asked.PayloadSays (asked.IsSaidBy h ss (reverse items ++ above)) x.1)
    (λ x q. request_said h ss (reverse items ++ above) c new (found_here w.seats c s new is) a.me x.1 (subst (λ ys. requests.RequestSays h (seat_at next.client ys) x.1) (sym a.after) q)) next.out.sends say
