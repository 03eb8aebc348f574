-- Runs, from what each step keeps.
use Rattle.std.proofs.Common.{◌≡◌, ℕ, zero, suc, List, [], ◌∷◌, ◌++◌, map, reverse, refl, ap, sym, ◌∙◌, subst, append-nil, append_assoc}
use Rattle.std.specs.Prelude.{Option, Some, None, slice_get}
use Rattle.std.proofs.lemmas.List.{reverse-append, reverse-reverse}
use Rattle.ax_types.specs.Places as lists
use Rattle.ax_types.specs.declared.entries.Act.{Act}
use Rattle.ax_types.specs.declared.entries.Act.TheVariants as act
use Rattle.ax_types.specs.declared.items.Item.{Item}
use Rattle.ax_types.specs.declared.steps.KeptStep.{KeptStep}
use Rattle.spec_raft.specs.Majority as majorities
use Rattle.spec_book.specs.History as histories
use Rattle.spec_claims.specs.Transcript as transcripts
use Rattle.spec_claims.specs.Once as claims_once
use Rattle.spec_claims.specs.Heard as claims_heard
use Rattle.spec_claims.specs.OutcomeOrder as outcome_order
use Rattle.spec_claims.specs.Payloads as payloads
use Rattle.spec_world.specs.Worlds as worlds
use Rattle.spec_world.specs.Moves as moves
use Rattle.spec_run.specs.Run as runs
use Rattle.law_growth.proofs.Numbers.{new_numbers}
use Rattle.law_client.specs.Inputs as inputs
use Rattle.law_client.specs.Standing as standing
use Rattle.law_client.specs.Promises as promises
use Rattle.law_client.proofs.Lists.{some_same, all_since, reverse_onto}
use Rattle.law_client.proofs.Shown.{IsAside, IsBlank, blank}
use Rattle.law_client.proofs.Promises.{new_client_stands}
use Rattle.law_seats.specs.Seats as seats
use Rattle.law_seats.proofs.Unwatched.{some_none, unwatched_reverse, heard_same}
use Rattle.law_seats.proofs.Seats.{each_step_seats}

record RanSo (h : histories.History) (w : worlds.World) (above : List Item) (steps : List KeptStep) : Type 0 where
  stand : seats.AllStand h (runs.ran w steps).world (reverse (transcripts.transcript (runs.ran w steps).shown) ++ above)
  claimed : transcripts.EachBelow (promises.IsClaimed h) above (transcripts.transcript (runs.ran w steps).shown)
  ends : outcome_order.EndsFrom above (runs.ran w steps).shown

pub each_append : (P : List Item → Item → Type 0) (above xs ys : List Item) → transcripts.EachBelow P above xs → transcripts.EachBelow P (reverse xs ++ above) ys → transcripts.EachBelow P above (xs ++ ys)
each_append P above [] ys a b = b
each_append P above (x ∷ xs) ys a b = (a.0, each_append P (x ∷ above) xs ys a.1 (subst (λ zs. transcripts.EachBelow P zs ys) (reverse_onto x xs above) b))

ran_so : (h : histories.History) (w : worlds.World) (above : List Item) (steps : List KeptStep) → seats.AllStand h w above → seats.AreTrueThrough h w above steps → RanSo h w above steps
ran_so h w above [] k told = record { stand = k; claimed = tt; ends = tt }
ran_so h w above (s ∷ steps) k told =
    let m = moves.moved w s in
    let one : seats.SeatsKeep h w above s = each_step_seats h w above s k told.0 in
    let more : RanSo h m.world (reverse m.items ++ above) steps = ran_so h m.world (reverse m.items ++ above) steps one.stand told.1 in
    let rest = transcripts.transcript (runs.ran m.world steps).shown in
    let back : reverse rest ++ (reverse m.items ++ above) ≡ reverse (m.items ++ rest) ++ above = sym (ap (λ ys. ys ++ above) (reverse-append m.items rest) ∙ append_assoc (reverse rest) (reverse m.items) above) in
    record {
      stand = subst (seats.AllStand h (runs.ran m.world steps).world) back more.stand;
      claimed = each_append (promises.IsClaimed h) above m.items rest one.claimed more.claimed;
      ends = (one.ends, more.ends);
    }

-- the clients of a new world
map_got : {X Y : Type 0} (f : X → Y) (xs : List X) (i : ℕ) (y : Y) → slice_get (map f xs) i ≡ Some y → (x : X) × (f x ≡ y)
map_got f [] i y e = absurd (cc)
map_got f (x ∷ xs) zero y e = (x, some_same (f x) y e)
map_got f (x ∷ xs) (suc i) y e = map_got f xs i y e

map_found : {X Y : Type 0} (f : X → Y) (xs : List X) (p : ℕ) (y : Y) → lists.at_place (map f xs) p ≡ Some y → (x : X) × (f x ≡ y)
map_found f xs zero y e = absurd (cc)
map_found f xs (suc k) y e = map_got f xs k y e

pub new_stand : (h : histories.History) (nodes clients timeout : ℕ) → seats.AllStand h (worlds.new_world nodes clients timeout) []
new_stand h nodes clients timeout = record {
  numbers = (new_numbers nodes clients timeout).numbers.seats;
  stand = λ c s e.
      let f = map_found worlds.new_watcher (majorities.cluster_of clients) c s e in
      subst (λ u. standing.Stands h (seats.seat_below [] u)) f.1 (new_client_stands h f.0);
  owned = tt;
}

none_found : (ss : List worlds.Watcher) (c d : ℕ) (u : worlds.Watcher) → lists.at_place ss d ≡ Some u → d ≡ c → lists.at_place ss c ≡ None → ⊥
none_found ss c d u x y z = some_none u (sym x ∙ ap (λ e. lists.at_place ss e) y ∙ z)

heard_by_none : (h : histories.History) (w : worlds.World) (items : List Item) (s : ℕ) → seats.AllStand h w (reverse items) → (seats.IsOfSeat h w.seats s → ⊥) → claims_once.Begins (claims_heard.heard s items) (histories.events h s)
heard_by_none h w items s k none =
    let b : IsBlank s (reverse items) = blank s (reverse items) (all_since (λ x. seats.IsOfSeats h w.seats (inputs.session_in x)) (λ x. IsAside s (inputs.session_in x)) (λ x o. not_it (inputs.session_in x) o) (reverse items) k.owned) in
    let nothing : claims_heard.heard s items ≡ [] = ap (λ xs. claims_heard.heard s xs) (sym (reverse-reverse items)) ∙ b.heard in
    (histories.events h s, ap (λ xs. xs ++ histories.events h s) (sym nothing))
  where
    not_it : (t : Option ℕ) → seats.IsOfSeats h w.seats t → IsAside s t
    not_it None o = tt
    not_it (Some u) o = λ e. none (subst (λ v. seats.IsOfSeat h w.seats v) (sym e) o)

heard_by_one : (h : histories.History) (w : worlds.World) (items : List Item) (s : ℕ) → seats.AllStand h w (reverse items) → seats.IsOfSeat h w.seats s → claims_once.Begins (claims_heard.heard s items) (histories.events h s)
heard_by_one h w items s k o =
    let me : o.seat.client.me ≡ o.client = k.numbers o.client o.seat o.found in
    let b : standing.HasHeard h (seats.unwatched (reverse items)) s =
    (k.stand o.client o.seat o.found).heard s o.opening (subst (λ c. payloads.IsOpeningOf c o.opening (lists.at_place h s)) (sym me) o.opened) in
    let same : claims_heard.heard s (reverse (seats.unwatched (reverse items))) ≡ claims_heard.heard s items =
    ap (λ xs. claims_heard.heard s xs) (sym (unwatched_reverse (reverse items)) ∙ ap seats.unwatched (reverse-reverse items)) ∙ heard_same s items in
    (b.0, b.1 ∙ ap (λ xs. xs ++ b.0) same)

pub heard_all : (h : histories.History) (w : worlds.World) (items : List Item) (s : ℕ) → seats.AllStand h w (reverse items) → (a : Option (ℕ × Act)) → lists.at_place h s ≡ a
    → claims_once.Begins (claims_heard.heard s items) (histories.events h s)
heard_all h w items s k None e = heard_by_none h w items s k (λ o. subst (payloads.IsOpeningOf o.client o.opening) e o.opened)
heard_all h w items s k (Some (t, act.Open c p)) e = by_found (lists.at_place w.seats c) refl
  where
    by_found : (f : Option worlds.Watcher) → lists.at_place w.seats c ≡ f → claims_once.Begins (claims_heard.heard s items) (histories.events h s)
    by_found None g = heard_by_none h w items s k (λ o. none_found w.seats c o.client o.seat o.found (subst (payloads.IsOpeningOf o.client o.opening) e o.opened).0 g)
    by_found (Some seat) g = heard_by_one h w items s k (record { client = c; opening = p; seat = seat; found = g; opened = subst (payloads.IsOpeningOf c p) (sym e) (refl, refl) })
heard_all h w items s k (Some (t, act.Nothing)) e = heard_by_none h w items s k (λ o. subst (payloads.IsOpeningOf o.client o.opening) e o.opened)
heard_all h w items s k (Some (t, act.Keep u)) e = heard_by_none h w items s k (λ o. subst (payloads.IsOpeningOf o.client o.opening) e o.opened)
heard_all h w items s k (Some (t, act.Do u n p)) e = heard_by_none h w items s k (λ o. subst (payloads.IsOpeningOf o.client o.opening) e o.opened)
heard_all h w items s k (Some (t, act.Close u)) e = heard_by_none h w items s k (λ o. subst (payloads.IsOpeningOf o.client o.opening) e o.opened)
heard_all h w items s k (Some (t, act.Expire u)) e = heard_by_none h w items s k (λ o. subst (payloads.IsOpeningOf o.client o.opening) e o.opened)

pub runs_are_claimed : seats.RunsAreClaimed
runs_are_claimed h nodes clients timeout steps told =
    let w = worlds.new_world nodes clients timeout in
    let r : RanSo h w [] steps = ran_so h w [] steps (new_stand h nodes clients timeout) told in
    let items = transcripts.transcript (runs.ran w steps).shown in
    let stand : seats.AllStand h (runs.ran w steps).world (reverse items) = subst (seats.AllStand h (runs.ran w steps).world) (append-nil (reverse items)) r.stand in
    record { stand = stand; claimed = r.claimed; ends = r.ends; heard = λ s. heard_all h (runs.ran w steps).world items s stand (lists.at_place h s) refl }
